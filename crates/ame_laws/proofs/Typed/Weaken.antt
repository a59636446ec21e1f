-- A typing with more names, more locations, and under an effect that fits.
use Rattle.std.proofs.Common.{◌≡◌, ℕ, Bool, true, false, ◌⊎◌, Some, refl, subst, ◌∙◌, inl, inr}
use Rattle.std.specs.Prelude.{if◌then◌else◌, ◌==◌}
use Rattle.ame_term.specs.Tree.{Typ, Val, Tree, Trees}
use Rattle.ame_term.specs.Signature.{Signature}
use Rattle.ame_term.specs.Scope.{Scope, bind, unscoped}
use Rattle.ame_term.specs.HasType.{HasType, HasLast, HasValue, HasUnary, HasBinary, code_of, held, name, function, recursive, binding, sequence, choice, async, unprotected, one, two, last, more, unit, bool, int, location, function_value, recursive_value, pair}
use Rattle.ame_term.specs.declared.types.Sort.{Sort}
use Rattle.ame_term.specs.declared.types.Effect.{Effect}
use Rattle.ame_term.specs.declared.types.Unary.{Unary}
use Rattle.ame_term.specs.declared.types.Binary.{Binary}
use Rattle.ame_laws.specs.Typed.StoreTyping.{StoreTyping, Grows}

-- a scope has the names of another one, with their types
abbrev pub Within : Scope → Scope → Type 0
Within g h = (y : ℕ) (t : Typ) → g y ≡ Some t → h y ≡ Some t

pub within_itself : (g : Scope) → Within g g
within_itself g y t e = e

pub within_bind : (x : ℕ) (t : Typ) (g h : Scope) → Within g h → Within (bind x t g) (bind x t h)
within_bind x t g h w y s = by (x == y)
  where
    by : (b : Bool) → (if b then Some t else g y) ≡ Some s → (if b then Some t else h y) ≡ Some s
    by true e = e
    by false e = w y s e

-- code of the first effect may stand under the second
abbrev pub Fits : Effect → Effect → Type 0
Fits q r = (q ≡ r) ⊎ (q ≡ Effect.Either)

never_either : (s : Sort) → code_of s ≡ Effect.Either → ⊥
never_either Sort.Protected e = cc
never_either Sort.Unprotected e = cc

pub under_protected : (r : Effect) → Fits Effect.Protected r → Effect.Protected ≡ r
under_protected r (inl f) = f
under_protected r (inr f) = cc

-- what may stand under the effect that fits both may stand under each
unary_either : {signature : Signature} {op : Unary} {q : Effect} {t u : Typ} → HasUnary signature op q t u → q ≡ Effect.Either → (r : Effect) → HasUnary signature op r t u
unary_either HasUnary.negation e r = HasUnary.negation
unary_either (HasUnary.reference m) e r = HasUnary.reference m
unary_either (HasUnary.get {s} k) e r = absurd (never_either s (k ∙ e))
unary_either HasUnary.peek e r = cc
unary_either HasUnary.block e r = cc
unary_either HasUnary.print e r = HasUnary.print
unary_either (HasUnary.call k) e r = cc
unary_either HasUnary.first e r = HasUnary.first
unary_either HasUnary.second e r = HasUnary.second

binary_either : {op : Binary} {q : Effect} {t u w : Typ} → HasBinary op q t u w → q ≡ Effect.Either → (r : Effect) → HasBinary op r t u w
binary_either (HasBinary.app (inl k)) e r = HasBinary.app (inr (k ∙ e))
binary_either (HasBinary.app (inr k)) e r = HasBinary.app (inr k)
binary_either (HasBinary.operation o) e r = HasBinary.operation o
binary_either (HasBinary.set {s} k) e r = absurd (never_either s (k ∙ e))
binary_either HasBinary.pair e r = HasBinary.pair

unary_fits : {signature : Signature} {op : Unary} {q : Effect} {t u : Typ} → HasUnary signature op q t u → (r : Effect) → Fits q r → HasUnary signature op r t u
unary_fits {signature} {op} {q} {t} {u} row r (inl e) = subst (λ (z : Effect). HasUnary signature op z t u) e row
unary_fits row r (inr e) = unary_either row e r

binary_fits : {op : Binary} {q : Effect} {t u w : Typ} → HasBinary op q t u w → (r : Effect) → Fits q r → HasBinary op r t u w
binary_fits {op} {q} {t} {u} {w} row r (inl e) = subst (λ (z : Effect). HasBinary op z t u w) e row
binary_fits row r (inr e) = binary_either row e r

module _ (signature : Signature) (cells later : StoreTyping) (grows : Grows cells later) where
  mutual
    pub weaken : {g : Scope} {q : Effect} {e : Tree} {t : Typ} → HasType signature cells g q e t → (h : Scope) → Within g h → (r : Effect) → Fits q r → HasType signature later h r e t
    weaken (held v) h w r f = held (weaken_value v)
    weaken (name {g} {q} {x} {t} e) h w r f = name (w x t e)
    weaken (function {g} {q} {head} p b) h w r f =
        function p (weaken b (bind head.param head.param_type h) (within_bind head.param head.param_type g h w) head.effect (inl refl))
    weaken (recursive {g} {q} {head} {own} p b) h w r f =
        let t = Typ.Fun head.effect head.param_type own.result in
        recursive p
        (weaken b (bind head.param head.param_type (bind own.name t h))
        (within_bind head.param head.param_type (bind own.name t g) (bind own.name t h) (within_bind own.name t g h w)) head.effect (inl refl))
    weaken (binding {g} {q} {x} {bound} {body} {t} a b) h w r f = binding (weaken a h w r f) (weaken b (bind x t h) (within_bind x t g h w) r f)
    weaken (sequence a) h w r f = sequence (weaken_last a h w r f)
    weaken (choice a b c) h w r f = choice (weaken a h w r f) (weaken b h w r f) (weaken c h w r f)
    weaken (async a) h w r f = async (weaken a h w Effect.Protected (inl refl))
    weaken (unprotected {g} {e} {t} a) h w r f =
        subst (λ (z : Effect). HasType signature later h z (Tree.Unprotected e) t) (under_protected r f) (unprotected (weaken a h w Effect.Unprotected (inl refl)))
    weaken (one row a) h w r f = one (unary_fits row r f) (weaken a h w r f)
    weaken (two row a b) h w r f = two (binary_fits row r f) (weaken a h w r f) (weaken b h w r f)

    pub weaken_last : {g : Scope} {q : Effect} {parts : Trees} {t : Typ} → HasLast signature cells g q parts t → (h : Scope) → Within g h → (r : Effect) → Fits q r → HasLast signature later h r parts t
    weaken_last (last a) h w r f = last (weaken a h w r f)
    weaken_last (more a b) h w r f = more (weaken a h w r f) (weaken_last b h w r f)

    pub weaken_value : {v : Val} {t : Typ} → HasValue signature cells v t → HasValue signature later v t
    weaken_value unit = unit
    weaken_value bool = bool
    weaken_value int = int
    weaken_value (location {l} {s} {t} e) = location (grows l (s, t) e)
    weaken_value (function_value {head} p b) =
        function_value p (weaken b (bind head.param head.param_type unscoped) (within_itself (bind head.param head.param_type unscoped)) head.effect (inl refl))
    weaken_value (recursive_value {head} {own} p b) =
        let g = bind head.param head.param_type (bind own.name (Typ.Fun head.effect head.param_type own.result) unscoped) in
        recursive_value p (weaken b g (within_itself g) head.effect (inl refl))
    weaken_value (pair a b) = pair (weaken_value a) (weaken_value b)

  -- the same names and effect
  pub weaken_cells : {g : Scope} {q : Effect} {e : Tree} {t : Typ} → HasType signature cells g q e t → HasType signature later g q e t
  weaken_cells {g} {q} a = weaken a g (within_itself g) q (inl refl)
