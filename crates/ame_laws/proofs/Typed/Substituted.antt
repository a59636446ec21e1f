-- A value of a name's type in for the name.
use Rattle.std.proofs.Common.{◌≡◌, ℕ, Bool, true, false, ◌||◌, Some, None, refl, subst, inl, arith}
use Rattle.std.proofs.lemmas.Bool.Decides.{nat_tests}
use Rattle.std.specs.Prelude.{if◌then◌else◌, ◌==◌}
use Rattle.ame_term.specs.Tree.{Typ, OwnName, Head, Val, Tree, Trees}
use Rattle.ame_term.specs.Signature.{Signature}
use Rattle.ame_term.specs.Scope.{Scope, bind}
use Rattle.ame_term.specs.Substitute.{binds, substitute, substitute_all}
use Rattle.ame_term.specs.HasType.{HasType, HasLast, HasValue, held, name, function, recursive, binding, sequence, choice, async, unprotected, one, two, last, more}
use Rattle.ame_term.specs.declared.types.Effect.{Effect}
use Rattle.ame_laws.specs.Typed.StoreTyping.{StoreTyping}
use Rattle.ame_laws.proofs.Typed.Weaken.{Within, within_bind, weaken}

-- Names bound one after the other.

-- a name that hides an outer one
pub shadows : (x y : ℕ) (t u : Typ) (h : Scope) → (y == x) ≡ true → Within (bind y u (bind x t h)) (bind y u h)
shadows x y t u h same z s = by (y == z) refl
  where
    apart : (x y z : ℕ) → (y == x) ≡ true → (y == z) ≡ false → (x == z) ≡ false
    apart x y z e f = grind (arith, nat_tests)

    by : (b : Bool) → (y == z) ≡ b → (if b then Some u else (if x == z then Some t else h z)) ≡ Some s → (if b then Some u else h z) ≡ Some s
    by true is e = e
    by false is e = rw (apart x y z same is) at e

-- names in the other order
exchanged : (x y : ℕ) (t u : Typ) (h : Scope) → (y == x) ≡ false → Within (bind y u (bind x t h)) (bind x t (bind y u h))
exchanged x y t u h differ z s = by (y == z) refl
  where
    apart : (x y z : ℕ) → (y == x) ≡ false → (y == z) ≡ true → (x == z) ≡ false
    apart x y z e f = grind (arith, nat_tests)

    by : (b : Bool) → (y == z) ≡ b → (if b then Some u else (if x == z then Some t else h z)) ≡ Some s
        → (if x == z then Some t else (if b then Some u else h z)) ≡ Some s
    by true is e = rw (apart x y z differ is) e
    by false is e = e

-- under a binder that hides the name, and under another one
hides : (x y : ℕ) (t u : Typ) (g h : Scope) → Within g (bind x t h) → (y == x) ≡ true → Within (bind y u g) (bind y u h)
hides x y t u g h w same z s e = shadows x y t u h same z s (within_bind y u g (bind x t h) w z s e)

passes : (x y : ℕ) (t u : Typ) (g h : Scope) → Within g (bind x t h) → (y == x) ≡ false → Within (bind y u g) (bind x t (bind y u h))
passes x y t u g h w differ z s e = exchanged x y t u h differ z s (within_bind y u g (bind x t h) w z s e)

-- the two binders of a recursive function
hides_two : (x p o : ℕ) (t u v : Typ) (g h : Scope) → Within g (bind x t h) → ((p == x) || (o == x)) ≡ true → Within (bind p u (bind o v g)) (bind p u (bind o v h))
hides_two x p o t u v g h w e = by (o == x) refl
  where
    left : (a : Bool) → (a || false) ≡ true → a ≡ true
    left true e = refl
    left false e = e

    by : (b : Bool) → (o == x) ≡ b → Within (bind p u (bind o v g)) (bind p u (bind o v h))
    by true is = within_bind p u (bind o v g) (bind o v h) (hides x o t v g h w is)
    by false is = hides x p t u (bind o v g) (bind o v h) (passes x o t v g h w is) (left (p == x) (rw is at e))

neither : (a b : Bool) → (a || b) ≡ false → (a ≡ false) × (b ≡ false)
neither true b e = cc
neither false b e = (refl, e)

no_own : (head : Head) (x : ℕ) (b : Bool) → head.own ≡ None → binds head x ≡ b → (head.param == x) ≡ b
no_own head x b p e = only (head.param == x) b (rw p at e)
  where
    only : (a b : Bool) → (a || false) ≡ b → a ≡ b
    only true b e = e
    only false b e = e

with_name : (head : Head) (own : OwnName) (x : ℕ) (b : Bool) → head.own ≡ Some own → binds head x ≡ b → ((head.param == x) || (own.name == x)) ≡ b
with_name head own x b p e = rw p at e

module _ (signature : Signature) (cells : StoreTyping) (x : ℕ) (t : Typ) (w : Val) (value : HasValue signature cells w t) where
  put_in : (h : Scope) (q : Effect) (y : ℕ) (u : Typ) (b : Bool) → (if b then Some t else h y) ≡ Some u → HasType signature cells h q (if b then Tree.Held w else Tree.Var y) u
  put_in h q y u true e = let same : t ≡ u = cc in held (subst (HasValue signature cells w) same value)
  put_in h q y u false e = name e

  bodies : (h : Scope) (q : Effect) (u : Typ) (b : Bool) (body changed : Tree) → (b ≡ true → HasType signature cells h q body u) → (b ≡ false → HasType signature cells h q changed u) →
      HasType signature cells h q (if b then body else changed) u
  bodies h q u true body changed kept put = kept refl
  bodies h q u false body changed kept put = put refl

  stays : {g : Scope} {q : Effect} {e : Tree} {u : Typ} → HasType signature cells g q e u → (h : Scope) → Within g h → HasType signature cells h q e u
  stays {g} {q} a h w' = weaken signature cells cells (λ l cell e. e) a h w' q (inl refl)

  mutual
    unfolding substitute substitute_all

    -- a term typed with the name, among others
    pub substituted : {g : Scope} {q : Effect} {e : Tree} {u : Typ} → HasType signature cells g q e u → (h : Scope) → Within g (bind x t h) → HasType signature cells h q (substitute e x w) u
    substituted (held v) h p = held v
    substituted (name {q = q} {x = y} {t = u} e) h p =
        put_in h q y u (y == x) (subst (λ (b : Bool). (if b then Some t else h y) ≡ Some u) (other_way x y) (p y u e))
      where
        other_way : (x y : ℕ) → (x == y) ≡ (y == x)
        other_way x y = grind (arith, nat_tests)
    substituted (function {g} {q} {head} {body} {u} o b) h p =
        let inner = bind head.param head.param_type h in
        function o
        (bodies inner head.effect u (binds head x) body (substitute body x w)
        (λ is. stays b inner (hides x head.param t head.param_type g h p (no_own head x true o is)))
        (λ is. substituted b inner (passes x head.param t head.param_type g h p (no_own head x false o is))))
    substituted (recursive {g} {q} {head} {own} {body} o b) h p =
        let f = Typ.Fun head.effect head.param_type own.result in
        let inner = bind head.param head.param_type (bind own.name f h) in
        recursive o
        (bodies inner head.effect own.result (binds head x) body (substitute body x w)
        (λ is. stays b inner (hides_two x head.param own.name t head.param_type f g h p (with_name head own x true o is)))
        (λ is.
        let apart = neither (head.param == x) (own.name == x) (with_name head own x false o is) in
        substituted b inner (passes x head.param t head.param_type (bind own.name f g) (bind own.name f h) (passes x own.name t f g h p apart.1) apart.0)))
    substituted (binding {g} {q} {x = y} {body = body} {t = s} {u = u} a b) h p =
        binding (substituted a h p)
        (bodies (bind y s h) q u (y == x) body (substitute body x w)
        (λ is. stays b (bind y s h) (hides x y t s g h p is))
        (λ is. substituted b (bind y s h) (passes x y t s g h p is)))
    substituted (sequence a) h p = sequence (substituted_last a h p)
    substituted (choice a b c) h p = choice (substituted a h p) (substituted b h p) (substituted c h p)
    substituted (async a) h p = async (substituted a h p)
    substituted (unprotected a) h p = unprotected (substituted a h p)
    substituted (one row a) h p = one row (substituted a h p)
    substituted (two row a b) h p = two row (substituted a h p) (substituted b h p)

    pub substituted_last : {g : Scope} {q : Effect} {parts : Trees} {u : Typ} → HasLast signature cells g q parts u → (h : Scope) → Within g (bind x t h) → HasLast signature cells h q (substitute_all parts x w) u
    substituted_last (last a) h p = last (substituted a h p)
    substituted_last (more a b) h p = more (substituted a h p) (substituted_last b h p)

-- a body with a name of the value's type, and no other
pub put_for : (signature : Signature) (cells : StoreTyping) (x : ℕ) (t : Typ) (w : Val) → HasValue signature cells w t → (h : Scope) {q : Effect} {e : Tree} {u : Typ} → HasType signature cells (bind x t h) q e u
    → HasType signature cells h q (substitute e x w) u
put_for signature cells x t w value h a = substituted signature cells x t w value a h (λ y s e. e)
