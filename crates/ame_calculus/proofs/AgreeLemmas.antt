-- Two renamings that agree on the locations that have types rename a typed term alike.
use Rattle.std.proofs.Common.{◌≡◌, ℕ, List, Option, Some, None, option_map, refl, sym, ap, ◌∙◌}
use Rattle.ame_term.specs.Tree.{Typ, Val, Tree, Trees}
use Rattle.ame_term.specs.Scope.{Scope}
use Rattle.ame_term.specs.Numbered.{IsNumbered}
use Rattle.ame_term.specs.Signature.{Signature, listed}
use Rattle.ame_term.specs.Maps.{at}
use Rattle.ame_term.specs.State.{State}
use Rattle.ame_term.specs.SourceTerm.{IsSourceTerm}
use Rattle.ame_term.specs.Typing.{no_cells, Accepts}
use Rattle.ame_term.specs.HasType.{HasType, HasLast, HasValue, held, name, function, recursive, binding, sequence, choice, async, unprotected, one, two, last, more, unit, bool, int, location, function_value, recursive_value, pair}
use Rattle.ame_term.specs.declared.types.Effect.{Effect}
use Rattle.ame_term.specs.declared.types.Sort.{Sort}
use Rattle.ame_laws.specs.Typed.StoreTyping.{StoreTyping}
use Rattle.ame_laws.proofs.Typed.Started.{program_typed}
use Rattle.ame_calculus.specs.Renamed.{renamed_value, renamed, all_renamed, AreInverse, IsRenamed}

-- two renamings agree on the locations that have types
abbrev pub Agree : StoreTyping → (ℕ → ℕ) → (ℕ → ℕ) → Type 0
Agree cells f h = (l : ℕ) (cell : Sort × Typ) → cells l ≡ Some cell → f l ≡ h l

module _ (signature : Signature) (cells : StoreTyping) (f h : ℕ → ℕ) (agree : Agree cells f h) where
  mutual
    unfolding renamed_value renamed all_renamed

    pub same-renamed : {g : Scope} {q : Effect} {e : Tree} {t : Typ} → HasType signature cells g q e t → renamed f e ≡ renamed h e
    same-renamed (held v) = ap Tree.Held (same-value v)
    same-renamed (name e) = refl
    same-renamed (function {head} own body) = ap (Tree.Lambda head) (same-renamed body)
    same-renamed (recursive {head} own body) = ap (Tree.Lambda head) (same-renamed body)
    same-renamed (binding {x} bound body) =
        let p = same-renamed bound in
        let q = same-renamed body in
        λ i. Tree.Let x (p i) (q i)
    same-renamed (sequence parts) = ap Tree.Do (same-last parts)
    same-renamed (choice a b c) =
        let p = same-renamed a in
        let q = same-renamed b in
        let r = same-renamed c in
        λ i. Tree.If (p i) (q i) (r i)
    same-renamed (async body) = ap Tree.Async (same-renamed body)
    same-renamed (unprotected part) = ap Tree.Unprotected (same-renamed part)
    same-renamed (one {op} row part) = ap (Tree.One op) (same-renamed part)
    same-renamed (two {op} row left right) =
        let p = same-renamed left in
        let q = same-renamed right in
        λ i. Tree.Two op (p i) (q i)

    same-last : {g : Scope} {q : Effect} {parts : Trees} {t : Typ} → HasLast signature cells g q parts t → all_renamed f parts ≡ all_renamed h parts
    same-last (last part) = let p = same-renamed part in λ i. Trees.More (p i) Trees.None
    same-last (more part rest) =
        let p = same-renamed part in
        let q = same-last rest in
        λ i. Trees.More (p i) (q i)

    pub same-value : {v : Val} {t : Typ} → HasValue signature cells v t → renamed_value f v ≡ renamed_value h v
    same-value unit = refl
    same-value bool = refl
    same-value int = refl
    same-value (location {l} {s} {t} e) = ap Val.Loc (agree l (s, t) e)
    same-value (function_value {head} own body) = ap (Val.Fun head) (same-renamed body)
    same-value (recursive_value {head} own body) = ap (Val.Fun head) (same-renamed body)
    same-value (pair a b) =
        let p = same-value a in
        let q = same-value b in
        λ i. Val.Pair (p i) (q i)

mutual
  unfolding renamed_value renamed all_renamed

  -- with no location renamed it is as it was
  pub renamed-itself : (t : Tree) → renamed (λ l. l) t ≡ t
  renamed-itself (Tree.Held v) = ap Tree.Held (value-itself v)
  renamed-itself (Tree.Var x) = refl
  renamed-itself (Tree.Lambda head body) = ap (Tree.Lambda head) (renamed-itself body)
  renamed-itself (Tree.Let x bound body) =
      let p = renamed-itself bound in
      let q = renamed-itself body in
      λ i. Tree.Let x (p i) (q i)
  renamed-itself (Tree.Do parts) = ap Tree.Do (all-itself parts)
  renamed-itself (Tree.If a b c) =
      let p = renamed-itself a in
      let q = renamed-itself b in
      let r = renamed-itself c in
      λ i. Tree.If (p i) (q i) (r i)
  renamed-itself (Tree.Async body) = ap Tree.Async (renamed-itself body)
  renamed-itself (Tree.Unprotected part) = ap Tree.Unprotected (renamed-itself part)
  renamed-itself (Tree.One op part) = ap (Tree.One op) (renamed-itself part)
  renamed-itself (Tree.Two op left right) =
      let p = renamed-itself left in
      let q = renamed-itself right in
      λ i. Tree.Two op (p i) (q i)

  pub value-itself : (v : Val) → renamed_value (λ l. l) v ≡ v
  value-itself Val.Unit = refl
  value-itself (Val.Bool b) = refl
  value-itself (Val.Int n) = refl
  value-itself (Val.Loc l) = refl
  value-itself (Val.Fun head body) = ap (Val.Fun head) (renamed-itself body)
  value-itself (Val.Pair a b) =
      let p = value-itself a in
      let q = value-itself b in
      λ i. Val.Pair (p i) (q i)

  all-itself : (parts : Trees) → all_renamed (λ l. l) parts ≡ parts
  all-itself Trees.None = refl
  all-itself (Trees.More part rest) =
      let p = renamed-itself part in
      let q = all-itself rest in
      λ i. Trees.More (p i) (q i)

-- an option of what is renamed
mapped-back : {X : Type 0} (up down : X → X) → ((x : X) → down (up x) ≡ x) → (o p : Option X) → p ≡ option_map up o → o ≡ option_map down p
mapped-back up down same None p e = sym (ap (option_map down) e)
mapped-back up down same (Some x) p e = ap Some (sym (same x)) ∙ sym (ap (option_map down) e)

-- A term that is renamed, and renamed back, is as it was.
module _ (f g : ℕ → ℕ) (back : (l : ℕ) → g (f l) ≡ l) where
  mutual
    unfolding renamed_value renamed all_renamed

    pub renamed-back : (t : Tree) → renamed g (renamed f t) ≡ t
    renamed-back (Tree.Held v) = ap Tree.Held (value-back v)
    renamed-back (Tree.Var x) = refl
    renamed-back (Tree.Lambda head body) = ap (Tree.Lambda head) (renamed-back body)
    renamed-back (Tree.Let x bound body) =
        let p = renamed-back bound in
        let q = renamed-back body in
        λ i. Tree.Let x (p i) (q i)
    renamed-back (Tree.Do parts) = ap Tree.Do (all-back parts)
    renamed-back (Tree.If a b c) =
        let p = renamed-back a in
        let q = renamed-back b in
        let r = renamed-back c in
        λ i. Tree.If (p i) (q i) (r i)
    renamed-back (Tree.Async body) = ap Tree.Async (renamed-back body)
    renamed-back (Tree.Unprotected part) = ap Tree.Unprotected (renamed-back part)
    renamed-back (Tree.One op part) = ap (Tree.One op) (renamed-back part)
    renamed-back (Tree.Two op left right) =
        let p = renamed-back left in
        let q = renamed-back right in
        λ i. Tree.Two op (p i) (q i)

    pub value-back : (v : Val) → renamed_value g (renamed_value f v) ≡ v
    value-back Val.Unit = refl
    value-back (Val.Bool b) = refl
    value-back (Val.Int n) = refl
    value-back (Val.Loc l) = ap Val.Loc (back l)
    value-back (Val.Fun head body) = ap (Val.Fun head) (renamed-back body)
    value-back (Val.Pair a b) =
        let p = value-back a in
        let q = value-back b in
        λ i. Val.Pair (p i) (q i)

    all-back : (parts : Trees) → all_renamed g (all_renamed f parts) ≡ parts
    all-back Trees.None = refl
    all-back (Trees.More part rest) =
        let p = renamed-back part in
        let q = all-back rest in
        λ i. Trees.More (p i) (q i)

-- a renaming is undone
pub state-back : (f g : ℕ → ℕ) → AreInverse f g → (s t : State) → IsRenamed f s t → IsRenamed g t s
state-back f g inverse s t r = record {
  store = λ l.
      mapped-back (renamed_value f) (renamed_value g) (value-back f g inverse.back) (at s.store (g l)) (at t.store l)
      (ap (at t.store) (sym (inverse.forth l)) ∙ r.store (g l));
  members = λ i. mapped-back (renamed f) (renamed g) (renamed-back f g inverse.back) (at s.members i) (at t.members i) (r.members i);
  active = sym r.active;
  output = sym r.output;
  next = sym r.next;
}

-- an accepted program holds no location
pub program-same : (devices : ℕ) (places : List ℕ) (program : Tree) (refs : List Typ) → Accepts devices places program refs → IsSourceTerm program → IsNumbered 0 program
    → (f : ℕ → ℕ) → renamed f program ≡ program
program-same devices places program refs accepts source numbered f =
    same-renamed (listed devices refs) no_cells f (λ l. l) (λ l cell e. cc) (program_typed devices places program refs accepts source numbered) ∙ renamed-itself program
