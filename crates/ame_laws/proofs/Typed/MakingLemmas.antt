-- Which kinds of steps make an act, and that they have an effect in a typed state.
use Rattle.std.proofs.Common.{◌≡◌, ℕ, ◌+◌, ◌≤◌, Bool, true, false, ◌&&◌, List, [], ◌∷◌, Option, Some, None, refl, ◌∙◌, ap, is_some, is_none, arith, pos}
use Rattle.std.specs.Prelude.{if◌then◌else◌, option_map, IsSome}
use Rattle.std.specs.BTreeMap.{is_at}
use Rattle.std.specs.Ordering.{nat_cmp}
use Rattle.ame_term.specs.Tree.{Typ, Val, Tree}
use Rattle.ame_term.specs.Signature.{Signature}
use Rattle.ame_term.specs.Frame.{Side}
use Rattle.ame_term.specs.Act.{Act, StepName, Sides, step_name, same_step, making, making_on, made_there, is_among_sides, is_step_told, makes}
use Rattle.ame_term.specs.Maps.{at, put}
use Rattle.ame_term.specs.State.{State, performed, performed_on}
use Rattle.ame_term.specs.declared.semantics.StepKind.{StepKind}
use Rattle.ame_term.specs.declared.types.Loc.{Loc}
use Rattle.ame_term.specs.declared.types.Sort.{Sort}
use Rattle.ame_term.specs.declared.types.Effect.{Effect}
use Rattle.ame_laws.proofs.MapLemmas.{is_at-apart}
use Rattle.ame_laws.specs.Typed.StoreTyping.{StoreTyping}
use Rattle.ame_laws.specs.Typed.Fragment.{effect_at}
use Rattle.ame_laws.specs.Typed.TypedAct.{IsTypedAct}
use Rattle.ame_laws.specs.Typed.Progress.{is_fresh, IsKnown, CanBeMade}
use Rattle.ame_laws.proofs.Typed.RedexSorts.{IsOther}

-- The kinds of a name.

-- a kind of step by its name; its location and its answer are given
abbrev pub kind_named : StepName → Loc → StepKind
kind_named StepName.Local l = StepKind.Local
kind_named StepName.Alloc l = StepKind.Alloc l
kind_named StepName.Read l = StepKind.Read
kind_named StepName.Peek l = StepKind.Peek
kind_named StepName.Write l = StepKind.Write
kind_named StepName.Spawn l = StepKind.Spawn
kind_named StepName.Print l = StepKind.Print
kind_named StepName.Block l = StepKind.Block
kind_named StepName.Device l = StepKind.Device (pos 0)

pub kind_named-named : (name : StepName) (l : Loc) → same_step name (step_name (kind_named name l)) ≡ true
kind_named-named StepName.Local l = refl
kind_named-named _ l = refl

pub kind_named-fresh : (s : State) (name : StepName) (l : Loc) → at s.store l.0 ≡ None → is_fresh s (kind_named name l) ≡ true
kind_named-fresh s StepName.Alloc l fresh = ap is_none fresh
kind_named-fresh s _ l fresh = refl

pub same_step-true : (a b : StepName) → same_step a b ≡ true → a ≡ b
same_step-true StepName.Local StepName.Local e = refl
same_step-true StepName.Alloc StepName.Alloc e = refl
same_step-true StepName.Read StepName.Read e = refl
same_step-true StepName.Peek StepName.Peek e = refl
same_step-true StepName.Write StepName.Write e = refl
same_step-true StepName.Spawn StepName.Spawn e = refl
same_step-true StepName.Print StepName.Print e = refl
same_step-true StepName.Block StepName.Block e = refl
same_step-true StepName.Device StepName.Device e = refl
same_step-true _ _ e = cc

pub some_kind : (o : Option StepName) (l : Loc) → IsSome o → (name : StepName) × (o ≡ Some name) × (is_step_told o (kind_named name l) ≡ true)
some_kind None l there = absurd (cc)
some_kind (Some name) l there = (name, refl, kind_named-named name l)

-- A typed act can be made in its place.

pub is_unprotected : (side : Side) → effect_at side Effect.Protected ≡ Effect.Unprotected → side ≡ Side.Unprotected
is_unprotected Side.Unprotected e = refl
is_unprotected Side.Protected e = cc

pub is_protected : (side : Side) → effect_at side Effect.Protected ≡ Effect.Protected → side ≡ Side.Protected
is_protected Side.Unprotected e = cc
is_protected Side.Protected e = refl

module _ (signature : Signature) (cells : StoreTyping) (known : ℕ → Bool) (there : (l : ℕ) (cell : Sort × Typ) → cells l ≡ Some cell → known l ≡ true) (side : Side) (t : Typ) where
  pub known_act : (act : Act) → IsTypedAct signature cells (effect_at side Effect.Protected) t act → IsKnown known act
  known_act (Act.Reads l) a = there l (a.0, t) a.1
  known_act (Act.Peeks l) a = there l (Sort.Protected, t) a.0
  known_act (Act.Writes l v) a = there l (a.0, a.1) a.2
  known_act _ a = tt

  made_act : (act : Act) → IsTypedAct signature cells (effect_at side Effect.Protected) t act → IsOther act → IsSome (making_on side act)
  made_act (Act.Peeks l) a o = ap (λ z. is_some (making_on z (Act.Peeks l))) (is_unprotected side a.1)
  made_act Act.Passes a o = ap (λ z. is_some (making_on z Act.Passes)) (is_protected side a.0)
  made_act (Act.Calls device n) a o = ap (λ z. is_some (making_on z (Act.Calls device n))) (is_unprotected side a.1)
  made_act Act.Fails a o = absurd o
  made_act (Act.Closes v) a o = absurd o
  made_act Act.Stuck a o = absurd a
  made_act _ a o = refl

  pub can_be_made : (act : Act) → IsTypedAct signature cells (effect_at side Effect.Protected) t act → IsOther act → CanBeMade known side act
  can_be_made act a o = (made_act act a o, known_act act a)

-- The steps that make an act have an effect, if the location that they make is fresh.

-- whether a kind of step is of the name in a row
abbrev is_named : Option (Sides × StepName) → StepKind → Bool
is_named None kind = false
is_named (Some row) kind = same_step row.1 (step_name kind)

named : (side : Side) (row : Option (Sides × StepName)) (kind : StepKind) → is_step_told (made_there side row) kind ≡ true → is_named row kind ≡ true
named side None kind e = e
named side (Some row) kind e = by (is_among_sides row.0 side) e
  where
    by : (b : Bool) → is_step_told (elim b [ true ↦ Some row.1 | false ↦ None ]) kind ≡ true → same_step row.1 (step_name kind) ≡ true
    by true e = e
    by false e = cc

pub some-map : {A B : Type 0} (f : A → B) (o : Option A) → is_some (option_map f o) ≡ is_some o
some-map f None = refl
some-map f (Some x) = refl

module _ (s : State) where
  effect_made : (kind : StepKind) (act : Act) → IsKnown (λ l. is_some (at s.store l)) act → is_named (making act) kind ≡ true → is_some (performed kind act s) ≡ is_fresh s kind
  effect_made StepKind.Local (Act.Becomes e) a k = refl
  effect_made (StepKind.Alloc l) (Act.Allocates sort number v) a k = by (at s.store l.0)
    where
      by : (o : Option Val) → is_some {T = Tree × State} (if is_some o then None else Some (Tree.Held (Val.Loc l.0), record s { store = put s.store l.0 v })) ≡ is_none o
      by None = refl
      by (Some w) = refl
  effect_made StepKind.Read (Act.Reads l) a k = some-map (λ v. (Tree.Held v, s)) (at s.store l) ∙ a
  effect_made StepKind.Peek (Act.Peeks l) a k = some-map (λ v. (Tree.Held v, s)) (at s.store l) ∙ a
  effect_made StepKind.Write (Act.Writes l v) a k = refl
  effect_made StepKind.Spawn (Act.Spawns body) a k = refl
  effect_made StepKind.Print (Act.Prints n) a k = refl
  effect_made StepKind.Block Act.Passes a k = refl
  effect_made (StepKind.Device answer) (Act.Calls device n) a k = refl
  effect_made _ _ a k = cc

  pub made_on : (side : Side) (kind : StepKind) (act : Act) → IsKnown (λ l. is_some (at s.store l)) act → is_some (performed_on side kind act s) ≡ (makes side kind act && is_fresh s kind)
  made_on side kind act a = by (makes side kind act) (λ e. effect_made kind act a (named side (making act) kind e))
    where
      by : (b : Bool) → (b ≡ true → is_some (performed kind act s) ≡ is_fresh s kind) → is_some (if b then performed kind act s else None) ≡ (b && is_fresh s kind)
      by true made = made refl
      by false made = refl

-- A location that isn't in a store.

above : {X : Type 0} → List (ℕ × X) → ℕ
above [] = 0
above (e ∷ es) = 1 + e.0 + above es

at-above : {X : Type 0} (es : List (ℕ × X)) (n : ℕ) → above es ≤ n → at es n ≡ None
unfolding above
at-above [] n h = refl
at-above (e ∷ es) n h =
    let apart : is_at (nat_cmp n) e.0 ≡ false = is_at-apart n e.0 (λ same. omega arith) in
    rw apart (at-above es n (omega arith))

pub fresh_in : {X : Type 0} (es : List (ℕ × X)) → (l : Loc) × (at es l.0 ≡ None)
fresh_in es = (record { 0 = above es }, at-above es (above es) (omega arith))
