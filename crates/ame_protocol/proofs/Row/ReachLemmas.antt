-- The cells that a seat reaches, and types that grow with them.
use Rattle.std.proofs.Common.{◌≡◌, ℕ, ◌==◌, ◌⊎◌, inl, inr, Bool, true, false, ◌&&◌, ◌||◌, List, Option, Some, None, if◌then◌else◌, refl, ap, ◌∙◌}
use Rattle.std.proofs.lemmas.Bool.{eqb-true, eq-eqb}
use Rattle.ame_term.specs.Tree.{Typ, Val, Tree}
use Rattle.ame_term.specs.Signature.{Signature}
use Rattle.ame_term.specs.Frame.{Side}
use Rattle.ame_term.specs.declared.types.Sort.{Sort}
use Rattle.ame_term.specs.declared.types.Effect.{Effect}
use Rattle.ame_laws.specs.Typed.StoreTyping.{StoreTyping, Grows}
use Rattle.ame_laws.specs.Typed.Fragment.{IsFragment}
use Rattle.ame_laws.specs.Typed.TypedState.{IsStored, IsMember}
use Rattle.ame_laws.proofs.Typed.Weaken.{weaken_cells, weaken_value}
use Rattle.ame_store.specs.declared.cell.Cell.{Cell}
use Rattle.ame_store.specs.Cells.{IsOwnedBy}
use Rattle.ame_machine.specs.Run.Local.{LocalState}
use Rattle.ame_machine.specs.Run.Fit.{IsTypedPlace, IsTypedThroughout}
use Rattle.ame_protocol.specs.Row.Heap.{Heap, cell_at, IsLive}
use Rattle.ame_protocol.specs.Row.Scoped.{is_maker, reaches, types_where, live_types, reached_types}
use Rattle.ame_protocol.proofs.Row.CellLemmas.{each}

-- what a seat reaches, in words
abbrev pub Reached : ℕ → Cell Val → Type 0
Reached seat cell = IsLive cell ⊎ (IsOwnedBy seat cell × (cell.number ≡ 1))

both-true : (a b : Bool) → (a && b) ≡ true → (a ≡ true) × (b ≡ true)
both-true true b e = (refl, e)
both-true false b e = cc

maker-of : (seat : ℕ) (o : Option ℕ) (number : ℕ) → is_maker seat o number ≡ true → (o ≡ Some seat) × (number ≡ 1)
maker-of seat None number e = cc
maker-of seat (Some owner) number e =
    let b = both-true (owner == seat) (number == 1) e in
    (ap Some (eqb-true owner seat b.0), eqb-true number 1 b.1)

of-maker : (seat : ℕ) (o : Option ℕ) (number : ℕ) → o ≡ Some seat → number ≡ 1 → is_maker seat o number ≡ true
of-maker seat o number own one =
    ap (λ (x : Option ℕ). is_maker seat x number) own ∙ ap (λ (b : Bool). b && (number == 1)) (eq-eqb seat seat refl) ∙ eq-eqb number 1 one

pub reach-of : (seat : ℕ) (cell : Cell Val) → reaches seat cell ≡ true → Reached seat cell
reach-of seat cell e = by cell.live refl e
  where
    by : (b : Bool) → cell.live ≡ b → (b || is_maker seat cell.owner cell.number) ≡ true → Reached seat cell
    by true is e = inl is
    by false is e = inr (maker-of seat cell.owner cell.number e)

or-true : (a : Bool) → (a || true) ≡ true
or-true true = refl
or-true false = refl

pub of-reach : (seat : ℕ) (cell : Cell Val) → Reached seat cell → reaches seat cell ≡ true
of-reach seat cell (inl live) = ap (λ (b : Bool). b || is_maker seat cell.owner cell.number) live
of-reach seat cell (inr made) =
    ap (λ (b : Bool). cell.live || b) (of-maker seat cell.owner cell.number made.0 made.1) ∙ or-true cell.live

-- Types of some locations

where-gave : (b : Bool) (o : Option (Sort × Typ)) (cell : Sort × Typ) → (if b then o else None) ≡ Some cell → (b ≡ true) × (o ≡ Some cell)
where-gave true o cell e = (refl, e)
where-gave false o cell e = cc

pub where-of : (test : ℕ → Bool) (types : StoreTyping) (l : ℕ) (cell : Sort × Typ) → types_where test types l ≡ Some cell → (test l ≡ true) × (types l ≡ Some cell)
where-of test types l cell e = where-gave (test l) (types l) cell e

pub of-where : (test : ℕ → Bool) (types : StoreTyping) (l : ℕ) (cell : Sort × Typ) → test l ≡ true → types l ≡ Some cell → types_where test types l ≡ Some cell
of-where test types l cell passes is = ap (λ (b : Bool). if b then types l else None) passes ∙ is

pub where-grows : (test later_test : ℕ → Bool) (types later : StoreTyping) → Grows types later → ((l : ℕ) → test l ≡ true → later_test l ≡ true)
    → Grows (types_where test types) (types_where later_test later)
where-grows test later_test types later grows more l cell e =
    let h = where-of test types l cell e in
    of-where later_test later l cell (more l h.0) (grows l cell h.1)

pub where-within : (test : ℕ → Bool) (types : StoreTyping) → Grows (types_where test types) types
where-within test types l cell e = (where-of test types l cell e).1

pub reached-grows : (old new : Heap) (seat : ℕ) (types later : StoreTyping) → Grows types later → ((l : ℕ) → Reached seat (cell_at old l) → Reached seat (cell_at new l))
    → Grows (reached_types old seat types) (reached_types new seat later)
reached-grows old new seat types later grows more =
    where-grows (λ l. reaches seat (cell_at old l)) (λ l. reaches seat (cell_at new l)) types later grows
    (λ l e. of-reach seat (cell_at new l) (more l (reach-of seat (cell_at old l) e)))

-- what is live is reached
pub live-reached : (heap : Heap) (seat : ℕ) (types : StoreTyping) → Grows (live_types heap types) (reached_types heap seat types)
live-reached heap seat types =
    where-grows (λ l. (cell_at heap l).live) (λ l. reaches seat (cell_at heap l)) types types (λ l cell e. e) (λ l e. of-reach seat (cell_at heap l) (inl e))

-- Typed things, by more types

module _ (signature : Signature) (cells later : StoreTyping) (grows : Grows cells later) where
  pub stored-grown : (l : ℕ) (v : Val) → IsStored signature cells l v → IsStored signature later l v
  stored-grown l v h = (h.0, grows l h.0 h.1, (weaken_value signature cells later grows h.2.0, h.2.1))

  pub fragment-grown : (q : Effect) (term : Tree) (t : Typ) → IsFragment signature cells q term t → IsFragment signature later q term t
  fragment-grown q term t h = (weaken_cells signature cells later grows h.0, h.1)

  pub place-grown : (t : Typ) (p : LocalState) → IsTypedPlace signature cells t p → IsTypedPlace signature later t p
  place-grown t p h = record {
    fragment = fragment-grown Effect.Protected p.term t h.fragment;
    stored = λ l v e. stored-grown l v (h.stored l v e);
    members = each (IsMember signature cells) (IsMember signature later) (λ body m. fragment-grown Effect.Protected body Typ.Unit m) p.spawns h.members;
  }

  pub throughout-grown : (side : Side) (term : Tree) (inputs : List Val) (t : Typ) → IsTypedThroughout signature cells side term inputs t
      → IsTypedThroughout signature later side term inputs t
  throughout-grown side term inputs t h = λ n p ran used. place-grown t p (h n p ran used)
