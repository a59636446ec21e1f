-- An accepted program begins typed, and each state that it reaches is typed.
use Rattle.std.proofs.Common.{◌≡◌, ℕ, Bool, true, false, List, [], Ok, refl, sym, ap, ◌∙◌, slice_index, append-nil}
use Rattle.std.proofs.Math.Logic.{∥∥₁_elim}
use mathlib.Core.Bool.{Bool-set}
use Rattle.ame_term.specs.Tree.{Typ, Tree}
use Rattle.ame_term.specs.Numbered.{IsNumbered}
use Rattle.ame_term.specs.Signature.{listed}
use Rattle.ame_term.specs.Scope.{unscoped}
use Rattle.ame_term.specs.Typing.{typed, typing, want_unit, no_cells, ref_types, Accepts}
use Rattle.ame_term.specs.Shown.{TypeOutcome}
use Rattle.ame_term.specs.SourceTerm.{IsSourceTerm}
use Rattle.ame_term.specs.HasType.{HasType}
use Rattle.ame_term.specs.State.{State, start, IsRun}
use Rattle.ame_term.specs.declared.semantics.Label.{Label}
use Rattle.ame_term.specs.declared.types.Effect.{Effect}
use Rattle.ame_laws.proofs.Tests.{then-gave, want_unit-gave}
use Rattle.ame_laws.proofs.Sound.{sound}
use Rattle.ame_laws.specs.Orderly.{IsOrderly}
use Rattle.ame_laws.proofs.OrderlyLemmas.{run-goes, start-orderly}
use Rattle.ame_laws.specs.Typed.StoreTyping.{StoreTyping}
use Rattle.ame_laws.specs.Typed.TypedState.{IsTyped}
use Rattle.ame_laws.proofs.Typed.TypeSets.{types_set}
use Rattle.ame_laws.proofs.Typed.ListedLemmas.{listed_type}
use Rattle.ame_laws.proofs.Typed.WellFormedLemmas.{source_formed}
use Rattle.ame_laws.proofs.Typed.Preserved.{preserved_along}

pub program_typed : (devices : ℕ) (places : List ℕ) (program : Tree) (refs : List Typ) → Accepts devices places program refs → IsSourceTerm program → IsNumbered 0 program
    → HasType (listed devices refs) no_cells unscoped Effect.Protected program Typ.Unit
program_typed devices places program refs accepted source numbered =
    let o = typed devices no_cells (slice_index places) unscoped Effect.Protected 0 program in
    let k = then-gave o (λ t. want_unit (slice_index places 0) t (Ok Typ.Unit)) Typ.Unit accepted.0 in
    let w = want_unit-gave (slice_index places 0) k.0 (Ok Typ.Unit) Typ.Unit k.2 in
    listed_type devices refs no_cells (sound devices no_cells (slice_index places) unscoped Effect.Protected 0 program Typ.Unit (k.1 ∙ ap Ok w.0))
    source (slice_index places) 0 0 numbered ([], accepted.1 ∙ sym (append-nil (ref_types devices places program)))

pub started : (devices : ℕ) (places : List ℕ) (program : Tree) (refs : List Typ) → Accepts devices places program refs → IsSourceTerm program → IsNumbered 0 program
    → IsTyped (listed devices refs) no_cells (start program)
started devices places program refs accepted source numbered = record {
  typed = record {
    stored = λ l v e. absurd (cc);
    members = ((program_typed devices places program refs accepted source numbered, source_formed program source), tt);
    present = λ i e. absurd (cc);
  };
  located = λ l cell e. absurd (cc);
}

-- whether an outcome is Unit
abbrev is_unit : TypeOutcome → Bool
is_unit (Ok Typ.Unit) = true
is_unit _ = false

unit_outcome : (o : TypeOutcome) → is_unit o ≡ true → o ≡ Ok Typ.Unit
unit_outcome (Ok Typ.Unit) e = refl
unit_outcome _ e = cc

-- what an accepted program keeps says that it is typed, with the list that it keeps
pub accepted : (devices : ℕ) (places : List ℕ) (program : Tree) (refs : List Typ) → ∥ Accepts devices places program refs ∥₁
    → Accepts devices places program refs
accepted devices places program refs kept =
    let o = typing devices places program in (
      unit_outcome o (∥∥₁_elim kept (Bool-set (is_unit o) true) (λ a. ap is_unit a.0)),
      ∥∥₁_elim kept (types_set refs (ref_types devices places program)) (λ a. a.1),
    )

-- and so is each state that it reaches
pub reached : (devices : ℕ) (places : List ℕ) (program : Tree) (refs : List Typ) (labels : List Label) (t : State) → Accepts devices places program refs → IsSourceTerm program
    → IsNumbered 0 program → IsRun program labels t → (cells : StoreTyping) × IsTyped (listed devices refs) cells t × IsOrderly t
reached devices places program refs labels t accepted source numbered ran =
    let p = preserved_along (listed devices refs) labels no_cells (start program) t (started devices places program refs accepted source numbered) ran in
    (p.0, p.2, (run-goes (start program) labels t ran).orderly (start-orderly program))
