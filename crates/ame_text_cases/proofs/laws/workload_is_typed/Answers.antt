use Rattle.std.proofs.Common.{◌≡◌, refl, ap, ◌∙◌, ℕ, Ok}
use Rattle.std.specs.Prelude.{slice_index}
use Rattle.std.proofs.lemmas.List.Elements.{recursion_from_All}
use Rattle.ame_term.specs.Tree.{Typ}
use Rattle.ame_term.specs.Scope.{unscoped}
use Rattle.ame_term.specs.Signature.{unlisted}
use Rattle.ame_term.specs.Typing.{no_cells, program_row, same_type}
use Rattle.ame_term.specs.declared.types.Effect.{Effect}
use Rattle.ame_gen.specs.Transfers.{transfers, IsTransfer}
use Rattle.ame_text_cases.specs.Workload.{workload_term}
use Rattle.ame_text_cases.proofs.TypingLemmas.{workload_has}
use Rattle.ame_text_cases.proofs.laws.workload_is_typed.Goals as goal

-- a program that is typed as Unit passes
passes : (at : ℕ) → program_row at (Ok Typ.Unit) ≡ Ok Typ.Unit
unfolding same_type
passes at = refl

pub returns : goal.returns
returns c = λ seed size devices places.
    let valid = recursion_from_All IsTransfer (transfers seed size) (c.transfers_are_valid.ensures seed size) in
    let given = c.table_gives_what_is_had.ensures (unlisted devices) no_cells (slice_index places) unscoped Effect.Protected 0 (workload_term seed size) Typ.Unit (workload_has devices seed size valid) in
    ap (program_row (slice_index places 0)) given ∙ passes (slice_index places 0)
