use Rattle.std.proofs.Common.{ℕ, List, ◌+◌, ◌++◌, ap, ◌∙◌, subst}
use Rattle.ame_why.specs.BadLines.{IsLineError, ExplainsLine}
use Rattle.ame_why.specs.Placed.{placed_within}
use Rattle.ame_why.specs.Words.{line_from}
use Rattle.ame_why.proofs.journal_line.explain_line.Goals as goal

pub returns : goal.returns
returns c =
    let input = c.args.input.now in
    let place = c.fault_of-place.result.0 in
    let message = c.fault_of-place.result.1.now in
    let row = c.line_from.ensures.line ∙ ap (line_from input) c.line_start-start.ensures.value in
    ExplainsLine.fault place message (subst (λ (line : List ℕ). IsLineError line place message) row c.fault_of-place.ensures.fault)
    (c.in_ok-page-2.ensures ∙ ap (λ (start : ℕ). placed_within input (start + place) ++ message) c.line_start-start.ensures.value)
