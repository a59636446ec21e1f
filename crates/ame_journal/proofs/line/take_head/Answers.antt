use Rattle.std.proofs.Common.{sym, subst}
use Rattle.ame_journal.specs.Lines.{TakesHead}
use Rattle.ame_journal.proofs.LineLemmas.{not_head}
use Rattle.ame_journal.proofs.line.take_head.Goals as goal

pub returns-in_err-number-2 : goal.returns-in_err-number-2
returns-in_err-number-2 c =
    let none = c.in_err-number-2.ensures in
    let number = c.in_ok-number.ensures in
    let seat = c.in_ok-seat.ensures in
    let kind = c.in_ok-kind.ensures in
    subst (λ o. TakesHead c.args.words.now o c.number-2.new.self) (sym c.from_residual-in_err-number-2.ensures)
    (not_head c.args.words.now _ _ _ c.in_ok-kind.field-0 c.in_ok-seat.field-0 c.in_ok-number.field-0 kind.0 seat.0 number.0 none.1)
