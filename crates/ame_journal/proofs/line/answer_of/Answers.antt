use Rattle.std.proofs.Common.{sym, true≢false, subst}
use Rattle.ame_journal.specs.Text.{answer_words}
use Rattle.ame_journal.specs.Words.{ReadsWord}
use Rattle.ame_journal.specs.Lines.{IsAnswer}
use Rattle.ame_journal.proofs.LineLemmas.{not_answer}
use Rattle.ame_journal.proofs.line.answer_of.Goals as goal

pub returns-in_err-equals_sign : goal.returns-in_err-equals_sign
returns-in_err-equals_sign c =
    let none = c.in_err-equals_sign.ensures in
    let some = c.if-is_empty.ensures in
    subst (ReadsWord answer_words (IsAnswer c.args.kind) c.args.words.now) (sym c.from_residual.ensures)
    (not_answer c.args.kind c.args.words.now (λ e. true≢false (sym (some.1 e))) (λ rest e. none.1 tt rest tt e))
