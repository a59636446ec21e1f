use Rattle.std.proofs.Common.{◌∙◌}
use Rattle.ame_journal.proofs.LineLemmas.{head_of, head_is, not_entry}
use Rattle.ame_journal.proofs.line.entry_of.Goals as goal

pub returns-in_default : goal.returns-in_default
returns-in_default c = λ entry is e. let none = c.in_default.ensures in none (head_of entry) _ (head_is entry is) (c.new-words.ensures ∙ e)

pub returns-in-None : goal.returns-in-None
returns-in-None c =
    let head = c.in-Some.ensures in
    let fresh = c.in_ok-fresh.ensures in
    let none = c.in-None.ensures in
    λ entry is e. not_entry c.new-words.result _ _ c.in-Some.head _ head.0 fresh none entry is (c.new-words.ensures ∙ e)
