use Rattle.std.proofs.Common.{◌∙◌, sym}
use Rattle.ame_journal.proofs.UniqueLemmas.{text_of-same}
use Rattle.ame_journal.proofs.theorems.text_is_of_one_journal.Goals as goal

pub returns : goal.returns
returns c = λ text entries others one other. text_of-same entries others one.spellable other.spellable (sym one.spelled ∙ other.spelled)
