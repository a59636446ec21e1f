use Rattle.ame_journal.proofs.WordLemmas.{is_empty-words}
use Rattle.ame_journal.proofs.words.Words.is_empty.Goals as goal

pub returns : goal.returns
returns c = is_empty-words c.self.inside.rest _ _ c.self.view_is c.is_none.ensures
