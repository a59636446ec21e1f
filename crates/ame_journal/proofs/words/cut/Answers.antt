use Rattle.ame_journal.proofs.WordLemmas.{cut-last, cut-more}
use Rattle.ame_journal.proofs.words.cut.Goals as goal

pub returns-in-empty : goal.returns-in-empty
returns-in-empty c =
    cut-last c.args.line.now _ c.split_at.result.1.now _ c.word_len.ensures.value c.split_at.ensures.front c.split_at.ensures.back c.in-empty.len_below

pub returns-in-len1-up : goal.returns-in-len1-up
returns-in-len1-up c =
    cut-more c.args.line.now _ c.split_at.result.1.now _ c.word_len.ensures.value c.split_at.ensures.front c.split_at.ensures.back c.in-len1-up.len_at_least
