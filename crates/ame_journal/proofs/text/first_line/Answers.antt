use Rattle.ame_journal.proofs.TextLemmas.{cut-none, cut-some}
use Rattle.ame_journal.proofs.text.first_line.Goals as goal

pub returns-in-len1-up : goal.returns-in-len1-up
returns-in-len1-up c =
    cut-some c.args.text.now _ c.split_at.result.1.now _ c.line_len.ensures.value c.split_at.ensures.front c.split_at.ensures.back c.in-len1-up.len_at_least

pub returns-in-empty : goal.returns-in-empty
returns-in-empty c = cut-none c.args.text.now c.split_at.result.1.now _ c.line_len.ensures.value c.split_at.ensures.back c.in-empty.len_below
