use Rattle.std.proofs.Common.{subst}
use Rattle.ame_journal.specs.Words.{line_words, ReadsWord}
use Rattle.ame_journal.specs.Text.{words_of, IsSpellable}
use Rattle.ame_journal.proofs.TextLemmas.{reads_none, reads_some}
use Rattle.ame_journal.proofs.text.next_entry.Goals as goal

pub returns-in-None : goal.returns-in-None
returns-in-None c =
    let line = c.in-Some.line.now in
    let cut = c.in-Some.ensures in
    let read = c.in_ok-entry_of.ensures in
    reads_none c.args.text.now line c.in-Some.behind.now cut (subst (ReadsWord words_of IsSpellable (line_words line)) c.in-None.is read)

pub returns-in-Some-2 : goal.returns-in-Some-2
returns-in-Some-2 c =
    let line = c.in-Some.line.now in
    let cut = c.in-Some.ensures in
    let read = c.in_ok-entry_of.ensures in
    reads_some c.args.text.now line c.in-Some.behind.now c.in-Some-2.entry cut (subst (ReadsWord words_of IsSpellable (line_words line)) c.in-Some-2.is read)
