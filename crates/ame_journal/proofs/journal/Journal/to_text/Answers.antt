use Rattle.std.proofs.Common.{◌∙◌, ◌++◌, ap, subst, arith}
use Rattle.ame_journal.specs.Text.{entry_line, IsSpellable}
use Rattle.ame_journal.proofs.TextLemmas.{one_written}
use Rattle.ame_journal.proofs.journal.Journal.to_text.Goals as goal

pub loop-entry-preserved : goal.loop-entry-preserved
loop-entry-preserved c =
    let entries = c.entries-entries.result.now in
    let entry = c.entry-item.result in
    let text = c.loop-entry.text.items in
    let ensures = c.in_ok-write_line.ensures in
    one_written text _ entries c.loop-entry.entry-index entry (omega arith) c.loop-entry.invariant
    (ensures.written ∙ ap (λ e. text ++ entry_line e) c.entry-item.is) (subst IsSpellable c.entry-item.is ensures.spellable)
