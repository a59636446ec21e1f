use Rattle.std.proofs.Common.{take}
use Rattle.ame_journal.specs.Text.{IsText}
use Rattle.ame_journal.proofs.journal.Journal.to_text.Given as goal

abbrev pub invariant-loop-entry : goal.invariant-loop-entry
invariant-loop-entry l = IsText l.text.items (take l.entry-index l.entries)
