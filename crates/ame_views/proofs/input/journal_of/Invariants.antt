use Rattle.std.proofs.Common.{◌≡◌, take}
use Rattle.ame_views.proofs.input.journal_of.Given as goal

abbrev pub invariant-loop-entry : goal.invariant-loop-entry
invariant-loop-entry l = l.journal.entries ≡ take l.entry-index l.entries
