-- The entries so far that are no notes.
use Rattle.std.proofs.Common.{◌≡◌, take}
use Rattle.ame_journal.specs.Totals.{without_notes}
use Rattle.ame_app.proofs.verbs.resume.acts_of.Given as goal

abbrev pub invariant-loop-entry : goal.invariant-loop-entry
invariant-loop-entry l = l.acts.entries ≡ without_notes (take l.entry-index l.entries)
