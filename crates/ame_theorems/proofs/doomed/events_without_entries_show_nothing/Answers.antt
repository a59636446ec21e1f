use Rattle.std.proofs.Common.{ap}
use Rattle.ame_journal.specs.Totals.{without_notes}
use Rattle.ame_theorems.proofs.DoomedLemmas.{shows-along, shows-after}
use Rattle.ame_theorems.proofs.doomed.events_without_entries_show_nothing.Goals as goal

pub returns-clause-event : goal.returns-clause-event
returns-clause-event c = λ e s may h none. shows-after e s may h (ap without_notes none)

pub returns-clause-note : goal.returns-clause-note
returns-clause-note c = shows-after

pub returns-clause-run : goal.returns-clause-run
returns-clause-run c = shows-along
