use Rattle.std.proofs.Common.{take}
use Rattle.ame_term.specs.View.{tree_of}
use Rattle.ame_journal.specs.Replayed.{begun_at}
use Rattle.ame_print.specs.Printer.{spelling_of}
use Rattle.ame_labels.proofs.StepperLemmas.{ShowsSoFar}
use Rattle.ame_labels.proofs.steps.rows_of.Given as goal

abbrev pub invariant-loop-index : goal.invariant-loop-index
invariant-loop-index l = ShowsSoFar (spelling_of l.fn.program.names.items) (begun_at (tree_of l.fn.program.term)) (take l.index l.entries) l.stepper
