use Rattle.std.proofs.Common.{length, arith}
use Rattle.ame_weak.specs.Straight.{outset}
use Rattle.ame_weak.proofs.NoteLemmas.{notes-told, without-tries}
use Rattle.ame_weak.proofs.theorems.notes_are_of_the_tries.Goals as goal

pub returns-clause-notes : goal.returns-clause-notes
returns-clause-notes c = λ labels tries order. notes-told 0 (length labels) tries outset labels (omega arith) order

pub returns-clause-others : goal.returns-clause-others
returns-clause-others c = λ labels tries. without-tries 0 tries outset labels
