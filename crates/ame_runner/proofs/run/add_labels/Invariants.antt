use Rattle.std.proofs.Common.{◌≡◌, ◌++◌, ◌∷◌, map, take}
use Rattle.ame_term.specs.declared.semantics.Label.{Label}
use Rattle.ame_runner.proofs.run.add_labels.Given as goal

abbrev pub invariant-loop-kind : goal.invariant-loop-kind
invariant-loop-kind l = l.left.items ≡ l.fn.left.items ++ (Label.Activate l.number ∷ map Label.Step (take l.kind-index l.kinds))
