use Rattle.std.proofs.Common.{◌≡◌, map, take}
use Rattle.ame_journal.specs.Labels.{made_by}
use Rattle.ame_runner.proofs.trial.note_of.Given as goal

abbrev pub invariant-loop-kind : goal.invariant-loop-kind
invariant-loop-kind l = map (λ x. x.0) l.fresh.items ≡ made_by (take l.kind-index l.tried.kinds.items)
