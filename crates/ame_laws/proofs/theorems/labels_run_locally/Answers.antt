use Rattle.ame_laws.proofs.Followed.{rule_of}
use Rattle.ame_laws.proofs.Typed.RunsLocally.{runs_locally}
use Rattle.ame_laws.proofs.theorems.labels_run_locally.Goals as goal

pub returns : goal.returns
returns c = λ signature cells s label t i term last typed orderly legal has member behind.
    runs_locally signature cells s typed orderly i term last member label t (rule_of s label t legal) has behind
