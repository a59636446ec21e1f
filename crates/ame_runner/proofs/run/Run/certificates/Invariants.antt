use Rattle.ame_runner.specs.View.{run_of}
use Rattle.ame_runner.proofs.ChooseLemmas.{AreCertified}
use Rattle.ame_runner.proofs.run.Run.certificates.Given as goal

abbrev pub invariant-loop-number : goal.invariant-loop-number
invariant-loop-number l = AreCertified (run_of l.self) l.number l.certificates.items
