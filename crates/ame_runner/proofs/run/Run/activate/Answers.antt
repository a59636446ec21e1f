use Rattle.std.proofs.Common.{arith, refl, inl, inr}
use Rattle.std.proofs.lemmas.Grind.{common_steps}
use Rattle.ame_runner.specs.View.{run_of}
use Rattle.ame_runner.proofs.HearLemmas.{ok-then, hears-still}
use Rattle.ame_runner.specs.Drawn.{MakesNextLabel}
use Rattle.ame_runner.specs.Drawing.{HasActivated}
use Rattle.ame_runner.proofs.run.Run.activate.Goals as goal

pub returns-then-is_empty-clause-hears : goal.returns-then-is_empty-clause-hears
returns-then-is_empty-clause-hears c = λ told. hears-still (run_of c.args.self.now) (run_of c.args.self.now) told refl

pub returns-then-is_empty-clause-begun : goal.returns-then-is_empty-clause-begun
returns-then-is_empty-clause-begun c = inl (grind (arith, common_steps), refl)

pub returns-clause-begun : goal.returns-clause-begun
returns-clause-begun c =
    let old = run_of c.args.self.now in
    let q = run_of c.go_on.new.self in
    ok-then c.go_on.result (MakesNextLabel old q) (HasActivated old q) (λ goes. inr goes) c.go_on.ensures.goes
