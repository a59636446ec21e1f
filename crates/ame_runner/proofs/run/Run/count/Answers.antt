use Rattle.std.proofs.Common.{◌≡◌, ◌+◌, max, ap, arith}
use Rattle.ame_runner.specs.Run.{CourseView}
use Rattle.ame_runner.specs.View.{run_of}
use Rattle.ame_runner.proofs.CountLemmas.{runs-counted}
use Rattle.ame_runner.proofs.DrawLemmas.{has-counted}
use Rattle.ame_runner.proofs.run.Run.count.Goals as goal

pub returns-clause-runs : goal.returns-clause-runs
returns-clause-runs c = λ running.
    let m = run_of c.make.new.self in
    let q : CourseView = record m { above = c.max-self.result; turns = m.turns + 1 } in
    let greater = c.max-self.ensures in
    let fresh = c.fresh.ensures in
    let up : c.max-self.result ≡ max m.above m.play.above = omega (arith, greater, fresh) in
    runs-counted (run_of c.args.self.now) m q c.args.label running c.in_ok-make.ensures.made c.requires.fresh c.requires.turns
    (ap (λ a. record m { above = a; turns = m.turns + 1 }) up)

pub returns-clause-counts : goal.returns-clause-counts
returns-clause-counts c =
    let m = run_of c.make.new.self in
    let q : CourseView = record m { above = c.max-self.result; turns = m.turns + 1 } in
    let greater = c.max-self.ensures in
    let fresh = c.fresh.ensures in
    let up : c.max-self.result ≡ max m.above m.play.above = omega (arith, greater, fresh) in
    has-counted (run_of c.args.self.now) m q c.args.label c.in_ok-make.ensures.made (ap (λ a. record m { above = a; turns = m.turns + 1 }) up)
