use Rattle.std.proofs.Common.{◌≤◌, arith}
use Rattle.ame_check.proofs.WalkLemmas.{all-used, some-left}
use Rattle.ame_check.proofs.ReasonLemmas.{unused-first}
use Rattle.ame_check.proofs.StopLemmas.{err-as, run-stopped}
use Rattle.ame_check.proofs.WantLemmas.{walked-low}
use Rattle.ame_check.proofs.walk.Walk.run.Goals as goal

pub returns-in_err-want-clause-halted : goal.returns-in_err-want-clause-halted
returns-in_err-want-clause-halted g c =
    let least : c.args.self.now.entry.now.steps ≤ c.args.self.now.entry.now.steps = omega arith in
    err-as c.from_residual.result c.in_err-want.field-0.0 _ c.from_residual.ensures.1
    (λ s i side n a. run-stopped side i c.args.self.now.entry.now.steps c.args.self.now.entry.now.steps c.args.self.now.entry.now.fresh s least c.in_err-want.field-0.0
    (c.in_err-want.ensures.halted s i side n a))

pub returns-then-used-fresh-clause-halted : goal.returns-then-used-fresh-clause-halted
returns-then-used-fresh-clause-halted g c = λ s i side n a.
    let there = c.in_ok-want.ensures.whole s i side n a in (
      walked-low g.M.Runner.meaning c.args.self.now.code.now (g.met.M.Runner.sound c.args.self.now.code.now) s i _ c.args.self.now.cells.now.entries c.go.new.overlay.entries c.go.new.machine side c.args.self.now.entry.now.steps there.0,
      some-left g.M.Runner.meaning c.args.self.now.code.now s i c.as_slice-fresh.result.now c.fresh-used.result.now c.args.self.now.cells.now.entries c.go.new.overlay.entries c.go.new.machine side c.args.self.now.entry.now.steps
          c.args.self.now.entry.now.fresh c.as_slice-fresh.ensures (c.fresh-used.ensures c.args.self.now.code.now) there.0 c.if-used-fresh.true,
      unused-first g.M.Runner.meaning c.args.self.now.code.now (g.met.M.Runner.sound c.args.self.now.code.now) s i _ c.args.self.now.cells.now.entries c.go.new.overlay.entries c.go.new.machine side
          c.args.self.now.entry.now.steps there.0 c.args.self.now.entry.now.steps (omega arith) c.steps.result (c.steps.ensures c.args.self.now.code.now) c.in_ok-want.want there.1 c.as_slice-fresh.result.now c.fresh-used.result.now c.as_slice-fresh.ensures
          (c.fresh-used.ensures c.args.self.now.code.now) c.if-used-fresh.true,
    )

pub returns-clause-whole : goal.returns-clause-whole
returns-clause-whole g c = λ s i side n a.
    let there = c.in_ok-want.ensures.whole s i side n a in
    let used =
    all-used g.M.Runner.meaning c.args.self.now.code.now s i c.as_slice-fresh.result.now c.fresh-used.result.now c.args.self.now.cells.now.entries c.go.new.overlay.entries c.go.new.machine side c.args.self.now.entry.now.steps
    c.args.self.now.entry.now.fresh c.as_slice-fresh.ensures (c.fresh-used.ensures c.args.self.now.code.now) there.0 c.if-used-fresh.false in
    (there.0, used, there.1)
