use Rattle.std.proofs.Common.{arith}
use Rattle.ame_check.proofs.ReasonLemmas.{stops-met}
use Rattle.ame_check.proofs.WantLemmas.{look-taken, look-stopped}
use Rattle.ame_check.proofs.walk.Walk.look.Goals as goal

pub returns-in_default-clause-halted : goal.returns-in_default-clause-halted
returns-in_default-clause-halted g c = λ s i side n a total below. (
  look-stopped g.M.Runner.meaning c.args.self.now.code.now (g.met.M.Runner.sound c.args.self.now.code.now) s i _ c.args.self.now.cells.now.entries c.args.overlay.now.entries c.args.machine.now side n a
      c.args.l c.requires.wants c.in_default.ensures total below,
  stops-met g.M.Runner.meaning c.args.self.now.code.now (g.met.M.Runner.sound c.args.self.now.code.now) s i _ c.args.self.now.cells.now.entries c.args.overlay.now.entries c.args.machine.now side n a
      total (omega arith) c.steps.result (c.steps.ensures c.args.self.now.code.now) c.args.want c.requires.told,
)

pub returns-clause-made : goal.returns-clause-made
returns-clause-made g c = λ s i side n a.
    look-taken g.M.Runner.meaning c.args.self.now.code.now (g.met.M.Runner.sound c.args.self.now.code.now) s i _ c.args.self.now.cells.now.entries c.args.overlay.now.entries c.args.machine.now side n a
    c.args.l c.in-Some.cell.now (g.M.Runner.meaning.value_of c.args.self.now.code.now c.in_ok-copy.copy) c.feed.new.self c.requires.wants c.in-Some.ensures
    (g.met.M.Runner.value_shown c.args.self.now.code.now c.in-Some.cell.now.value c.in_ok-copy.copy c.in_ok-copy.ensures) c.feed.ensures.machine c.feed.ensures.stage
