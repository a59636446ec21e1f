use Rattle.std.proofs.Common.{◌∙◌, Some, ap, arith}
use Rattle.ame_machine.specs.declared.wants.Wants.{Wants}
use Rattle.ame_check.proofs.WantLemmas.{tall-there, stopped-other, ends-other}
use Rattle.ame_check.proofs.ReasonLemmas.{stops-met}
use Rattle.ame_check.proofs.walk.Walk.take.Goals as goal

pub returns-in-Spawn-clause-made : goal.returns-in-Spawn-clause-made
returns-in-Spawn-clause-made g c = λ s i side n a. c.accept.ensures s i _ c.args.self.now.cells.now.entries c.args.overlay.now.entries side n a

pub returns-in-Print-clause-made : goal.returns-in-Print-clause-made
returns-in-Print-clause-made g c = λ s i side n a. c.accept-in-Print.ensures s i _ c.args.self.now.cells.now.entries c.args.overlay.now.entries side n a

pub returns-in-Tall-clause-halted : goal.returns-in-Tall-clause-halted
returns-in-Tall-clause-halted g c = λ s i side n a.
    tall-there g.M.Runner.meaning c.args.self.now.code.now (g.met.M.Runner.sound c.args.self.now.code.now) s i _ c.args.self.now.cells.now.entries c.args.overlay.now.entries c.args.machine.now side n a
    (c.requires.told ∙ ap (λ (z : Wants). Some z) c.in-Tall.is)

pub returns-in_default-clause-halted : goal.returns-in_default-clause-halted
returns-in_default-clause-halted g c = λ s i side n a total below. (
  stopped-other g.M.Runner.meaning c.args.self.now.code.now (g.met.M.Runner.sound c.args.self.now.code.now) s i _ c.args.self.now.cells.now.entries c.args.overlay.now.entries c.args.machine.now side n a
      c.args.want c.requires.told c.requires.fuel
      (ends-other c.args.want c.in_default.not-Read c.in_default.not-Write c.in_default.not-Alloc c.in_default.not-Peek c.in_default.not-Spawn c.in_default.not-Print c.in_default.not-Tall) total below,
  stops-met g.M.Runner.meaning c.args.self.now.code.now (g.met.M.Runner.sound c.args.self.now.code.now) s i _ c.args.self.now.cells.now.entries c.args.overlay.now.entries c.args.machine.now side n a
      total (omega arith) c.steps.result (c.steps.ensures c.args.self.now.code.now) c.args.want c.requires.told,
)
