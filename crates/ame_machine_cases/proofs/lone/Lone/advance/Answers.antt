use Rattle.std.proofs.Common.{refl, arith}
use Rattle.ame_machine_cases.proofs.AloneLemmas.{alone-advanced}
use Rattle.ame_machine_cases.proofs.lone.Lone.advance.Goals as goal

pub advance-requires-clause-machine : goal.advance-requires-clause-machine
advance-requires-clause-machine c = c.requires.alone.2.machine

pub advance-requires-clause-runs : goal.advance-requires-clause-runs
advance-requires-clause-runs c = let h = c.requires.alone in (h.0, h.1, h.2.runs)

pub advance-requires-clause-steps : goal.advance-requires-clause-steps
advance-requires-clause-steps c = omega (arith, c.requires.young)

pub returns-clause-alone : goal.returns-clause-alone
returns-clause-alone c = alone-advanced c.args.code.now c.args.self.now _ c.args.fuel c.requires.alone refl refl c.advance.ensures.machine c.advance.ensures.ran
