use Rattle.std.proofs.Common.{refl}
use Rattle.ame_machine_cases.proofs.AloneLemmas.{alone-settled}
use Rattle.ame_machine_cases.proofs.lone.Lone.settle.Goals as goal

pub returns : goal.returns
returns c = λ code h. alone-settled code c.args.self.now _ h refl refl (c.settle.ensures.machine code h.2.machine) (c.settle.ensures.stage code)
