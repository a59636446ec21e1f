use Rattle.std.proofs.Common.{refl}
use Rattle.ame_machine_cases.proofs.AloneLemmas.{alone-checked}
use Rattle.ame_machine_cases.proofs.lone.Lone.checked.Goals as goal

pub returns : goal.returns
returns c = λ code h. alone-checked code c.args.self.now _ h refl refl (c.checked.ensures.machine code h.2.machine) (c.checked.ensures.stage code)
