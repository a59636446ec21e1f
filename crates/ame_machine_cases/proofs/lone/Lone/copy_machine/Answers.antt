use Rattle.std.proofs.Common.{refl}
use Rattle.ame_machine_cases.proofs.AloneLemmas.{alone-copied}
use Rattle.ame_machine_cases.proofs.lone.Lone.copy_machine.Goals as goal

pub returns : goal.returns
returns c = λ code h. let same = c.in_ok-machine.ensures code in alone-copied code c.args.self.now _ h c.new.ensures.items refl (same.kept h.2.machine) same.stage
