use Rattle.std.proofs.Common.{refl}
use Rattle.ame_machine_cases.proofs.AloneLemmas.{alone-spawned}
use Rattle.ame_machine_cases.proofs.lone.Lone.into_spawn.Goals as goal

pub returns-in-Some : goal.returns-in-Some
returns-in-Some c = λ code h. alone-spawned code c.args.self _ h refl refl (c.in-Some.ensures.taken code c.in-Some.member h.2.machine refl) (c.in-Some.ensures.first code)
