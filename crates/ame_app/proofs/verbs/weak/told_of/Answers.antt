use Rattle.std.proofs.Common.{subst}
use Rattle.ame_app.specs.Jobs.{LeavesFit}
use Rattle.ame_app.proofs.verbs.weak.told_of.Goals as goal

pub tall_of-requires : goal.tall_of-requires
tall_of-requires c = subst LeavesFit c.in-Tall.is c.requires
