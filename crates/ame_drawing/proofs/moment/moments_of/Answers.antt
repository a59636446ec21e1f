use Rattle.std.proofs.Common.{sym, subst}
use Rattle.ame_drawing.specs.Moments.{ShowAll}
use Rattle.ame_drawing.proofs.MomentLemmas.{all_shown}
use Rattle.ame_drawing.proofs.moment.moments_of.Goals as goal

pub returns-clause-all : goal.returns-clause-all
returns-clause-all c =
    subst (ShowAll c.args.entries.now c.args.tries.now) (sym c.in_ok-moments.ensures) (all_shown c.args.entries.now c.args.tries.now)
