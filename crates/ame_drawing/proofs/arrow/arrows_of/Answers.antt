use Rattle.std.proofs.Common.{List, All, sym, subst}
use Rattle.ame_drawing.specs.declared.arrow.Arrow.{Arrow}
use Rattle.ame_drawing.specs.Arrows.{LeadsAmong}
use Rattle.ame_drawing.proofs.ArrowLemmas.{arrows_lead}
use Rattle.ame_drawing.proofs.arrow.arrows_of.Goals as goal

pub returns-clause-among : goal.returns-clause-among
returns-clause-among c =
    let P : List Arrow → Type 0 = All (LeadsAmong c.args.picks.now) in
    subst P (sym c.in_ok-arrows.ensures) (arrows_lead c.args.picks.now)
