use Rattle.std.proofs.Common.{List, All, sym, subst}
use Rattle.ame_drawing.specs.declared.arrow.Arrow.{Arrow}
use Rattle.ame_drawing.specs.Arrows.{LeadsAmong}
use Rattle.ame_drawing.proofs.CauseLemmas.{causes_lead}
use Rattle.ame_drawing.proofs.cause.causes_of.Goals as goal

pub returns-clause-among : goal.returns-clause-among
returns-clause-among c told owned =
    let P : List Arrow → Type 0 = All (LeadsAmong c.args.picks.now) in
    let known = c.args.known.now in
    subst P (sym c.in_ok-arrows.ensures)
    (causes_lead c.args.picks.now known.starters.now known.stamps.now known.places known.spans.now told owned)
