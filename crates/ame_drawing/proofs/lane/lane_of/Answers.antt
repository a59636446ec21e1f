use Rattle.std.proofs.Common.{List, All, length, sym, subst}
use Rattle.ame_drawing.specs.declared.lane.DrawnAttempt.{DrawnAttempt}
use Rattle.ame_drawing.specs.Lanes.{IsAttemptOn, AreOneAfterOther, LiesInOne, EndsSo, LooksAsEnded, FitsFate}
use Rattle.ame_drawing.proofs.EndLemmas.{ends_so, looks_ended}
use Rattle.ame_drawing.proofs.FateLemmas.{fates_fit}
use Rattle.ame_drawing.proofs.LaneLemmas.{laid, covers}
use Rattle.ame_drawing.proofs.lane.lane_of.Goals as goal

pub returns-clause-within : goal.returns-clause-within
returns-clause-within c =
    let P : List DrawnAttempt → Type 0 = All (IsAttemptOn c.args.seat (length c.args.picks.now)) in
    subst P (sym c.in_ok-lane.ensures) (laid c.args.seat c.args.picks.now).within

pub returns-clause-apart : goal.returns-clause-apart
returns-clause-apart c =
    let P : List DrawnAttempt → Type 0 = AreOneAfterOther in
    subst P (sym c.in_ok-lane.ensures) (laid c.args.seat c.args.picks.now).apart

pub returns-clause-covered : goal.returns-clause-covered
returns-clause-covered c = λ k d below works.
    let P : List DrawnAttempt → Type 0 = λ lane. LiesInOne lane k in
    subst P (sym c.in_ok-lane.ensures) (covers c.args.seat c.args.picks.now k d below works)

pub returns-clause-ended : goal.returns-clause-ended
returns-clause-ended c = λ k d fate below works made.
    let P : List DrawnAttempt → Type 0 = λ lane. EndsSo lane k fate in
    subst P (sym c.in_ok-lane.ensures) (ends_so c.args.seat c.args.picks.now k d fate below works made)

pub returns-clause-looks : goal.returns-clause-looks
returns-clause-looks c =
    let P : List DrawnAttempt → Type 0 = All (LooksAsEnded c.args.picks.now) in
    subst P (sym c.in_ok-lane.ensures) (looks_ended c.args.seat c.args.picks.now)

pub returns-clause-fates : goal.returns-clause-fates
returns-clause-fates c =
    let P : List DrawnAttempt → Type 0 = All FitsFate in
    subst P (sym c.in_ok-lane.ensures) (fates_fit c.args.seat c.args.picks.now)
