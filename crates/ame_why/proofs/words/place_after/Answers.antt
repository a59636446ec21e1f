use Rattle.std.proofs.Common.{◌≤◌, length, arith}
use Rattle.ame_why.proofs.WordLemmas.{place-there}
use Rattle.ame_why.proofs.words.place_after.Goals as goal

pub returns-then-left-eq0-clause-value : goal.returns-then-left-eq0-clause-value
returns-then-left-eq0-clause-value c =
    let within : c.loop-place.place ≤ length c.args.text.now = omega arith in
    place-there c.args.mark c.loop-place.left c.args.count c.args.text.now c.loop-place.place within c.if-left-eq0.true c.loop-place.invariant
