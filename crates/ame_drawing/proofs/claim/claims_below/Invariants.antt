use Rattle.std.proofs.Common.{◌≡◌}
use Rattle.ame_drawing.specs.Claims as spec
use Rattle.ame_drawing.proofs.claim.claims_below.Given as goal

abbrev pub invariant-loop-seat : goal.invariant-loop-seat
invariant-loop-seat l = l.claims.items ≡ spec.claims_below l.seat l.entries
