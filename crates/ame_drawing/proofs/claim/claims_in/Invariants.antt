use Rattle.std.proofs.Common.{◌≡◌, take}
use Rattle.std.specs.List.{flat_map}
use Rattle.ame_drawing.specs.Claims.{claim_in}
use Rattle.ame_drawing.proofs.claim.claims_in.Given as goal

abbrev pub invariant-loop-attempt : goal.invariant-loop-attempt
invariant-loop-attempt l = l.claims.items ≡ flat_map claim_in (take l.attempt-index l.attempts)
