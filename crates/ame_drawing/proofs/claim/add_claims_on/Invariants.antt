use Rattle.std.proofs.Common.{◌≡◌, ◌+◌, ◌++◌, drop}
use Rattle.ame_drawing.specs.Claims.{claims_on}
use Rattle.ame_drawing.proofs.claim.add_claims_on.Given as goal

abbrev pub invariant-loop-index : goal.invariant-loop-index
invariant-loop-index l =
    l.claims.items ++ claims_on l.seat (l.index + 1) (drop l.index l.entries) ≡ l.initial.claims.items ++ claims_on l.seat 1 l.entries
