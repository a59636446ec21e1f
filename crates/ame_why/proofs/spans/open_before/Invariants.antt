use Rattle.std.proofs.Common.{◌≡◌, take}
use Rattle.ame_why.specs.Open.{open_before}
use Rattle.ame_why.proofs.spans.open_before.Given as goal

abbrev pub invariant-loop-token : goal.invariant-loop-token
invariant-loop-token l = l.places.items ≡ open_before l.place (take l.token-index l.tokens)
