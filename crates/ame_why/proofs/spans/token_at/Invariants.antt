use Rattle.std.proofs.Common.{◌≡◌, ◌==◌, drop}
use Rattle.std.specs.List.{find}
use Rattle.ame_why.proofs.spans.token_at.Given as goal

abbrev pub invariant-loop-token : goal.invariant-loop-token
invariant-loop-token l = find (λ token. token.start == l.place) (drop l.token-index l.tokens) ≡ find (λ token. token.start == l.place) l.tokens
