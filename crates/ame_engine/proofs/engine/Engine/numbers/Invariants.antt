-- The numbers so far.
use Rattle.std.proofs.Common.{◌≡◌, ◌<◌, All}
use Rattle.ame_engine.proofs.BlockedLemmas.{numbers-below}
use Rattle.ame_engine.proofs.engine.Engine.numbers.Given as goal

abbrev pub invariant-loop-number : goal.invariant-loop-number
invariant-loop-number g l = record {
  so_far : l.numbers.items ≡ numbers-below l.number l.self.pool.members;
  below : All (λ n. n < l.number) l.numbers.items;
}
