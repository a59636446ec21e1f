use Rattle.std.proofs.Common.{◌≡◌}
use Rattle.std.specs.VecDeque.{deque_len, deque_capacity}
use Rattle.ame_pool.proofs.Words.{numbers_in}
use Rattle.ame_pool.proofs.queue.trim.Given as goal

abbrev pub invariant-loop-entries : goal.invariant-loop-entries
invariant-loop-entries l = record {
  list : numbers_in l.entries.items ≡ numbers_in l.initial.entries.items;
  capacity : deque_capacity l.entries ≡ deque_capacity l.initial.entries;
}

abbrev pub decreases-loop-entries : goal.decreases-loop-entries
decreases-loop-entries l = deque_len l.entries
