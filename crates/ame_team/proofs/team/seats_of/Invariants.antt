use Rattle.std.proofs.Common.{◌≡◌, ◌≤◌, ◌+◌, ◌++◌, length, map, vec_len, vec_capacity}
use Rattle.std.specs.Vec.Iter.{into_iter_items, into_iter_len}
use Rattle.ame_team.proofs.team.seats_of.Given as goal

-- the seats so far are those of the workers so far, and the others are left
abbrev pub invariant-loop-worker : goal.invariant-loop-worker
invariant-loop-worker g l = record {
  all : l.yielded ++ into_iter_items l.worker-iterator ≡ into_iter_items l.initial.worker-iterator;
  counted : into_iter_len l.worker-iterator ≡ length (into_iter_items l.worker-iterator);
  seats : l.seats.items ≡ map (λ w. w.seat) l.yielded;
  room : vec_len l.seats + into_iter_len l.worker-iterator + 1 ≤ vec_capacity l.seats;
}
