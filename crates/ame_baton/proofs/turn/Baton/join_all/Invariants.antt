use Rattle.std.proofs.Common.{◌≡◌, ◌+◌, ◌++◌, length, map}
use Rattle.std.specs.Vec.Iter.{into_iter_items, into_iter_len}
use Rattle.crossbeam_queue.specs.Passes.{view, IsPassOf}
use Rattle.ame_baton.specs.Seats.{left_by}
use Rattle.ame_baton.specs.Rule.{IsFirst}
use Rattle.ame_baton.specs.Batons.{knows, AreReady}
use Rattle.ame_baton.proofs.turn.Baton.join_all.Given as goal

-- the seats so far are joined, and the others are those that are left
abbrev pub invariant-loop-seat : goal.invariant-loop-seat
invariant-loop-seat g l = record {
  of : IsPassOf l.self.queue l.pass;
  first : IsFirst (view l.pass);
  kept : view l.pass ≡ record (view l.initial.pass) { ended = map (λ s. left_by (knows s)) l.yielded };
  all : l.yielded ++ into_iter_items l.seat-iterator ≡ into_iter_items l.initial.seat-iterator;
  counted : into_iter_len l.seat-iterator ≡ length (into_iter_items l.seat-iterator);
  ready : AreReady l.self (length l.yielded + 1) (into_iter_items l.seat-iterator);
}
