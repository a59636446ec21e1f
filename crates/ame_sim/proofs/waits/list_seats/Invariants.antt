use Rattle.std.proofs.Common.{◌≡◌, ◌≤◌, take, vec_len, vec_capacity}
use Rattle.ame_sim.specs.Waits.{may_be_picked}
use Rattle.ame_sim.proofs.waits.list_seats.Given as goal

abbrev pub invariant-loop-seat : goal.invariant-loop-seat
invariant-loop-seat l =
    (l.may.items ≡ may_be_picked (take l.seat l.waits)) × (vec_len l.may ≤ l.seat) × (vec_capacity l.may ≡ vec_capacity l.initial.may)
