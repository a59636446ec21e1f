use Rattle.std.proofs.Common.{◌≡◌, ◌+◌, false, length}
use Rattle.ame_baton.specs.Batons.{knows, IsSeatOf}
use Rattle.ame_baton.specs.Tallies.{IsSameSeat}
use Rattle.ame_baton.proofs.tally.count_all.Given as goal

abbrev pub invariant-loop : goal.invariant-loop
invariant-loop g l = record {
  of : IsSeatOf l.baton l.seat;
  free : (knows l.seat).holds ≡ false;
  same : IsSameSeat (knows l.fn.seat) (knows l.seat);
  counted : length (knows l.seat).own ≡ length (knows l.fn.seat).own + l.counter;
}
