use Rattle.std.proofs.Common.{◌≡◌, ◌≤◌, ◌+◌, All, vec_len, vec_capacity}
use Rattle.std.specs.Arc.{arc_value}
use Rattle.ame_baton.specs.Batons.{knows, IsSeatOf}
use Rattle.ame_worker.specs.Workers.{IsSeated, IsReadyToTurn}
use Rattle.ame_team.specs.Teams.{IsFirstSeat}
use Rattle.ame_team.proofs.TeamLemmas.{AreOthers}
use Rattle.ame_team.proofs.team.team.Given as goal

abbrev pub invariant-loop : goal.invariant-loop
invariant-loop g l = record {
  of : IsSeatOf l.baton l.first;
  seated : IsSeated g.M.Runner.meaning.signature (arc_value l.fn.code) l.limits (knows l.first);
  fixed : (knows l.first).fixed ≡ (knows l.fn.first).fixed;
  first : IsFirstSeat l.counter (knows l.first);
  count : vec_len l.workers + 1 ≡ l.counter;
  room : l.limits.seats ≤ vec_capacity l.workers;
  left : vec_len l.codes + l.counter ≡ l.limits.seats;
  codes : All (λ it. arc_value it ≡ arc_value l.fn.code) l.codes.items;
  others : AreOthers l.baton (knows l.fn.first).fixed l.workers.items;
  ready : All (λ w. IsReadyToTurn g.M.Runner.meaning (arc_value w.code) w.limits (knows w.seat) w.work) l.workers.items;
}
