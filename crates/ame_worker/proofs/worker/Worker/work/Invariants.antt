use Rattle.std.specs.Arc.{arc_value}
use Rattle.ame_baton.specs.Batons.{knows, IsSeatOf}
use Rattle.ame_baton.specs.Keeping.{KeepsSeat}
use Rattle.ame_worker.specs.Workers.{IsReadyToTurn}
use Rattle.ame_worker.proofs.worker.Worker.work.Given as goal

abbrev pub invariant-loop : goal.invariant-loop
invariant-loop g l = record {
  of : IsSeatOf l.baton l.self.seat;
  ready : IsReadyToTurn g.M.Runner.meaning (arc_value l.self.code) l.self.limits (knows l.self.seat) l.self.work;
  keeps : KeepsSeat (knows l.fn.self.seat) (knows l.self.seat);
}
