use Rattle.std.proofs.Common.{◌≡◌}
use Rattle.std.specs.Arc.{arc_value}
use Rattle.ame_baton.specs.Batons.{knows}
use Rattle.ame_shell.specs.Shell.{shell_view}
use Rattle.ame_worker.proofs.LeadLemmas.{IsLeading}
use Rattle.ame_worker.proofs.worker.Worker.lead_on.Given as goal

abbrev pub invariant-loop : goal.invariant-loop
invariant-loop g l = record {
  leads : IsLeading g.M.Runner.meaning (arc_value l.fn.self.code) (knows l.fn.self.seat).number l.fn.are_more
      (shell_view l.fn.shared.shell.value) l.fn.shared.turns l.fn.self.work
      (shell_view l.shared.shell.value) l.shared.turns l.self.work l.are_more;
  rest : l.shared ≡ record l.fn.shared { shell = l.shared.shell; turns = l.shared.turns };
  worker : l.self ≡ record l.fn.self { work = l.self.work };
}
