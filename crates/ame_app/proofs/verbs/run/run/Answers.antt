use denote.Param.Send.{sendable}
use Rattle.ame_eval.proofs.FragmentCrossing.{fragment_send}
use Rattle.std.specs.Arc.{arc_value}
use Rattle.ame_app.proofs.CrossingLemmas.{code_send, code_sync}
use Rattle.ame_app.proofs.OverLemmas.{over-with}
use Rattle.ame_app.proofs.verbs.run.run.Goals as goal

pub returns-in-Ok-run_by_workers-clause-over : goal.returns-in-Ok-run_by_workers-clause-over
returns-in-Ok-run_by_workers-clause-over g c =
    let left = c.in-Ok-run_by_workers.left in
    over-with c.args.options (arc_value c.args.code.now) _ c.limits_of-limits.result c.args.io.ends left.io.ends left.ended
    c.in-Ok.ensures c.limits_of-limits.ensures c.in-Ok-run_by_workers.ensures.over

pub run_by_workers-requires-send-M : goal.run_by_workers-requires-send-M
run_by_workers-requires-send-M g c κs within = search (sendable, fragment_send)

pub run_by_workers-requires-send-M-Code : goal.run_by_workers-requires-send-M-Code
run_by_workers-requires-send-M-Code g c κs within = search (sendable, code_send) depth 20

pub run_by_workers-requires-sync-M-Code : goal.run_by_workers-requires-sync-M-Code
run_by_workers-requires-sync-M-Code g c κs within = search (sendable, code_sync) depth 20
