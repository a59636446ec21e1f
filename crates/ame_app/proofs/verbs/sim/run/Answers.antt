use Rattle.std.proofs.Common.{◌≤◌, ap, subst, sym}
use Rattle.std.specs.Arc.{arc_value}
use Rattle.ame_protocol.specs.declared.types.Limits.{Limits}
use Rattle.ame_app.specs.declared.run_result.Extra.{Extra}
use Rattle.ame_app.proofs.OverLemmas.{over-with}
use Rattle.ame_app.proofs.PickLemmas.{picked-with, mades-low}
use Rattle.ame_app.proofs.verbs.sim.run.Goals as goal

pub returns-in-Ok-run_by_chooser-clause-over : goal.returns-in-Ok-run_by_chooser-clause-over
returns-in-Ok-run_by_chooser-clause-over g c =
    let left = c.in-Ok-run_by_chooser.played.left in
    over-with c.args.options (arc_value c.args.code.now) _ c.limits_of-limits.result c.args.io.ends left.io.ends left.ended
    c.in-Ok.ensures c.limits_of-limits.ensures c.in-Ok-run_by_chooser.ensures.over

pub returns-in-Ok-run_by_chooser-clause-own : goal.returns-in-Ok-run_by_chooser-clause-own
returns-in-Ok-run_by_chooser-clause-own g c =
    let played = c.in-Ok-run_by_chooser.played in
    picked-with c.limits_of-limits.result c.args.io.ends (g.H.Chooser.strategy c.args.chooser.now) (g.H.Chooser.strategy c.run_by_chooser.new.chooser)
    played.mades.items (Extra.Picked c.of_run.result) played.left.ended (ap Extra.Picked c.of_run.ensures) c.args.options (arc_value c.args.code.now) _
    c.in-Ok.ensures c.limits_of-limits.ensures c.in-Ok-run_by_chooser.ensures.played c.in-Ok-run_by_chooser.ensures.answers

pub of_run-requires : goal.of_run-requires
of_run-requires g c =
    let played = c.in-Ok-run_by_chooser.ensures.played in
    mades-low c.limits_of-limits.result.seats played.now.core.turns _ played.now.core.entries
    (subst (λ (l : Limits). l.seats ≤ 32) (sym c.limits_of-limits.ensures) c.requires.ranges.workers.1) played.playing.told
