use Rattle.std.proofs.Common.{◌∙◌, ◌≢◌, refl, sym, ap, subst}
use Rattle.std.specs.Arc.{arc_value}
use Rattle.ame_term.specs.Tree.{Tree}
use Rattle.ame_term.specs.View.{tree_of}
use Rattle.ame_term.specs.declared.accepted.Accepted.{Accepted}
use Rattle.ame_device.specs.Calls.{all_told}
use Rattle.ame_code.specs.FlatCode.{FlatCode}
use Rattle.ame_code.specs.Code.{program_of}
use Rattle.ame_runner.specs.Ended.{TellsStop}
use Rattle.ame_runner.specs.Drawn.{IsDrawn}
use Rattle.ame_runner.specs.declared.stop.WeakStop.{WeakStop}
use Rattle.ame_shell.specs.Ends.{Ends, ends_of}
use Rattle.ame_app.specs.declared.run_result.RunResult.{RunResult}
use Rattle.ame_app.specs.Jobs.{IsWeakRunMade}
use Rattle.ame_app.proofs.LeftLemmas.{told-count}
use Rattle.ame_app.proofs.WeakLemmas.{drawn-as}
use Rattle.ame_app.proofs.verbs.weak.run.Goals as goal

pub end_or_turns-weak-requires-clause-tells : goal.end_or_turns-weak-requires-clause-tells
end_or_turns-weak-requires-clause-tells g c =
    let run = c.weak_run-run.result in
    let old = all_told g.D.Device.device_told c.into_parts-sink.result.1.items in
    let new = all_told g.D.Device.device_told c.weak_run-run.new.devices.items in
    let same = ap (λ (a : Accepted). tree_of a.program.term) (c.accepted.ensures ∙ ap (λ (k : FlatCode). k.accepted) c.deref.ensures) in (
      old,
      new,
      subst (λ (p : Tree). TellsStop p c.args.turns run.labels.items run.tries.items run.turns old new run.stop) same c.weak_run-run.ensures.stop,
    )

pub returns : goal.returns
returns g c =
    let run = c.weak_run-run.result in
    let tell = g.D.Device.device_told in
    let parts = c.into_parts-sink.result in
    let later = c.weak_run-run.new.devices.items in
    let old = all_told tell parts.1.items in
    let new = all_told tell later in
    let same = ap (λ (a : Accepted). tree_of a.program.term) (c.accepted.ensures ∙ ap (λ (k : FlatCode). k.accepted) c.deref.ensures) in
    let spoken = c.end_or_turns-weak.result in
    let code = arc_value c.args.code.now in
    let before = ends_of g.K.Sink.written g.K.Sink.faults tell parts.0 parts.1.items in
    let after = ends_of g.K.Sink.written g.K.Sink.faults tell parts.0 later in
    let made : IsWeakRunMade c.args.seed c.args.turns code before (RunResult.Weak spoken.weak) spoken.lines.items after = record {
      weak = spoken.weak;
      left_is = refl;
      tells = c.end_or_turns-weak.ensures.tells old new (told-count tell parts.1.items later c.weak_run-run.ensures.count)
          (subst (λ (p : Tree). TellsStop p c.args.turns run.labels.items run.tries.items run.turns old new run.stop) same c.weak_run-run.ensures.stop);
      drawn = drawn-as (program_of code) c.args.seed c.args.turns run.labels.items run.tries.items run.turns old new run.stop spoken.weak c.end_or_turns-weak.ensures.same
          (subst (λ (p : Tree). TellsStop p c.args.turns run.labels.items run.tries.items run.turns old new run.stop) same c.weak_run-run.ensures.stop)
          (subst (λ (p : Tree). run.stop ≢ WeakStop.NoMemory → IsDrawn p c.args.turns c.args.seed run.labels.items run.tries.items run.turns run.stop) same
          c.weak_run-run.ensures.drawn);
      has_left = c.end_or_turns-weak.ensures.has_left;
      ahead_is = c.end_or_turns-weak.ensures.lines;
      unwritten = refl;
      unfailed = refl;
    } in
    subst (λ (e : Ends). IsWeakRunMade c.args.seed c.args.turns code c.args.io.ends (RunResult.Weak spoken.weak) spoken.lines.items e) (sym (ap (λ v. v.ends) c.new.ensures))
    (subst (λ (e : Ends). IsWeakRunMade c.args.seed c.args.turns code e (RunResult.Weak spoken.weak) spoken.lines.items after) (ap (λ v. v.ends) c.into_parts-sink.ensures) made)
