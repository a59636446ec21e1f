use Rattle.ame_device.specs.Calls.{all_told}
use Rattle.ame_term.specs.View.{tree_of}
use Rattle.ame_runner.specs.View.{run_of}
use Rattle.ame_runner.proofs.EndLemmas.{begun-run, begun-tells, heard-at-start, not-begun, tells-nothing}
use Rattle.ame_runner.proofs.running.weak_run.Goals as goal

pub returns-in-Ok-clause-run : goal.returns-in-Ok-clause-run
returns-in-Ok-clause-run g c =
    begun-run (tree_of c.args.accepted.now.program.term) c.args.turns (run_of c.in-Ok.run') c.in-Ok.ensures.begins c.play_out.result.labels.items
    c.play_out.result.tries.items c.play_out.result.stop (c.play_out.ensures.run c.in-Ok.ensures.runs)

pub returns-in-Ok-clause-stop : goal.returns-in-Ok-clause-stop
returns-in-Ok-clause-stop g c =
    let p = tree_of c.args.accepted.now.program.term in
    let r = run_of c.in-Ok.run' in
    let before = all_told g.D.Device.device_told c.args.devices.now.items in
    begun-tells p c.args.turns r c.in-Ok.ensures.begins c.play_out.result.labels.items c.play_out.result.tries.items c.play_out.result.turns before
    (all_told g.D.Device.device_told c.play_out.new.devices.items) c.play_out.result.stop
    (c.play_out.ensures.stop c.in-Ok.ensures.runs (heard-at-start p c.args.turns r c.in-Ok.ensures.begins before))

pub returns-in-Err-clause-run : goal.returns-in-Err-clause-run
returns-in-Err-clause-run g c =
    not-begun (tree_of c.args.accepted.now.program.term) c.args.turns c.not_begun.result.labels.items c.not_begun.result.tries.items c.not_begun.result.stop
    c.not_begun.ensures.labels c.not_begun.ensures.tries c.not_begun.ensures.stop

pub returns-in-Err-clause-stop : goal.returns-in-Err-clause-stop
returns-in-Err-clause-stop g c =
    let now = all_told g.D.Device.device_told c.args.devices.now.items in
    tells-nothing (tree_of c.args.accepted.now.program.term) c.args.turns c.not_begun.result.labels.items c.not_begun.result.tries.items c.not_begun.result.turns now now
    c.not_begun.result.stop c.not_begun.ensures.stop

pub returns-in-Ok-clause-drawn : goal.returns-in-Ok-clause-drawn
returns-in-Ok-clause-drawn g c = λ able. c.play_out.ensures.drawn (tree_of c.args.accepted.now.program.term) c.args.turns c.in-Ok.ensures.runs c.in-Ok.ensures.begins able

pub returns-in-Err-clause-drawn : goal.returns-in-Err-clause-drawn
returns-in-Err-clause-drawn g c = λ able. absurd (able c.not_begun.ensures.stop)
