use Rattle.std.proofs.Common.{ℕ, inl, inr, sym, subst}
use Rattle.ame_device.specs.Calls.{all_told}
use Rattle.ame_term.specs.View.{tree_of}
use Rattle.ame_runner.specs.View.{run_of}
use Rattle.ame_runner.proofs.EndLemmas.{until-ends, run-over, tells-over, tells-nothing}
use Rattle.ame_runner.specs.Drawn.{Course}
use Rattle.ame_runner.proofs.DrawLemmas.{drawn-report}
use Rattle.ame_runner.proofs.running.play_out.Goals as goal

pub returns-in-Ok-clause-run : goal.returns-in-Ok-clause-run
returns-in-Ok-clause-run g c = λ running.
    run-over (run_of c.args.run) (run_of c.play_on.new.self) c.play_on.ensures.frame c.end.result.labels.items c.end.result.tries.items c.end.result.stop
    (c.end.ensures.run (until-ends c.in-Ok.stop (run_of c.play_on.new.self) (c.in-Ok.ensures.plays running).0))

pub returns-in-Ok-clause-stop : goal.returns-in-Ok-clause-stop
returns-in-Ok-clause-stop g c = λ running heard.
    let before = all_told g.D.Device.device_told c.args.devices.now.items in
    let after = all_told g.D.Device.device_told c.play_on.new.devices.items in
    let x = c.in-Ok.ensures.plays running in
    let h = x.1 before running heard in
    tells-over (run_of c.args.run) (run_of c.play_on.new.self) c.play_on.ensures.frame c.end.result.labels.items c.end.result.tries.items c.end.result.turns before after
    c.end.result.stop (c.end.ensures.stop x.0 x.2 before after h.0 h.1)

pub returns-in-Err-clause-run : goal.returns-in-Err-clause-run
returns-in-Err-clause-run g c = λ running.
    run-over (run_of c.args.run) (run_of c.play_on.new.self) c.play_on.ensures.frame c.end-in-Err.result.labels.items c.end-in-Err.result.tries.items c.end-in-Err.result.stop
    (c.end-in-Err.ensures.run (c.in-Err.ensures.plays running))

pub returns-in-Err-clause-stop : goal.returns-in-Err-clause-stop
returns-in-Err-clause-stop g c = λ running heard.
    tells-nothing (tree_of c.args.run.play.accepted.now.program.term) c.args.run.limit c.end-in-Err.result.labels.items c.end-in-Err.result.tries.items c.end-in-Err.result.turns
    (all_told g.D.Device.device_told c.args.devices.now.items)
    (all_told g.D.Device.device_told c.play_on.new.devices.items) c.end-in-Err.result.stop
    (elim c.end-in-Err.ensures.kept [ inl e ↦ e | inr e ↦ e ])

pub returns-in-Ok-clause-drawn : goal.returns-in-Ok-clause-drawn
returns-in-Ok-clause-drawn g c = λ program limit running start able.
    let r = run_of c.args.run in
    let q = run_of c.play_on.new.self in
    let x = c.in-Ok.ensures.plays running in
    drawn-report program limit c.args.seed q c.in-Ok.stop c.end.result.labels.items c.end.result.tries.items c.end.result.turns c.end.result.stop
    (until-ends c.in-Ok.stop q x.0) x.2 c.end.ensures.report able
    (c.in-Ok.ensures.drawn program limit c.args.seed running
    (subst (λ (n : ℕ). Course program limit c.args.seed n r) (sym c.new-numbers.ensures) (Course.starts r start)))

pub returns-in-Err-clause-drawn : goal.returns-in-Err-clause-drawn
returns-in-Err-clause-drawn g c = λ program limit running start able. absurd (able (elim c.end-in-Err.ensures.kept [ inl e ↦ e | inr e ↦ e ]))
