use Rattle.std.proofs.Common.{Option, None, ap, sym, subst, ◌∙◌}
use Rattle.ame_device.specs.Calls.{all_told}
use Rattle.ame_journal.specs.declared.entry.Entry.{Entry}
use Rattle.ame_runner.specs.Run.{IsRunning}
use Rattle.ame_runner.specs.Stop.{HasAttempted}
use Rattle.ame_runner.specs.View.{run_of}
use Rattle.ame_runner.proofs.HearLemmas.{hears-still, hears-then}
use Rattle.ame_runner.proofs.ChooseLemmas.{goes-quiet, goes-tall}
use Rattle.ame_weak.specs.Weak.{Weak}
use Rattle.ame_runner.specs.Choices.{goes_free}
use Rattle.ame_runner.specs.Drawn.{MayAttempt}
use Rattle.ame_runner.specs.Drawing.{HasTried}
use Rattle.ame_runner.proofs.DrawLemmas.{takes-tried, stops-tried}
use Rattle.ame_runner.proofs.run.Run.choose_resting.Goals as goal

pub returns-in-Some-clause-goes : goal.returns-in-Some-clause-goes
returns-in-Some-clause-goes g c =
    let old = run_of c.args.self.now in
    let mid = run_of c.attempt.new.self in
    let told = all_told g.D.Device.device_told c.args.devices.now.items in
    goes-tall old mid told c.in-Some.entry (λ running. subst (λ (o : Option Entry). HasAttempted o mid) c.in-Some.is (c.in_ok-grown.ensures.ok running))
    (hears-still old mid told c.attempt.ensures.play)

pub returns-clause-goes : goal.returns-clause-goes
returns-clause-goes g c =
    let old = run_of c.args.self.now in
    let mid = run_of c.attempt.new.self in
    let new = run_of c.activate.new.self in
    let told = all_told g.D.Device.device_told c.args.devices.now.items in
    let runs : IsRunning old → IsRunning mid = λ running. subst (λ (o : Option Entry). HasAttempted o mid) c.in_default.is (c.in_ok-grown.ensures.ok running) in
    goes-quiet old new told (λ running. c.in_ok-activate.ensures.runs (runs running))
    (hears-then None old mid new told told told (hears-still old mid told c.attempt.ensures.play) runs (c.in_ok-activate.ensures.hears told))

pub returns-in-Some-clause-taken : goal.returns-in-Some-clause-taken
returns-in-Some-clause-taken g c =
    let old = run_of c.args.self.now in
    let mid = run_of c.attempt.new.self in
    let may : MayAttempt c.args.number old = (
      c.requires.idle,
      ap (λ (w : Weak). goes_free w c.args.number) (sym c.state.ensures) ∙ sym c.goes_free.ensures ∙ c.if-goes_free.false,
    ) in
    stops-tried c.args.number old mid c.in-Some.entry may (subst (HasTried c.args.number old mid) c.in-Some.is c.in_ok-grown.ensures.tried)

pub returns-clause-taken : goal.returns-clause-taken
returns-clause-taken g c =
    let old = run_of c.args.self.now in
    let mid = run_of c.attempt.new.self in
    let may : MayAttempt c.args.number old = (
      c.requires.idle,
      ap (λ (w : Weak). goes_free w c.args.number) (sym c.state.ensures) ∙ sym c.goes_free.ensures ∙ c.if-goes_free.false,
    ) in
    takes-tried c.args.number old mid (run_of c.activate.new.self) may c.requires.left
    (subst (HasTried c.args.number old mid) c.in_default.is c.in_ok-grown.ensures.tried) c.in_ok-activate.ensures.begun
