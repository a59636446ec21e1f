-- A pick that found nothing to do did nothing else.
use Rattle.std.proofs.Common.{◌≡◌, ℕ, true, Option, None, refl, ap, ◌∙◌}
use Rattle.std.specs.Prelude.{length}
use Rattle.ame_machine.specs.Meaning.{Meaning}
use Rattle.ame_protocol.specs.declared.types.Task.{Task}
use Rattle.ame_protocol.specs.Engine.Parts.{task_at, member_of}
use Rattle.ame_engine.specs.Core.{Core}
use Rattle.ame_shell.specs.Shell.{ShellView}
use Rattle.ame_shell.specs.Turned.{member_told}
use Rattle.ame_shell.specs.declared.work.Outcome.{Outcome}
use Rattle.ame_sim.specs.declared.made.Made.{Made}
use Rattle.ame_sim.specs.Picks.{is_waited}
use Rattle.ame_sim.specs.Places.{place_wanted, place_told}
use Rattle.ame_sim.specs.Played.{HasPlayed}
use Rattle.ame_sim.specs.Woven.{WaitsPlainly, waited_at}
use Rattle.ame_sim.proofs.TurnLemmas.{turn-waits}

waited-is : (outcome : Outcome) → is_waited outcome ≡ true → outcome ≡ Outcome.Waited
waited-is Outcome.Waited w = refl
waited-is _ w = cc

made-is : (seat : ℕ) (member place : Option ℕ) (outcome : Outcome) → member ≡ None → outcome ≡ Outcome.Waited → place ≡ None
    → record { seat = seat; member = member; outcome = outcome; place = place } ≡ waited_at seat
made-is seat member place outcome nobody waits nowhere =
    ap (λ (m : Option ℕ). let made : Made = record { seat = seat; member = m; outcome = outcome; place = place } in made) nobody
    ∙ ap (λ (d : Outcome). let made : Made = record { seat = seat; member = None; outcome = d; place = place } in made) waits
    ∙ ap (λ (p : Option ℕ). let made : Made = record { seat = seat; member = None; outcome = Outcome.Waited; place = p } in made) nowhere

pub played-plain : {C V M : Type 0} (meaning : Meaning C V M) (made : Made) (old new : ShellView C V M) → HasPlayed meaning made old new → WaitsPlainly made
played-plain {C} {V} {M} meaning made old new p waits =
    let w = turn-waits meaning made.seat p.hand old new made.outcome p.turned waits in
    let outcome = waited-is made.outcome waits in
    let idle : task_at new.core.tasks made.seat ≡ Task.Idle = ap (λ (c : Core C V M). task_at c.tasks made.seat) w.same ∙ w.idle in
    made-is made.seat made.member made.place made.outcome
    (p.member ∙ ap (λ (t : Task). member_told (member_of t) (member_of (task_at new.core.tasks made.seat))) w.idle ∙ ap member_of idle)
    outcome
    (p.place ∙ ap (λ (d : Outcome). place_told d (place_wanted (length old.core.memory.cells) p.hand)) outcome)
