use Rattle.std.proofs.Common.{◌≡◌, ◌⊎◌, inl, inr, true, false, Option, Ok, Some, refl, sym, ap, ◌∙◌, subst}
use Rattle.ame_machine.specs.declared.wants.Wants.{Wants}
use Rattle.ame_machine.specs.declared.wants.Wants.TheVariants as wants
use Rattle.ame_engine.specs.Committing.{commits}
use Rattle.ame_protocol.specs.declared.stop.Stop.{Stop}
use Rattle.ame_protocol.specs.Event.Event.{Find}
use Rattle.ame_engine.proofs.MakesLemmas.{ended-made, left-made, stale-made}
use Rattle.ame_shell.specs.declared.work.Outcome.{Outcome}
use Rattle.ame_shell.proofs.HandLemmas.{running, back-fits, ended-fits, left-fits, at-work-busy, stopped-undoes, lacked-done}
use Rattle.ame_shell.specs.Asked.{IsToTakeMemory, LacksWhereDue}
use Rattle.ame_shell.proofs.DoneLemmas.{runs-from, commits-from, lacked, lacked-due}
use Rattle.ame_shell.specs.Outcomes.{is_home, IsOutcomeOf, IsMade, IsDone}
use Rattle.ame_shell.proofs.rows.commit_on.Goals as goal

abbrev IsTold : Outcome → Option Wants → Type 0
IsTold outcome want = ((outcome ≡ Outcome.Ended) × (want ≡ Some wants.Done)) ⊎ ((outcome ≡ Outcome.Left) × (want ≡ Some wants.Leave))

commits-told : (outcome : Outcome) (want : Option Wants) → IsTold outcome want → commits want ≡ true
commits-told outcome want (inl ends) = ap commits ends.1
commits-told outcome want (inr leaves) = ap commits leaves.1

home-told : (outcome : Outcome) (want : Option Wants) → IsTold outcome want → is_home outcome ≡ true
home-told outcome want (inl ends) = ap is_home ends.0
home-told outcome want (inr leaves) = ap is_home leaves.0

pub commit-requires-clause-commits : goal.commit-requires-clause-commits
commit-requires-clause-commits g c = record { wants = commits-told _ _ c.requires.told; outside = c.requires.outside }

pub returns-in-Ok-Noted-clause-home : goal.returns-in-Ok-Noted-clause-home
returns-in-Ok-Noted-clause-home g c = λ _.
    let a = c.requires.turn.at.on.stands.attempt in
    let s = g.M.Runner.meaning.stage c.args.engine.now.code c.args.machine in
    let task = running g.M.Runner.meaning c.args.engine.now c.args.engine.now c.args.seat c.args.machine c.requires.turn.at c.requires.outside in
    let is = c.in-Ok-Noted.is ∙ ap Ok c.in-Ok-Noted.field-0-is in
    elim c.requires.told [
      | inl ends ↦ ended-fits g.M.Runner.meaning c.args.engine.now c.commit.new.self c.args.seat _ a s task
          (ended-made g.M.Runner.meaning c.args.engine.now c.commit.new.self s c.args.seat a (c.commit.ensures.ended a task ends.1 is))
      | inr leaves ↦ left-fits g.M.Runner.meaning c.args.engine.now c.commit.new.self c.args.seat _ a s task
          (left-made g.M.Runner.meaning c.args.engine.now c.commit.new.self s c.args.seat a (c.commit.ensures.left a task leaves.1 is))
    ]

pub returns-in-Ok-Noted-clause-back : goal.returns-in-Ok-Noted-clause-back
returns-in-Ok-Noted-clause-back g c = λ away. absurd (let home = home-told _ _ c.requires.told in let is : true ≡ false = sym home ∙ away in cc)

pub returns-in-Ok-Noted-clause-done : goal.returns-in-Ok-Noted-clause-done
returns-in-Ok-Noted-clause-done g c = λ told.
    let a = c.requires.turn.at.on.stands.attempt in
    let core = c.args.engine.now in
    let s = g.M.Runner.meaning.stage core.code c.args.machine in
    let task = running g.M.Runner.meaning core core c.args.seat c.args.machine c.requires.turn.at c.requires.outside in
    let is = c.in-Ok-Noted.is ∙ ap Ok c.in-Ok-Noted.field-0-is in
    elim c.requires.told [
      | inl ends ↦
          (let at = c.commit.ensures.ended a task ends.1 is in
          subst (λ d. IsDone g.M.Runner.meaning c.args.seat (Some s) core c.commit.new.self told told d) (sym ends.0) (record {
            event = IsMade.makes _ _
                (IsOutcomeOf.ended s a at.place (runs-from core s c.requires.turn.going c.requires.turn.left wants.Done ends.1 c.requires.outside) at.shows) at.makes;
            quiet = λ _. refl;
          }))
      | inr leaves ↦
          (let at = c.commit.ensures.left a task leaves.1 is in
          subst (λ d. IsDone g.M.Runner.meaning c.args.seat (Some s) core c.commit.new.self told told d) (sym leaves.0) (record {
            event = IsMade.makes _ _
                (IsOutcomeOf.left s a at.place (runs-from core s c.requires.turn.going c.requires.turn.left wants.Leave leaves.1 c.requires.outside) at.shows) at.makes;
            quiet = λ _. refl;
          }))
    ]

pub returns-in-Ok-Noted-clause-due : goal.returns-in-Ok-Noted-clause-due
returns-in-Ok-Noted-clause-due g c = elim c.requires.told [
  | inl ends ↦ subst (LacksWhereDue c.args.engine.now c.args.seat _) (sym ends.0) tt
  | inr leaves ↦ subst (LacksWhereDue c.args.engine.now c.args.seat _) (sym leaves.0) tt
]

pub returns-in-Ok-Invalid-clause-back : goal.returns-in-Ok-Invalid-clause-back
returns-in-Ok-Invalid-clause-back g c = λ _.
    let a = c.requires.turn.at.on.stands.attempt in
    let task = running g.M.Runner.meaning c.args.engine.now c.args.engine.now c.args.seat c.args.machine c.requires.turn.at c.requires.outside in
    back-fits g.M.Runner.meaning c.args.engine.now c.commit.new.self c.args.seat _ a task
    (stale-made g.M.Runner.meaning c.args.engine.now c.commit.new.self c.args.seat a Find.Commit
    (c.commit.ensures.back a c.in-Ok-Invalid.bad task (c.in-Ok-Invalid.is ∙ ap Ok c.in-Ok-Invalid.field-0-is)))

pub returns-in-Ok-Invalid-clause-done : goal.returns-in-Ok-Invalid-clause-done
returns-in-Ok-Invalid-clause-done g c = λ told.
    let a = c.requires.turn.at.on.stands.attempt in
    let s = g.M.Runner.meaning.stage c.args.engine.now.code c.args.machine in
    let task = running g.M.Runner.meaning c.args.engine.now c.args.engine.now c.args.seat c.args.machine c.requires.turn.at c.requires.outside in
    let is = c.in-Ok-Invalid.is ∙ ap Ok c.in-Ok-Invalid.field-0-is in
    record {
      event = IsMade.makes _ _
          (IsOutcomeOf.refused s a _ (commits-from c.args.engine.now s c.requires.turn.going c.requires.turn.left
          (record { wants = commits-told _ _ c.requires.told; outside = c.requires.outside })) (c.commit.ensures.bad c.in-Ok-Invalid.bad is))
          (c.commit.ensures.back a c.in-Ok-Invalid.bad task is);
      quiet = λ _. refl;
    }

pub returns-in-Err-clause-back : goal.returns-in-Err-clause-back
returns-in-Err-clause-back g c = λ _.
    stopped-undoes g.M.Runner.meaning c.args.engine.now c.give_up.new.engine c.args.seat Stop.NoMemory
    (at-work-busy g.M.Runner.meaning c.args.engine.now c.args.engine.now c.args.seat c.args.machine c.requires.turn.at)
    (lacked-done g.M.Runner.meaning c.args.engine.now c.give_up.new.engine c.args.seat c.commit.new.self c.in-Err.ensures.err c.give_up.ensures.engine)

pub returns-in-Err-clause-done : goal.returns-in-Err-clause-done
returns-in-Err-clause-done g c = λ told.
    lacked g.M.Runner.meaning c.args.engine.now c.args.seat _ c.commit.new.self c.give_up.new.engine told _ c.in-Err.ensures.err c.requires.turn.going
    c.give_up.ensures.halts c.give_up.ensures.engine c.give_up.ensures.outcome

pub returns-in-Err-clause-due : goal.returns-in-Err-clause-due
returns-in-Err-clause-due g c =
    let s = g.M.Runner.meaning.stage c.args.engine.now.code c.args.machine in
    lacked-due c.args.engine.now c.args.seat _ _ c.give_up.ensures.outcome
    (IsToTakeMemory.commits s (commits-from c.args.engine.now s c.requires.turn.going c.requires.turn.left
    (record { wants = commits-told _ _ c.requires.told; outside = c.requires.outside })) c.in-Err.ensures.lacks)
