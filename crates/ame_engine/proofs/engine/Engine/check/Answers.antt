use Rattle.std.proofs.Common.{rules, ◌≡◌, ap, refl}
use Rattle.ame_rows.specs.Valid.{IsValid}
use Rattle.ame_rows.specs.MemoryView.{row_at}
use Rattle.ame_protocol.specs.declared.types.Attempt.{Attempt}
use Rattle.ame_protocol.specs.declared.types.Task.{Task}
use Rattle.ame_protocol.specs.Engine.Parts.{task_at, attempt_of}
use Rattle.ame_engine.proofs.PlaceLemmas.{places-kept}
use Rattle.ame_engine.proofs.CheckLemmas.{its-task, whole-valid, makes-valid}
use Rattle.ame_engine.proofs.engine.Engine.check.Goals as goal

pub invariant_of-self : goal.invariant_of-self
invariant_of-self g c =
    let is : task_at c.self.inside.tasks.items c.args.seat ≡ Task.Running c.in-Running.attempt =
    its-task _ c.args.self.now c.self.view_is c.args.seat c.requires.on.stands.attempt c.requires.on.stands.has _ c.in-Running.attempt c.index.ensures c.in-Running.is in
    let valid : IsValid c.self.inside.memory.cells c.args.seat (row_at c.self.inside.memory.rows c.args.seat).reads = search rules in
    record {
      whole = whole-valid g.M.Runner.meaning
          _ c.args.self.now c.self.view_is c.self.invariant.whole c.args.seat c.args.at.now c.requires.on c.requires.outside c.requires.left c.in-Running.attempt is
          c.requires.full c.steps-steps.result (c.steps-steps.ensures c.args.self.now.code) valid c.checked_attempt-later.result _ _ c.checked_attempt-later.ensures
          c.entries.ensures.entries c.entries-in-None.ensures.entries c.requires.going;
      places = places-kept c.self.inside.tasks.items c.args.seat _ _ c.in-Running.attempt (ap attempt_of is) c.self.invariant.places
          (Task.Running c.checked_attempt-later.result) c.checked_attempt-later.result refl (ap (λ (a : Attempt). a.logged) c.checked_attempt-later.ensures);
    }

pub returns-in-None-clause-valid : goal.returns-in-None-clause-valid
returns-in-None-clause-valid g c =
    let is : task_at c.self.inside.tasks.items c.args.seat ≡ Task.Running c.in-Running.attempt =
    its-task _ c.args.self.now c.self.view_is c.args.seat c.requires.on.stands.attempt c.requires.on.stands.has _ c.in-Running.attempt c.index.ensures c.in-Running.is in
    let valid : IsValid c.self.inside.memory.cells c.args.seat (row_at c.self.inside.memory.rows c.args.seat).reads = search rules in
    (λ attempt task _. makes-valid g.M.Runner.meaning
    _ c.args.self.now c.self.view_is c.self.invariant.whole c.args.seat c.args.at.now c.requires.on c.requires.outside c.requires.left c.in-Running.attempt is
    c.requires.full c.steps-steps.result (c.steps-steps.ensures c.args.self.now.code) valid c.checked_attempt-later.result _ _ c.checked_attempt-later.ensures
    c.entries.ensures.entries c.entries-in-None.ensures.entries c.requires.going attempt task)

pub returns-in-Some-clause-back : goal.returns-in-Some-clause-back
returns-in-Some-clause-back g c = λ attempt bad task _. c.turn_back.ensures attempt task
