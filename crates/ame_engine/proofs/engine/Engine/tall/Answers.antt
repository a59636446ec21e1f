use Rattle.std.proofs.Common.{rules, ◌≡◌, subst}
use Rattle.ame_rows.specs.Valid.{IsValid}
use Rattle.ame_rows.specs.MemoryView.{row_at}
use Rattle.ame_protocol.specs.declared.types.Task.{Task}
use Rattle.ame_protocol.specs.Engine.Parts.{task_at}
use Rattle.ame_engine.proofs.LastLemmas.{last-some, turned-runs}
use Rattle.ame_engine.proofs.engine.Engine.tall.Goals as goal

pub attempt_at-attempt-requires : goal.attempt_at-attempt-requires
attempt_at-attempt-requires g c =
    last-some g.M.Runner.meaning
    _ c.args.self.now c.self.view_is c.self.invariant.whole c.args.seat c.args.at.now c.requires.on
    c.index.result.now c.index.ensures

pub turn_back-requires-clause-task : goal.turn_back-requires-clause-task
turn_back-requires-clause-task g c =
    let invalid : IsValid c.self.inside.memory.cells c.args.seat (row_at c.self.inside.memory.rows c.args.seat).reads → ⊥ = search rules in
    subst (λ x. task_at x.tasks c.args.seat ≡ Task.Running c.attempt_at-attempt.result) c.self.view_is (turned-runs g.M.Runner.meaning
    _ c.args.self.now c.self.view_is c.self.invariant.whole c.args.seat c.args.at.now c.requires.on
    invalid c.index.result.now c.index.ensures c.attempt_at-attempt.result c.attempt_at-attempt.ensures)

pub returns-in-Some-clause-back : goal.returns-in-Some-clause-back
returns-in-Some-clause-back g c = λ attempt bad task _. c.turn_back.ensures attempt task
