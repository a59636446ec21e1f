use Rattle.std.proofs.Common.{rules, ◌≡◌, ◌<◌, length, Some, refl}
use Rattle.ame_rows.specs.MemoryView.{row_at}
use Rattle.ame_protocol.specs.declared.types.Task.{Task}
use Rattle.ame_protocol.specs.Engine.Parts.{task_at, attempt_of}
use Rattle.ame_engine.proofs.PlaceLemmas.{places-kept, place-there, places-gone}
use Rattle.ame_engine.proofs.UndoingLemmas.{undo-grows, has-it, home-busy, whole-undone, makes-undone, whole-gone, makes-gone}
use Rattle.ame_engine.proofs.engine.Engine.undo_one.Goals as goal

pub undo_last-is_left-requires-clause-can_grow : goal.undo_last-is_left-requires-clause-can_grow
undo_last-is_left-requires-clause-can_grow g c =
    undo-grows g.M.Runner.meaning
    _ c.args.self.now c.self.view_is c.self.invariant.whole c.args.seat c.requires.busy c.requires.undoes c.requires.left

pub bring_home-requires : goal.bring_home-requires
bring_home-requires g c =
    home-busy g.M.Runner.meaning
    _ c.args.self.now c.self.view_is c.self.invariant.whole c.args.seat c.requires.busy c.requires.undoes c.requires.left
    c.index-task.result.now c.index-task.ensures c.attempt_at-attempt.result c.attempt_at-attempt.ensures c.why_undone-reason.result c.why_undone-reason.ensures

pub tell_try-requires : goal.tell_try-requires
tell_try-requires g c =
    let has : attempt_of (task_at c.self.inside.tasks.items c.args.seat) ≡ Some c.attempt_at-attempt.result =
    has-it g.M.Runner.meaning
    _ c.args.self.now c.self.view_is c.self.invariant.whole c.args.seat c.requires.busy c.requires.undoes c.requires.left
    c.index-task.result.now c.index-task.ensures c.attempt_at-attempt.result c.attempt_at-attempt.ensures c.why_undone-reason.result c.why_undone-reason.ensures in
    (λ told. place-there c.self.inside.tasks.items c.args.seat _ _ c.attempt_at-attempt.result has c.self.invariant.places told)

pub invariant_of-self : goal.invariant_of-self
invariant_of-self g c =
    let has : attempt_of (task_at c.self.inside.tasks.items c.args.seat) ≡ Some c.attempt_at-attempt.result =
    has-it g.M.Runner.meaning
    _ c.args.self.now c.self.view_is c.self.invariant.whole c.args.seat c.requires.busy c.requires.undoes c.requires.left
    c.index-task.result.now c.index-task.ensures c.attempt_at-attempt.result c.attempt_at-attempt.ensures c.why_undone-reason.result c.why_undone-reason.ensures in
    let more : 1 < length (row_at c.self.inside.memory.rows c.args.seat).undos = search rules in
    record {
      whole = whole-undone g.M.Runner.meaning
          _ c.args.self.now c.self.view_is c.self.invariant.whole c.args.seat c.requires.busy c.requires.undoes c.requires.left
          c.index-task.result.now c.index-task.ensures c.attempt_at-attempt.result c.attempt_at-attempt.ensures c.why_undone-reason.result c.why_undone-reason.ensures
          c.undo_last-is_left.new.self c.undo_last-is_left.ensures.contents c.is_some-stopped.result c.is_some-stopped.ensures
          c.undo_turns-self-inside.result c.undo_turns-self-inside.ensures c.undo_counters-self-inside.result c.undo_counters-self-inside.ensures more;
      places = places-kept c.self.inside.tasks.items c.args.seat _ _ c.attempt_at-attempt.result has c.self.invariant.places
          (Task.Undoing c.attempt_at-attempt.result c.why_undone-reason.result) c.attempt_at-attempt.result refl refl;
    }

pub invariant_of-self-else-is_left : goal.invariant_of-self-else-is_left
invariant_of-self-else-is_left g c =
    let has : attempt_of (task_at c.self.inside.tasks.items c.args.seat) ≡ Some c.attempt_at-attempt.result =
    has-it g.M.Runner.meaning
    _ c.args.self.now c.self.view_is c.self.invariant.whole c.args.seat c.requires.busy c.requires.undoes c.requires.left
    c.index-task.result.now c.index-task.ensures c.attempt_at-attempt.result c.attempt_at-attempt.ensures c.why_undone-reason.result c.why_undone-reason.ensures in
    let none : 1 < length (row_at c.self.inside.memory.rows c.args.seat).undos → ⊥ = search rules in
    record {
      whole = whole-gone g.M.Runner.meaning
          _ c.args.self.now c.self.view_is c.self.invariant.whole c.args.seat c.requires.busy c.requires.undoes c.requires.left
          c.index-task.result.now c.index-task.ensures c.attempt_at-attempt.result c.attempt_at-attempt.ensures c.why_undone-reason.result c.why_undone-reason.ensures
          c.undo_last-is_left.new.self c.undo_last-is_left.ensures.contents c.is_some-stopped.result c.is_some-stopped.ensures
          c.undo_turns-self-inside.result c.undo_turns-self-inside.ensures c.undo_counters-self-inside.result c.undo_counters-self-inside.ensures
          c.bring_home.new.pool c.bring_home.ensures c.tell_try.new.tried.items c.tell_try.ensures.items none;
      places = places-gone c.self.inside.tasks.items c.args.seat _ _ c.attempt_at-attempt.result has c.self.invariant.places _ _
          c.tell_try.ensures.len c.tell_try.ensures.capacity;
    }

pub returns-then-is_left-clause-more : goal.returns-then-is_left-clause-more
returns-then-is_left-clause-more g c =
    let more : 1 < length (row_at c.self.inside.memory.rows c.args.seat).undos = search rules in
    (λ attempt has _. makes-undone g.M.Runner.meaning
    _ c.args.self.now c.self.view_is c.self.invariant.whole c.args.seat c.requires.busy c.requires.undoes c.requires.left
    c.index-task.result.now c.index-task.ensures c.attempt_at-attempt.result c.attempt_at-attempt.ensures c.why_undone-reason.result c.why_undone-reason.ensures
    c.undo_last-is_left.new.self c.undo_last-is_left.ensures.contents c.is_some-stopped.result c.is_some-stopped.ensures
    c.undo_turns-self-inside.result c.undo_turns-self-inside.ensures c.undo_counters-self-inside.result c.undo_counters-self-inside.ensures more attempt has)

pub returns-else-is_left-clause-home : goal.returns-else-is_left-clause-home
returns-else-is_left-clause-home g c =
    let none : 1 < length (row_at c.self.inside.memory.rows c.args.seat).undos → ⊥ = search rules in
    (λ attempt has _. makes-gone g.M.Runner.meaning
    _ c.args.self.now c.self.view_is c.self.invariant.whole c.args.seat c.requires.busy c.requires.undoes c.requires.left
    c.index-task.result.now c.index-task.ensures c.attempt_at-attempt.result c.attempt_at-attempt.ensures c.why_undone-reason.result c.why_undone-reason.ensures
    c.undo_last-is_left.new.self c.undo_last-is_left.ensures.contents c.is_some-stopped.result c.is_some-stopped.ensures
    c.undo_turns-self-inside.result c.undo_turns-self-inside.ensures c.undo_counters-self-inside.result c.undo_counters-self-inside.ensures
    c.bring_home.new.pool c.bring_home.ensures c.tell_try.new.tried.items c.tell_try.ensures.items none attempt has)
