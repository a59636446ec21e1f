use Rattle.std.proofs.Common.{◌≡◌, ap, sym, subst, refl}
use Rattle.ame_protocol.specs.declared.types.UndoReason.{UndoReason}
use Rattle.ame_protocol.specs.declared.types.Task.{Task}
use Rattle.ame_protocol.specs.Engine.Parts.{task_at, attempt_of}
use Rattle.ame_engine.proofs.PlaceLemmas.{places-kept}
use Rattle.ame_engine.proofs.TurnLemmas.{makes-turned, whole-turned}
use Rattle.ame_engine.proofs.engine.Engine.turn_back.Goals as goal

pub invariant_of-self : goal.invariant_of-self
invariant_of-self g c =
    let is : task_at c.self.inside.tasks.items c.args.seat ≡ Task.Running c.args.attempt =
    subst (λ x. task_at x.tasks c.args.seat ≡ Task.Running c.args.attempt) (sym c.self.view_is) c.requires.task in
    record {
      whole = whole-turned g.M.Runner.meaning
          _ c.args.self.now c.self.view_is c.self.invariant.whole c.args.seat c.args.attempt c.args.setback c.requires.task c.requires.left c.requires.going c.requires.met
          c.count-self-inside.result c.count-self-inside.ensures;
      places = places-kept c.self.inside.tasks.items c.args.seat _ _ c.args.attempt (ap attempt_of is) c.self.invariant.places
          (Task.Undoing c.args.attempt UndoReason.RolledBack) c.args.attempt refl refl;
    }

pub returns : goal.returns
returns g c =
    makes-turned g.M.Runner.meaning
    _ c.args.self.now c.self.view_is c.self.invariant.whole c.args.seat c.args.attempt c.args.setback c.requires.task c.requires.left c.requires.going c.requires.met
    c.count-self-inside.result c.count-self-inside.ensures
