use Rattle.ame_engine.proofs.PlaceLemmas.{places-freed}
use Rattle.ame_engine.proofs.VisitEndLemmas.{end-task}
use Rattle.ame_engine.proofs.VisitCallLemmas.{refuse-running, whole-refused, makes-refused}
use Rattle.ame_engine.proofs.engine.Engine.refuse.Goals as goal

pub home-requires : goal.home-requires
home-requires g c =
    refuse-running g.M.Runner.meaning
    _ c.args.self.now c.self.view_is c.self.invariant.whole c.args.seat c.args.attempt c.requires.task c.requires.left

pub invariant_of-self : goal.invariant_of-self
invariant_of-self g c = record {
  whole = whole-refused g.M.Runner.meaning
      _ c.args.self.now c.self.view_is c.self.invariant.whole c.args.seat c.args.attempt c.requires.task c.requires.left
      c.args.device c.home.new.self c.home.ensures c.requires.going c.requires.calls;
  places = places-freed c.self.inside.tasks.items c.args.seat _ _ c.args.attempt (end-task g.M.Runner.meaning
      _ c.args.self.now c.self.view_is c.self.invariant.whole c.args.seat c.args.attempt c.requires.task c.requires.left) c.self.invariant.places;
}

pub returns : goal.returns
returns g c =
    makes-refused g.M.Runner.meaning
    _ c.args.self.now c.self.view_is c.self.invariant.whole c.args.seat c.args.attempt c.requires.task c.requires.left
    c.args.device c.home.new.self c.home.ensures c.requires.going c.requires.calls
