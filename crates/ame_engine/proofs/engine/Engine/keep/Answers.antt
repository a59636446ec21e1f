use Rattle.std.proofs.Common.{rules, ◌≡◌, None}
use Rattle.ame_engine.proofs.CheckLemmas.{whole-kept}
use Rattle.ame_engine.proofs.engine.Engine.keep.Goals as goal

pub invariant_of-self : goal.invariant_of-self
invariant_of-self g c =
    let none : c.self.inside.stop ≡ None = search rules in
    record {
      whole = whole-kept g.M.Runner.meaning
          _ c.args.self.now c.self.view_is c.args.why c.self.invariant.whole none c.requires.apart c.requires.cause c.requires.leaves;
      places = c.self.invariant.places;
    }
