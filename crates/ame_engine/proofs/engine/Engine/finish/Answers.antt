use Rattle.ame_engine.proofs.EndLemmas.{all-free, ends-so}
use Rattle.ame_engine.proofs.engine.Engine.finish.Goals as goal

pub returns-clause-ends : goal.returns-clause-ends
returns-clause-ends g c =
    ends-so g.M.Runner.meaning
    _ c.args.self c.self.view_is c.self.invariant.whole c.requires.idle c.into_cells.result c.into_cells.ensures.cells c.into_cells.ensures.free

pub invariant_of-result : goal.invariant_of-result
invariant_of-result g c =
    all-free g.M.Runner.meaning
    _ c.args.self c.self.view_is c.self.invariant.whole c.requires.idle c.into_cells.result c.into_cells.ensures.cells c.into_cells.ensures.free
