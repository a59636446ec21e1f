use Rattle.std.proofs.Common.{◌≤◌, All, subst}
use Rattle.ame_pool.specs.Members.{IsRising}
use Rattle.ame_pool.specs.Standings.{max_rollbacks}
use Rattle.ame_engine.proofs.SoundLemmas.{good-pool}
use Rattle.ame_engine.proofs.engine.Engine.members_are_rolled_back_seldom.Goals as goal

pub returns-clause-few : goal.returns-clause-few
returns-clause-few g c =
    subst (λ x. All (λ m. m.rollbacks ≤ max_rollbacks) x.pool.members) c.self.view_is (good-pool g.M.Runner.meaning _ c.self.invariant.whole).few

pub returns-clause-rising : goal.returns-clause-rising
returns-clause-rising g c =
    subst (λ x. IsRising x.pool.members) c.self.view_is (good-pool g.M.Runner.meaning _ c.self.invariant.whole).rising
