use Rattle.std.proofs.Common.{sym, subst}
use Rattle.std.specs.Prelude.{List, All, ◌<◌}
use Rattle.ame_sim.specs.declared.picked.Picked.{Picked}
use Rattle.ame_app.proofs.PickLemmas.{picks-low}
use Rattle.ame_app.proofs.lists.Mades.picks.Goals as goal

pub returns-clause-low : goal.returns-clause-low
returns-clause-low c =
    subst (λ (picks : List Picked). All (λ (pick : Picked). pick.seat < 32) picks) (sym c.picks.ensures)
    (picks-low _ c.self.invariant)
