use Rattle.std.proofs.Common.{sym, ◌∙◌, subst}
use Rattle.ame_sim.specs.Schedule.{AreSeats}
use Rattle.ame_app.proofs.PickLemmas.{seats-low}
use Rattle.ame_app.proofs.lists.Mades.schedule_text.Goals as goal

pub schedule_text-requires : goal.schedule_text-requires
schedule_text-requires c =
    subst AreSeats (sym (c.deref.ensures.value ∙ c.loop-pick.invariant))
    (seats-low c.picks-pick-items.result.now c.loop-pick.pick-index c.picks-pick-items.ensures.low)
