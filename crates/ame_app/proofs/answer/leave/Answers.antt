use Rattle.std.specs.Arc.{arc_value}
use Rattle.ame_app.proofs.PromisedLemmas.{left-other}
use Rattle.ame_app.proofs.answer.leave.Goals as goal

pub turn_back-requires : goal.turn_back-requires
turn_back-requires g c =
    let job = c.args.asked.job in
    let settled = c.args.settled in
    record { other = left-other job.command job.front (arc_value job.code) settled.ahead.items settled.own settled.told c.requires.settled }
