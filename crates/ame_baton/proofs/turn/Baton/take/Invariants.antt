use Rattle.std.proofs.Common.{◌≡◌, false}
use Rattle.ame_baton.specs.Batons.{knows, IsSeatOf}
use Rattle.ame_baton.proofs.turn.Baton.take.Given as goal

abbrev pub invariant-loop : goal.invariant-loop
invariant-loop g l = IsSeatOf l.self l.seat × (knows l.seat ≡ knows l.initial.seat) × ((knows l.seat).holds ≡ false)
