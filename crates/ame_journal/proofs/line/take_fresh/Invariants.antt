use Rattle.std.proofs.Common.{◌≡◌, ◌<◌, ◌^◌, ◌++◌, All, map, length, decimal}
use Rattle.ame_journal.proofs.line.take_fresh.Given as goal

abbrev pub invariant-loop-location : goal.invariant-loop-location
invariant-loop-location l =
    (l.initial.words ≡ map decimal (map (λ x. x.0) l.fresh.items) ++ l.words) × All (λ x. x < 2 ^ 32) (map (λ x. x.0) l.fresh.items)

abbrev pub decreases-loop-location : goal.decreases-loop-location
decreases-loop-location l = length l.words
