use Rattle.std.proofs.Common.{◌≡◌, ◌<◌, ◌^◌, ◌++◌, All, map, decimal, take}
use Rattle.std.specs.List.{flat_map}
use Rattle.ame_journal.specs.Lines.{part_of}
use Rattle.ame_journal.proofs.spelling.write_fresh.Given as goal

abbrev pub invariant-loop-location : goal.invariant-loop-location
invariant-loop-location l =
    (l.text.items ≡ l.initial.text.items ++ flat_map (λ x. part_of (decimal x)) (map (λ x. x.0) (take l.location-index l.fresh)))
    × All (λ x. x < 2 ^ 32) (map (λ x. x.0) (take l.location-index l.fresh))
