use Rattle.std.proofs.Common.{◌≡◌, ◌++◌, take, map}
use Rattle.std.specs.List.{flat_map}
use Rattle.ame_views.specs.Table.{spaced_number}
use Rattle.ame_views.proofs.row.append_numbers.Given as goal

abbrev pub invariant-loop-location : goal.invariant-loop-location
invariant-loop-location l = l.page ≡ l.initial.page ++ flat_map spaced_number (map (λ m. m.0) (take l.location-index l.made))
