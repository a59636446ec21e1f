-- The locations of the labels of a run.
use Rattle.std.specs.Prelude.{ℕ, ◌+◌, max, List, [], ◌∷◌, Option, Some, None}
use Rattle.ame_term.specs.Act.{fresh_location}
use Rattle.ame_term.specs.declared.semantics.Label.{Label}

-- the location that a label makes, if it makes one
abbrev pub label_location : Label → Option ℕ
label_location (Label.Step kind) = fresh_location kind
label_location (Label.Free i kind) = fresh_location kind
label_location _ = None

-- the first location after one, if there is one
abbrev pub behind_location : Option ℕ → ℕ
behind_location None = 0
behind_location (Some l) = l + 1

-- the least location above all that labels make
abbrev pub location_above : List Label → ℕ
location_above [] = 0
location_above (label ∷ labels) = max (behind_location (label_location label)) (location_above labels)
