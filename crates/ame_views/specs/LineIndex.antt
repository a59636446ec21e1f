-- The places of the line feeds of a text.
use Rattle.std.specs.Prelude.{ℕ, zero, suc, List, [], ◌∷◌, ◌++◌, if◌then◌else◌, slice_index}
use Rattle.ame_why.specs.Position.{is_feed}

-- the places of the line feeds before a place, the first one first
abbrev pub feeds_before : List ℕ → ℕ → List ℕ
feeds_before text zero = []
feeds_before text (suc place) = feeds_before text place ++ (if is_feed (slice_index text place) then place ∷ [] else [])
