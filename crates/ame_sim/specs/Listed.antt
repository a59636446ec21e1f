-- The strategy of the chooser of a list.
use Rattle.std.specs.Prelude.{ℕ, List, [], ◌∷◌, ◌==◌, if◌then◌else◌, slice_index_or}
use Rattle.std.specs.List.{list_any}

-- the first that may be picked
abbrev pub first_that_may : List ℕ → ℕ
first_that_may may = slice_index_or may 0 0

-- this seat if it may be picked, otherwise the first that may
abbrev pub or_first : ℕ → List ℕ → ℕ
or_first seat may = if list_any (λ s. s == seat) may then seat else first_that_may may

-- each question takes the next of the seats; if none is left, the first that may be picked answers it
abbrev pub picked_as_listed : List ℕ → List (List ℕ) → List ℕ
picked_as_listed seats [] = []
picked_as_listed [] (may ∷ rest) = first_that_may may ∷ picked_as_listed [] rest
picked_as_listed (seat ∷ seats) (may ∷ rest) = or_first seat may ∷ picked_as_listed seats rest
