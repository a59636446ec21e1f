-- The strategy of the chooser of a seed.
use Rattle.std.specs.Prelude.{ℕ, ◌+◌, ◌%◌, List, [], ◌∷◌, length, slice_index_or}
use Rattle.ame_gen.specs.Stream.{next, stream_at}

-- each question takes the next number, which counts along the list, round and round
abbrev pub drawn : ℕ → List (List ℕ) → List ℕ
drawn x [] = []
drawn x (may ∷ rest) = slice_index_or may (next x % length may) 0 ∷ drawn (next x) rest

-- the pick for the question in this place, from 0, by the stream of the seed
abbrev pub drawn_at : ℕ → ℕ → List ℕ → ℕ
drawn_at seed place may = slice_index_or may (stream_at seed (place + 1) % length may) 0
