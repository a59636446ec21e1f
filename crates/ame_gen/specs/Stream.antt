-- The stream of numbers that a seed begins.
use Rattle.std.specs.Prelude.{ℕ, zero, suc, ◌+◌, ◌*◌, ◌%◌}

-- the number after this one
abbrev pub next : ℕ → ℕ
next x = (75 * x + 74) % 65537

-- the number in this place; the seed stands in place 0
abbrev pub stream_at : ℕ → ℕ → ℕ
stream_at seed zero = seed
stream_at seed (suc place) = next (stream_at seed place)
