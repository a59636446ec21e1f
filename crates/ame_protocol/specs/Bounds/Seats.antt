-- Sums over the seats of an engine.
use Rattle.std.specs.Prelude.{ℕ, zero, suc, ◌+◌}

-- Returns the sum of a number over this number of seats.
abbrev pub over_seats : ℕ → (ℕ → ℕ) → ℕ
over_seats zero f = 0
over_seats (suc k) f = f k + over_seats k f
