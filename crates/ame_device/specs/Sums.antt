-- Sums that wrap at 64 bits.
use Rattle.std.specs.Prelude.{ℤ, pos, List, [], ◌∷◌}
use Rattle.std.specs.Int.{w64, int_wrapping_add}

-- a sum and more numbers, wrapping at 64 bits
abbrev pub wrapping_sum_from : ℤ → List ℤ → ℤ
wrapping_sum_from sum [] = sum
wrapping_sum_from sum (n ∷ ns) = wrapping_sum_from (int_wrapping_add w64 sum n) ns

abbrev pub wrapping_sum : List ℤ → ℤ
wrapping_sum ns = wrapping_sum_from (pos 0) ns

-- the sums of a sum and the first number, the first two, and so on
abbrev pub running_sums : ℤ → List ℤ → List ℤ
running_sums sum [] = []
running_sums sum (n ∷ ns) = int_wrapping_add w64 sum n ∷ running_sums (int_wrapping_add w64 sum n) ns
