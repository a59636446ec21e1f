-- Counts of faults: numbers of 64 bits that never fall, and stay at their last value.
use Rattle.std.specs.Prelude.{◌≡◌, ℕ, ◌+◌, ◌-◌, ◌^◌, ◌<◌, ◌≤◌, min, Result, MatchResult}

-- the count after one more
abbrev pub next_count : ℕ → ℕ
next_count count = min (count + 1) (2 ^ 64 - 1)

-- the count rose, or stands at its last value
pub record HasRisen (before now : ℕ) : Type 0 where
  pub never_falls : before ≤ now
  pub counted : next_count before ≤ now

-- the count stayed, and isn't at its last value
pub record HasNotRisen (before now : ℕ) : Type 0 where
  pub stayed : now ≡ before
  pub below_last : now < 2 ^ 64 - 1

-- a call leaves its end's count at `Ok`, and raises it at `Err`
abbrev pub CountsFault : {T E : Type 0} → Result T E → ℕ → ℕ → Type 0
CountsFault answer before now = MatchResult answer (λ _. now ≡ before) (λ _. HasRisen before now)
