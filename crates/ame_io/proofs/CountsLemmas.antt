-- Counts of faults over several calls.
use Rattle.std.proofs.Common.{ℕ, arith}
use Rattle.ame_io.specs.Counts.{HasRisen, HasNotRisen}

-- a count doesn't do both
pub HasNotRisen-excludes : (before now : ℕ) → HasNotRisen before now → HasRisen before now → ⊥
HasNotRisen-excludes before now stays rises = omega (arith, rises.counted)
