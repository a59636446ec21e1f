-- Finite maps from numbers: lists of entries by rising number.
use Rattle.std.specs.Prelude.{ℕ, List, Option}
use Rattle.std.specs.Map.{lookup, remove_entry, set_value}
use Rattle.std.specs.BTreeMap.{insert_entry, is_at}
use Rattle.std.specs.Ordering.{nat_cmp}

module _ {X : Type 0} where
  -- the value at a number
  abbrev pub at : List (ℕ × X) → ℕ → Option X
  at entries n = lookup (is_at (nat_cmp n)) entries

  -- with the value at a number, whether it was there or not
  abbrev pub put : List (ℕ × X) → ℕ → X → List (ℕ × X)
  put entries n x = insert_entry nat_cmp entries n x

  -- with the value at a number that is there
  abbrev pub change : List (ℕ × X) → ℕ → X → List (ℕ × X)
  change entries n x = set_value (is_at (nat_cmp n)) entries x

  -- without a number
  abbrev pub without : List (ℕ × X) → ℕ → List (ℕ × X)
  without entries n = remove_entry (is_at (nat_cmp n)) entries
