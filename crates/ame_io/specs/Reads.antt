-- The effect of reading a whole source on the bytes that it has left, if it reports them, and on its count of faults.
use Rattle.std.specs.Prelude.{◌≡◌, ℕ, ◌<◌, ◌≤◌, List, length, Option}
use Rattle.std.specs.Io.KnownBytes.{Consumes, IsAtEnd}
use Rattle.ame_io.specs.Counts.{HasRisen}
use Rattle.ame_io.specs.declared.whole_read.ReadAllFail.{ReadAllFail}
use Rattle.ame_io.specs.declared.whole_read.ReadAllFail.TheVariants.{ReadFault, TooLong, NoMemory}

-- these are all the bytes that were left, and they were read to their end
pub record IsReadWhole (before after : Option (List ℕ)) (bytes : List ℕ) : Type 0 where
  pub taken : Consumes before after bytes
  pub at_end : IsAtEnd after

-- the most bytes that a whole input may have
abbrev pub whole_limit : ℕ
whole_limit = 1048576

-- at most `limit` bytes were taken from the front
pub record GivesAtMost (limit : ℕ) (before after : Option (List ℕ)) : Type 0 where
  pub bytes : List ℕ
  pub taken : Consumes before after bytes
  pub at_most : length bytes ≤ limit

-- more than `limit` bytes were taken from the front
pub record GivesMoreThan (limit : ℕ) (before after : Option (List ℕ)) : Type 0 where
  pub bytes : List ℕ
  pub taken : Consumes before after bytes
  pub more : limit < length bytes

-- the bytes that are left after a read of the whole that failed
abbrev pub LeftAfter : ReadAllFail → Option (List ℕ) → Option (List ℕ) → Type 0
LeftAfter ReadFault before after = GivesAtMost whole_limit before after
LeftAfter TooLong before after = GivesMoreThan whole_limit before after
LeftAfter NoMemory before after = after ≡ before

-- the count of faults after a read of the whole that failed
abbrev pub FaultsAfter : ReadAllFail → ℕ → ℕ → Type 0
FaultsAfter ReadFault before now = HasRisen before now
FaultsAfter TooLong before now = now ≡ before
FaultsAfter NoMemory before now = now ≡ before
