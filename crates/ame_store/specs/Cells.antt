-- The cell, as contracts see it.
use Rattle.std.specs.Prelude.{◌≡◌, ℕ, ◌%◌, ◌^◌, ◌<◌, Some, None, MatchOption, false}
use Rattle.ame_store.specs.declared.cell.Cell.{Cell}

module _ {V : Type 0} where
  -- its number is even exactly if it has no owner
  abbrev pub HasItsParity : Cell V → Type 0
  HasItsParity cell = MatchOption cell.owner (cell.number % 2 ≡ 0) (λ _. cell.number % 2 ≡ 1)

  -- no seat owns it
  abbrev pub IsFree : Cell V → Type 0
  IsFree cell = cell.owner ≡ None

  -- this seat owns it
  abbrev pub IsOwnedBy : ℕ → Cell V → Type 0
  IsOwnedBy seat cell = cell.owner ≡ Some seat

  -- its owner made it and has not released it, or it was killed
  abbrev pub IsDead : Cell V → Type 0
  IsDead cell = cell.live ≡ false

  -- its number is far from the last one of 64 bits
  abbrev pub CanGrow : Cell V → Type 0
  CanGrow cell = cell.number < 2 ^ 62
