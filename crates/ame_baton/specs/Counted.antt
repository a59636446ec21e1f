-- A seat of a tally, as clauses speak of it.
use Rattle.std.specs.Prelude.{◌≡◌, ℕ, [], length}
use Rattle.ame_baton.specs.declared.seats.SeatAt.{SeatAt}
use Rattle.ame_baton.specs.declared.tally.Tally.{Tally}
use Rattle.ame_baton.specs.declared.turn.Baton.{Baton}
use Rattle.ame_baton.specs.Batons.{knows, IsReadySeat}

-- the seat has this number and has not counted yet
abbrev pub IsFresh : Baton Tally ℕ ℕ ℕ → ℕ → SeatAt Tally ℕ ℕ ℕ → Type 0
IsFresh baton number seat = IsReadySeat baton number seat × ((knows seat).own ≡ [])

-- the seat has this number and has counted this many times
abbrev pub HasCounted : Baton Tally ℕ ℕ ℕ → ℕ → ℕ → SeatAt Tally ℕ ℕ ℕ → Type 0
HasCounted baton number times seat = IsReadySeat baton number seat × (length (knows seat).own ≡ times)
