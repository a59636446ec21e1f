-- A tally, as clauses speak of it.
use Rattle.std.specs.Prelude.{◌≡◌, ℕ, ◌==◌, List, ◌∷◌, [], ◌++◌, length, filter, slice_set}
use Rattle.ame_baton.specs.declared.view.Knows.{Knows}
use Rattle.ame_baton.specs.declared.tally.Tally.{Tally}

-- the tally is for this number of seats; the rows say when each seat counted last, and the entries are who counted
abbrev pub TallyStandsFor : Tally → ℕ → List ℕ → List ℕ → Type 0
TallyStandsFor t seats rows entries = (length t.last.items ≡ seats) × (rows ≡ t.last.items) × (entries ≡ t.log.items)

-- the seat counted once more
pub record CountsSeat (seat : ℕ) (old new : Tally) : Type 0 where
  pub log : new.log.items ≡ old.log.items ++ seat ∷ []
  pub last : new.last.items ≡ slice_set old.last.items seat (length new.log.items)

-- nothing was counted
pub record IsAsBefore (old new : Tally) : Type 0 where
  pub log : new.log.items ≡ old.log.items
  pub last : new.last.items ≡ old.last.items

-- how often the seat counted, by the log
abbrev pub times_of : ℕ → Tally → ℕ
times_of seat t = length (filter (λ s. s == seat) t.log.items)

-- the seat has the number that it had, and has made as many seats of as many
pub record IsSameSeat {F R E : Type 0} (old new : Knows F R E) : Type 0 where
  pub number : new.number ≡ old.number
  pub made : new.made ≡ old.made
  pub seats : new.seats ≡ old.seats
