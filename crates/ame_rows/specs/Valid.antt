-- Which logged reads are valid.
use Rattle.std.specs.Prelude.{◌≡◌, ℕ, ◌+◌, ◌%◌, List, ◌∷◌, ◌++◌, All, MatchOption, IsSomeAnd, slice_get, true}
use Rattle.ame_store.specs.declared.cell.Cell.{Cell}
use Rattle.ame_rows.specs.declared.notes.ReadNote.{ReadNote}
use Rattle.ame_rows.specs.declared.notes.Bad.{Bad}

module _ {V : Type 0} where
  -- A seat's read of this cell at this number is valid: a value was read that no seat owned, the cell is live, and it
  -- has that number still, or the seat itself took it at that number.
  pub record IsValidAt (seat number : ℕ) (cell : Cell V) : Type 0 where
    pub unowned : number % 2 ≡ 0
    pub live : cell.live ≡ true
    pub same : MatchOption cell.owner (cell.number ≡ number) (λ owner. (owner ≡ seat) × (cell.number ≡ number + 1))

  -- a logged read is valid
  abbrev pub IsValidRead : List (Cell V) → ℕ → ReadNote → Type 0
  IsValidRead cells seat note = IsSomeAnd (slice_get cells note.loc.0) (IsValidAt seat note.number)

  -- each logged read is valid
  abbrev pub IsValid : List (Cell V) → ℕ → List ReadNote → Type 0
  IsValid cells seat reads = All (IsValidRead cells seat) reads

-- the read that is returned
abbrev pub note_of : Bad → ReadNote
note_of bad = record { loc = bad.loc; number = bad.read }

-- this is the first logged read that isn't valid, with the number of its cell now
pub record IsFirstBad {V : Type 0} (cells : List (Cell V)) (seat : ℕ) (reads : List ReadNote) (bad : Bad) : Type 0 where
  pub before : List ReadNote
  pub after : List ReadNote
  pub log : reads ≡ before ++ note_of bad ∷ after
  pub valid_before : IsValid cells seat before
  pub invalid : IsValidRead cells seat (note_of bad) → ⊥
  pub now : IsSomeAnd (slice_get cells bad.loc.0) (λ cell. bad.now ≡ cell.number)
