-- Each read of a seat is valid, or a first one isn't.
use Rattle.std.proofs.Common.{◌≡◌, ℕ, ◌+◌, ◌%◌, ◌⊎◌, inl, inr, Bool, true, false, List, [], ◌∷◌, ◌++◌, Option, Some, None, refl}
use Rattle.std.specs.Prelude.{MatchOption, IsSomeAnd, slice_get}
use Rattle.std.proofs.lemmas.List.Elements.{All-nil, All-cons, All-head, All-tail}
use Rattle.ame_store.specs.declared.cell.Cell.{Cell}
use Rattle.ame_rows.specs.declared.notes.ReadNote.{ReadNote}
use Rattle.ame_rows.specs.declared.notes.Bad.{Bad}
use Rattle.ame_rows.specs.Valid.{IsValidAt, IsValidRead, IsValid, IsFirstBad, note_of}
use Rattle.ame_protocol.proofs.Row.CellLemmas.{which}

module _ {V : Type 0} (seat : ℕ) where
  module _ (number : ℕ) (cell : Cell V) where
    abbrev IsSame : Option ℕ → Type 0
    IsSame o = MatchOption o (cell.number ≡ number) (λ owner. (owner ≡ seat) × (cell.number ≡ number + 1))

    same-or-not : (o : Option ℕ) → IsSame o ⊎ (IsSame o → ⊥)
    same-or-not None = which cell.number number
    same-or-not (Some owner) = by (which owner seat) (which cell.number (number + 1))
      where
        by : (owner ≡ seat) ⊎ ((owner ≡ seat) → ⊥) → (cell.number ≡ number + 1) ⊎ ((cell.number ≡ number + 1) → ⊥)
            → IsSame (Some owner) ⊎ (IsSame (Some owner) → ⊥)
        by (inl own) (inl next) = inl (own, next)
        by (inl own) (inr apart) = inr (λ is. apart is.1)
        by (inr apart) next = inr (λ is. apart is.0)

    valid-at : IsValidAt seat number cell ⊎ (IsValidAt seat number cell → ⊥)
    valid-at = by (which (number % 2) 0) cell.live refl (same-or-not cell.owner)
      where
        by : (number % 2 ≡ 0) ⊎ ((number % 2 ≡ 0) → ⊥) → (live : Bool) → cell.live ≡ live → IsSame cell.owner ⊎ (IsSame cell.owner → ⊥)
            → IsValidAt seat number cell ⊎ (IsValidAt seat number cell → ⊥)
        by (inl even) true live (inl same) = inl (record { unowned = even; live = live; same = same })
        by (inl even) true live (inr apart) = inr (λ is. apart is.same)
        by (inl even) false dead same = inr (λ is. absurd (let live = is.live in cc))
        by (inr odd) live is same = inr (λ is. odd is.unowned)

  some-valid : (number : ℕ) (o : Option (Cell V)) → IsSomeAnd o (IsValidAt seat number) ⊎ (IsSomeAnd o (IsValidAt seat number) → ⊥)
  some-valid number None = inr (λ none. absurd none)
  some-valid number (Some cell) = valid-at number cell

  pub valid-or-not : (cells : List (Cell V)) (reads : List ReadNote) → IsValid cells seat reads ⊎ (IsValid cells seat reads → ⊥)
  valid-or-not cells [] = inl (All-nil (IsValidRead cells seat))
  valid-or-not cells (note ∷ notes) = by (some-valid note.number (slice_get cells note.loc.0)) (valid-or-not cells notes)
    where
      by : IsValidRead cells seat note ⊎ (IsValidRead cells seat note → ⊥) → IsValid cells seat notes ⊎ (IsValid cells seat notes → ⊥)
          → IsValid cells seat (note ∷ notes) ⊎ (IsValid cells seat (note ∷ notes) → ⊥)
      by (inl first) (inl rest) = inl (All-cons (IsValidRead cells seat) note notes first rest)
      by (inl first) (inr bad) = inr (λ all. bad (All-tail (IsValidRead cells seat) note notes all))
      by (inr bad) rest = inr (λ all. bad (All-head (IsValidRead cells seat) note notes all))

  -- if nothing was read, no read is invalid
  pub none-invalid : (cells : List (Cell V)) (bad : Bad) → IsFirstBad cells seat [] bad → ⊥
  none-invalid cells bad first = by first.before first.log
    where
      by : (before : List ReadNote) → [] ≡ before ++ note_of bad ∷ first.after → ⊥
      by [] e = cc
      by (note ∷ notes) e = cc
