-- Valid reads, read by read.
use Rattle.std.proofs.Common.{◌≡◌, ℕ, ◌<◌, List, ◌∷◌, ◌++◌, length, take, drop, get_or, suc, Some, slice_get, sym, ap, ◌∙◌}
use Rattle.std.proofs.lemmas.List.{take-append-drop}
use Rattle.std.proofs.Math.Seq.{drop-cons}
use Rattle.ame_store.specs.declared.cell.Cell.{Cell}
use Rattle.ame_rows.specs.declared.notes.ReadNote.{ReadNote}
use Rattle.ame_rows.specs.declared.notes.Bad.{Bad}
use Rattle.ame_rows.specs.Valid.{IsValidAt, IsValidRead, IsValid, note_of, IsFirstBad}

module _ {V : Type 0} where
  -- a logged read is valid if its cell says so
  pub IsValidRead-at : (cells : List (Cell V)) (seat : ℕ) (note : ReadNote) (cell : Cell V) → slice_get cells note.loc.0 ≡ Some cell
      → IsValidAt seat note.number cell → IsValidRead cells seat note
  IsValidRead-at cells seat note cell at valid = rw at valid

  -- and its cell says so if it is valid
  pub IsValidRead-cell : (cells : List (Cell V)) (seat : ℕ) (note : ReadNote) (cell : Cell V) → slice_get cells note.loc.0 ≡ Some cell
      → IsValidRead cells seat note → IsValidAt seat note.number cell
  IsValidRead-cell cells seat note cell at valid = rw at at valid

  -- the first read of a log that isn't valid is found if the reads before it are valid
  pub IsFirstBad-found : (cells : List (Cell V)) (seat : ℕ) (reads : List ReadNote) (i : ℕ) (d : ReadNote) (bad : Bad) (cell : Cell V)
      → i < length reads → IsValid cells seat (take i reads) → note_of bad ≡ get_or reads i d → slice_get cells bad.loc.0 ≡ Some cell
      → bad.now ≡ cell.number → (IsValidAt seat bad.read cell → ⊥) → IsFirstBad cells seat reads bad
  IsFirstBad-found cells seat reads i d bad cell within valid is at now invalid = record {
    before = take i reads;
    after = drop (suc i) reads;
    log = sym (take-append-drop i reads) ∙ ap (λ l. take i reads ++ l) (drop-cons reads i d within ∙ ap (λ n. n ∷ drop (suc i) reads) (sym is));
    valid_before = valid;
    invalid = λ h. invalid (IsValidRead-cell cells seat (note_of bad) cell at h);
    now = rw at now;
  }
