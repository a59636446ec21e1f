-- Cells and logs stay consistent.
use Rattle.std.proofs.Common.{◌≡◌, ◌≢◌, ℕ, zero, suc, ◌<◌, ◌≤◌, List, [], ◌∷◌, ◌++◌, length, map, set, replicate, get_or, All, Option, Some, None, slice_get}
use Rattle.std.proofs.Common.{sym, refl, ap, ◌∙◌, arith, ⊎_elim}
use Rattle.std.proofs.lemmas.List.{length-map}
use Rattle.std.proofs.lemmas.Bool.{cases_eq, cases_lt}
use Rattle.std.proofs.lemmas.List.{map-set, get_or-map}
use Rattle.std.proofs.lemmas.List.Elements.{All-weaker, All-nil}
use Rattle.std.proofs.lemmas.Option.{unwrap_or-slice_get, slice_get_within, slice_get_past}
use Rattle.ame_store.specs.declared.cell.Cell.{Cell}
use Rattle.ame_store.specs.Cells.{IsOwnedBy, IsFree}
use Rattle.ame_rows.specs.Log.{RoomyLog}
use Rattle.ame_rows.specs.declared.notes.ReadNote.{ReadNote}
use Rattle.ame_rows.specs.declared.notes.Undo.{Undo}
use Rattle.ame_rows.specs.MemoryView.{Log, MemoryView, no_log, without_room, memory_of, row_at, by_seat}
use Rattle.ame_rows.specs.Entries.{OwnsAsLogged, IsLogOf}
use Rattle.ame_rows.specs.Consistent.{IsConsistent}
use Rattle.ame_rows.proofs.LookupLemmas.{row_set_here, row_set_else, row_beyond, row_set_again, all_at, get_push_here, get_push_else}
use Rattle.ame_rows.proofs.LogLemmas.{log_along, new_not_owned, free_not_owned, nothing_logged, nothing_owned}

module _ {V : Type 0} where
  -- each logged read is of one of the cells
  abbrev pub AreWithin : List (Cell V) → List ReadNote → Type 0
  AreWithin cells reads = All (λ note. note.loc.0 < length cells) reads

  pub within_more : (cells new : List (Cell V)) (reads : List ReadNote) → length cells ≤ length new → AreWithin cells reads → AreWithin new reads
  within_more cells new reads le all = All-weaker (λ note. note.loc.0 < length cells) (λ note. note.loc.0 < length new) (λ note h. omega arith) reads all

  -- what a seat's log says stays so of the cells that others change
  abbrev pub StaysFor : ℕ → List (Cell V) → List (Cell V) → Type 0
  StaysFor seat cells new = (l : ℕ) (e : Option (Undo V)) → OwnsAsLogged seat (slice_get cells l) e → OwnsAsLogged seat (slice_get new l) e

  -- one cell became another one
  pub stays_at : (seat : ℕ) (cells new : List (Cell V)) (l : ℕ) (cell later : Cell V) → slice_get cells l ≡ Some cell → slice_get new l ≡ Some later
      → ((j : ℕ) → j ≢ l → slice_get new j ≡ slice_get cells j) → ((e : Option (Undo V)) → OwnsAsLogged seat (Some cell) e → OwnsAsLogged seat (Some later) e)
      → StaysFor seat cells new
  stays_at seat cells new l cell later was is others each j e h =
      ⊎_elim
      (λ (same : j ≡ l). let at = ap (slice_get cells) same ∙ was in let now = ap (slice_get new) same ∙ is in let had = rw at at h in rw now (each e had))
      (λ (n : j ≢ l). rw (others j n) h)
      (cases_eq j l)

  -- one cell more
  pub stays_push : (seat : ℕ) (cells : List (Cell V)) (cell : Cell V) → (IsOwnedBy seat cell → ⊥) → StaysFor seat cells (cells ++ cell ∷ [])
  stays_push seat cells cell not_its j e h =
      ⊎_elim
      (λ (same : j ≡ length cells).
      let past : slice_get cells j ≡ None = slice_get_past cells j (omega (arith, same)) in
      let now : slice_get (cells ++ cell ∷ []) j ≡ Some cell = ap (slice_get (cells ++ cell ∷ [])) same ∙ get_push_here cells cell in
      let had = rw past at h in rw now (new_not_owned seat cell not_its e had))
      (λ (n : j ≢ length cells). rw (get_push_else cells cell j n) h)
      (cases_eq j (length cells))

  -- one seat's call
  pub kept_by_seat : (c : MemoryView V) (seat : ℕ) (cells : List (Cell V)) (notes : Log V) → IsConsistent c → seat < length c.rows
      → IsLogOf seat cells notes.undos → AreWithin cells notes.reads → ((other : ℕ) → other ≢ seat → StaysFor other c.cells cells)
      → length c.cells ≤ length cells
      → IsConsistent (by_seat seat cells notes c)
  kept_by_seat c seat cells notes kept within log reads others le = record {
    logs = λ k. ⊎_elim
        (λ (e : k ≡ seat). let row = ap (row_at (set c.rows seat notes)) e ∙ row_set_here c.rows seat notes within in rw (row, e) log)
        (λ (n : k ≢ seat). rw (row_set_else c.rows seat k notes n) (log_along k c.cells cells (row_at c.rows k).undos (others k n) (kept.logs k)))
        (cases_eq k seat);
    reads = λ k. ⊎_elim
        (λ (e : k ≡ seat). let row = ap (row_at (set c.rows seat notes)) e ∙ row_set_here c.rows seat notes within in rw row reads)
        (λ (n : k ≢ seat). rw (row_set_else c.rows seat k notes n) (within_more c.cells cells (row_at c.rows k).reads le (kept.reads k)))
        (cases_eq k seat);
  }

  -- a call of no seat
  pub kept_by_none : (c : MemoryView V) (cells : List (Cell V)) → IsConsistent c → ((seat : ℕ) → StaysFor seat c.cells cells) → length c.cells ≤ length cells
      → IsConsistent (record c { cells = cells })
  kept_by_none c cells kept each le = record {
    logs = λ k. log_along k c.cells cells (row_at c.rows k).undos (each k) (kept.logs k);
    reads = λ k. within_more c.cells cells (row_at c.rows k).reads le (kept.reads k);
  }

  -- a new memory
  new_row : (seats k : ℕ) → ◌≡◌ {A = Log V} (row_at (replicate seats no_log) k) no_log
  new_row zero k = refl
  new_row (suc seats) zero = refl
  new_row (suc seats) (suc k) = new_row seats k

  pub kept_new : (cells : List (Cell V)) (seats : ℕ) → All IsFree cells → IsConsistent (record { cells = cells; rows = replicate seats no_log })
  kept_new cells seats free = record {
    logs = λ k. rw (new_row seats k) (nothing_logged k cells
        (λ l cell at. free_not_owned k cell (all_at IsFree cells l cell (slice_get_within cells l cell at) at free)));
    reads = λ k. rw (new_row seats k) (All-nil (λ note. note.loc.0 < length cells));
  }

  -- an owner is a seat of the memory
  pub owner_within : (c : MemoryView V) (l owner : ℕ) (cell : Cell V) → IsConsistent c → slice_get c.cells l ≡ Some cell → IsOwnedBy owner cell
      → owner < length c.rows
  owner_within c l owner cell kept at its =
      ⊎_elim (λ (h : owner < length c.rows). h)
      (λ (le : length c.rows ≤ owner).
      let log = kept.logs owner in
      let none : IsLogOf owner c.cells [] = rw (row_beyond c.rows owner le) at log in
      absurd (nothing_owned owner c.cells l cell none at its))
      (cases_lt owner (length c.rows))

  -- ---- what contracts see of the fields
  -- the row at a place of the vector
  pub row_read : (rows : List (RoomyLog V)) (seat : ℕ) (d : RoomyLog V) → seat < length rows → row_at (map without_room rows) seat ≡ without_room (get_or rows seat d)
  row_read rows seat d h =
      unwrap_or-slice_get (map without_room rows) seat no_log ∙ get_or-map without_room rows seat d no_log h

  -- cells and one row became others
  pub seen_by_seat : (cells was : List (Cell V)) (rows : List (RoomyLog V)) (seat : ℕ) (row : RoomyLog V) (notes : Log V) → without_room row ≡ notes
      → memory_of cells (set rows seat row) ≡ by_seat seat cells notes (memory_of was rows)
  seen_by_seat cells was rows seat row notes e =
      ap (λ rs. let r : MemoryView V = record { cells = cells; rows = rs } in r) (map-set without_room rows seat row ∙ ap (set (map without_room rows) seat) e)

  -- nothing but room became another
  pub seen_same : (cells : List (Cell V)) (rows : List (RoomyLog V)) (seat : ℕ) (row d : RoomyLog V) → seat < length rows
      → without_room row ≡ without_room (get_or rows seat d)
      → memory_of cells (set rows seat row) ≡ memory_of cells rows
  seen_same cells rows seat row d h e =
      ap (λ rs. let r : MemoryView V = record { cells = cells; rows = rs } in r)
      (map-set without_room rows seat row ∙ ap (set (map without_room rows) seat) (e ∙ sym (row_read rows seat d h))
      ∙ row_set_again (map without_room rows) seat (rw (length-map rows without_room) h))
