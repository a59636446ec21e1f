-- The calls of a shared memory are events of what a row owes.
use Rattle.std.proofs.Common.{◌≡◌, ℕ, zero, suc, ◌+◌, ◌<◌, ◌≤◌, true, false, cond, List, [], ◌∷◌, ◌++◌, length, map, get_or, Option, Some, IsSomeAnd, slice_get, length-append, refl, sym, ap, ◌∙◌, subst, arith}
use Rattle.std.specs.Prelude.{Bool, unwrap_or}
use Rattle.std.specs.Option.{option_map_or}
use Rattle.std.proofs.lemmas.Bool.{eq-eqb, lt-ltb, le-ltb}
use Rattle.std.proofs.lemmas.List.{length-map}
use Rattle.std.proofs.lemmas.Option.{unwrap_or-slice_get, slice_get_within}
use Rattle.std.proofs.lemmas.List.Elements.{All-weaker}
use Rattle.ame_term.specs.Tree.{Val, Tree}
use Rattle.ame_term.specs.declared.types.Loc.{Loc}
use Rattle.ame_term.specs.declared.types.Sort.{Sort}
use Rattle.ame_term.specs.declared.types.TyNo.{TyNo}
use Rattle.ame_store.specs.declared.cell.Cell.{Cell}
use Rattle.ame_store.specs.Cells.{IsOwnedBy, IsFree}
use Rattle.ame_store.specs.Changes.{made, released}
use Rattle.ame_store.specs.Writes.{taken_by}
use Rattle.ame_rows.specs.declared.notes.ReadNote.{ReadNote}
use Rattle.ame_rows.specs.declared.notes.Undo.{Undo}
use Rattle.ame_rows.specs.declared.notes.Undo.TheVariants.{Wrote, Made}
use Rattle.ame_rows.specs.Valid.{IsValidAt, IsValidRead, IsValid}
use Rattle.ame_rows.specs.MemoryView.{Log, MemoryView, no_log, row_at}
use Rattle.ame_rows.specs.Entries.{named_by, IsLogOf}
use Rattle.ame_rows.specs.Consistent.{IsConsistent}
use Rattle.ame_rows.specs.Access.{changed_at, is_owned_by, noted_read, notes_read, overwritten, notes_written, written_by, next_place, notes_allocated, allocated_by}
use Rattle.ame_rows.specs.LettingGo.{released_by, released_all, undone_by, but_last, cells_undone, notes_undone, undone_last}
use Rattle.ame_rows.proofs.LookupLemmas.{row_set_here, get_push_here, get_push_else, changed_here, changed_else, changed_length}
use Rattle.ame_rows.proofs.LogLemmas.{last_cell}
use Rattle.ame_rows.proofs.AccessLemmas.{notes_first, notes_again, kept_written, kept_allocated, kept_read}
use Rattle.ame_rows.proofs.LettingGoLemmas.{owned_is, is_owned, cells_undone_is, cells_undone_none, kept_undone}
use Rattle.ame_rows.proofs.CommittedLemmas.{read_unseen, write_unseen, allocation_unseen, rollback_unseen, commit_others, commit_owned}
use Rattle.ame_protocol.specs.Row.Heap.{no_cell, cell_at, IsCell}
use Rattle.ame_protocol.specs.Row.SeatRun.{IsValidNote, AreValid}
use Rattle.ame_protocol.specs.Row.Changed.{BecomesAt, KeepsCommitted, ReleasesAll}
use Rattle.ame_protocol.specs.Row.Own.{given_one, given_outside, given_undo}
use Rattle.ame_protocol.specs.Row.UndoLog.{undo_place}
use Rattle.ame_protocol.proofs.Row.CellLemmas.{owned_cell}
use Rattle.ame_protocol.specs.Engine.Logged.{heap_of, logged_run, read_by}
use Rattle.ame_protocol.proofs.Engine.MemoryLemmas.{found, there, same_place}

same-get : (xs ys : List (Cell Val)) (m : ℕ) → slice_get ys m ≡ slice_get xs m → get_or ys m no_cell ≡ get_or xs m no_cell
same-get xs ys m e = sym (unwrap_or-slice_get ys m no_cell) ∙ ap (λ (o : Option (Cell Val)). unwrap_or o no_cell) e ∙ unwrap_or-slice_get xs m no_cell

pub not-owned : (seat : ℕ) (cell : Cell Val) → (IsOwnedBy seat cell → ⊥) → is_owned_by seat cell ≡ false
not-owned seat cell apart = by (is_owned_by seat cell) refl
  where
    by : (b : Bool) → is_owned_by seat cell ≡ b → is_owned_by seat cell ≡ false
    by true e = absurd (apart (is_owned seat cell e))
    by false e = e

module _ (c : MemoryView Val) (seat : ℕ) where
  abbrev row : Log Val
  row = row_at c.rows seat

  -- Reads

  module _ (within : seat < length c.rows) (l : Loc) where
    abbrev in_place : Cell Val
    in_place = cell_at (heap_of c) l.0

    pub read-heap : heap_of (read_by seat l c) ≡ heap_of c
    read-heap = λ i. record { cells = c.cells; committed = λ j. (read_unseen seat l in_place.value j c within) i }

    noted : (o : Option (Cell Val)) → Log Val
    noted o = option_map_or (λ cell. noted_read seat l in_place.value cell row) o row

    read-row : IsCell (heap_of c) l.0 → row_at (read_by seat l c).rows seat ≡ noted_read seat l in_place.value in_place row
    unfolding noted
    read-row is =
        row_set_here c.rows seat (notes_read seat l in_place.value c.cells row) within
        ∙ ap (λ (o : Option (Cell Val)). noted o) (there c l.0 is)

    by_owner : Bool → Log Val
    by_owner b =
        record row {
          reads = cond b row.reads (row.reads ++ record { loc = l; number = in_place.number } ∷ []);
          inputs = row.inputs ++ in_place.value ∷ [];
        }

    pub read-outside : IsCell (heap_of c) l.0 → (IsOwnedBy seat in_place → ⊥) → (start : Tree)
        → logged_run start (row_at (read_by seat l c).rows seat) ≡ given_outside l in_place (logged_run start row)
    unfolding by_owner
    read-outside is apart start = ap (logged_run start) (read-row is ∙ ap by_owner (not-owned seat in_place apart))

    pub read-own : IsCell (heap_of c) l.0 → IsOwnedBy seat in_place → (start : Tree)
        → logged_run start (row_at (read_by seat l c).rows seat) ≡ given_one in_place.value (logged_run start row)
    unfolding by_owner
    read-own is own start = ap (logged_run start) (read-row is ∙ ap by_owner (owned_is seat in_place own))

    pub read-kept : IsConsistent c → IsCell (heap_of c) l.0 → IsConsistent (read_by seat l c)
    read-kept kept is = kept_read c seat l in_place.value in_place kept within (there c l.0 is)

  -- Writes

  module _ (l : Loc) (v : Val) where
    abbrev wrote : MemoryView Val
    wrote = written_by seat l v Val.Unit c

    abbrev was : Cell Val
    was = cell_at (heap_of c) l.0

    write-becomes : IsCell (heap_of c) l.0 → BecomesAt (heap_of c) (heap_of wrote) l.0 (overwritten seat v was.owner was)
    write-becomes is =
        let f : Cell Val → Cell Val = λ cell. overwritten seat v cell.owner cell in
        record {
          there = found wrote l.0 (overwritten seat v was.owner was) (changed_here l.0 f c.cells was is (there c l.0 is));
          others = λ m apart. same-get c.cells (changed_at l.0 f c.cells) m (changed_else l.0 f c.cells m apart);
          longer = let e = changed_length l.0 f c.cells in omega arith;
        }

    pub write-count : length wrote.cells ≡ length c.cells
    write-count = changed_length l.0 (λ cell. overwritten seat v cell.owner cell) c.cells

    pub write-first : IsCell (heap_of c) l.0 → IsFree was → BecomesAt (heap_of c) (heap_of wrote) l.0 (taken_by seat v was)
    write-first is free = subst (λ (o : Option ℕ). BecomesAt (heap_of c) (heap_of wrote) l.0 (overwritten seat v o was)) free (write-becomes is)

    pub write-later : IsCell (heap_of c) l.0 → IsOwnedBy seat was → BecomesAt (heap_of c) (heap_of wrote) l.0 (record was { value = v })
    write-later is own =
        subst (λ (b : Bool). BecomesAt (heap_of c) (heap_of wrote) l.0 (cond b (record was { value = v }) was)) (eq-eqb seat seat refl)
        (subst (λ (o : Option ℕ). BecomesAt (heap_of c) (heap_of wrote) l.0 (overwritten seat v o was)) own (write-becomes is))

    module _ (within : seat < length c.rows) (is : IsCell (heap_of c) l.0) where
      pub write-committed : IsConsistent c → KeepsCommitted (heap_of c) (heap_of wrote)
      write-committed kept = λ j. write_unseen seat l v Val.Unit j c kept within is

      pub write-kept : IsConsistent c → IsConsistent wrote
      write-kept kept = kept_written c kept seat l v Val.Unit was (there c l.0 is) within

      pub first-run : IsFree was → (start : Tree)
          → logged_run start (row_at wrote.rows seat) ≡ given_undo Val.Unit (Wrote l was.number was.value) (logged_run start row)
      first-run free start =
          ap (logged_run start)
          (row_set_here c.rows seat (notes_written seat l Val.Unit c.cells row) within ∙ notes_first seat l Val.Unit c.cells row was (there c l.0 is) free)

      pub later-run : IsOwnedBy seat was → (start : Tree) → logged_run start (row_at wrote.rows seat) ≡ given_one Val.Unit (logged_run start row)
      later-run own start =
          ap (logged_run start)
          (row_set_here c.rows seat (notes_written seat l Val.Unit c.cells row) within ∙ notes_again seat l Val.Unit c.cells row was (there c l.0 is) own)

  -- Allocations

  module _ (sort : Sort) (ty : TyNo) (v : Val) where
    abbrev larger : MemoryView Val
    larger = allocated_by seat sort ty v (Val.Loc (length c.cells)) c

    pub allocation-becomes : BecomesAt (heap_of c) (heap_of larger) (length c.cells) (made sort ty v (Some seat))
    allocation-becomes =
        let cell = made sort ty v (Some seat) in
        record {
          there = found larger (length c.cells) cell (get_push_here c.cells cell);
          others = λ m apart. same-get c.cells (c.cells ++ cell ∷ []) m (get_push_else c.cells cell m apart);
          longer = let e = length-append c.cells (cell ∷ []) in omega arith;
        }

    pub allocation-count : length larger.cells ≡ length c.cells + 1
    allocation-count = let e = length-append c.cells (made sort ty v (Some seat) ∷ []) in omega arith

    module _ (within : seat < length c.rows) where
      pub allocation-committed : KeepsCommitted (heap_of c) (heap_of larger)
      allocation-committed = λ j. allocation_unseen seat sort ty v (Val.Loc (length c.cells)) j c within

      pub allocation-kept : IsConsistent c → IsConsistent larger
      allocation-kept kept = kept_allocated c seat sort ty v (Val.Loc (length c.cells)) kept within

      pub allocation-run : (start : Tree)
          → logged_run start (row_at larger.rows seat) ≡ given_undo (Val.Loc (length c.cells)) (Made (next_place c.cells)) (logged_run start row)
      allocation-run start = ap (logged_run start) (row_set_here c.rows seat (notes_allocated (next_place c.cells) (Val.Loc (length c.cells)) row) within)

  -- Undos

  module _ (kept : IsConsistent c) (within : seat < length c.rows) where
    abbrev undone : MemoryView Val
    undone = undone_last seat c

    pub undo-committed : KeepsCommitted (heap_of c) (heap_of undone)
    undo-committed = λ j. rollback_unseen seat j c kept within

    pub undo-kept : IsConsistent undone
    undo-kept = kept_undone c seat kept within

    module _ (front : List (Undo Val)) (u : Undo Val) (log : row.undos ≡ front ++ u ∷ []) where
      last : Cell Val
      last = (last_cell seat c.cells front u (subst (IsLogOf seat c.cells) log (kept.logs seat))).0

      pub undo-becomes : BecomesAt (heap_of c) (heap_of undone) (undo_place u) (undone_by u (cell_at (heap_of c) (undo_place u)))
      undo-becomes =
          let its = last_cell seat c.cells front u (subst (IsLogOf seat c.cells) log (kept.logs seat)) in
          let l = named_by u in
          let cells : cells_undone row.undos c.cells ≡ changed_at l (undone_by u) c.cells = cells_undone_is row.undos front u c.cells log in
          let here : slice_get (cells_undone row.undos c.cells) l ≡ Some (undone_by u its.0) =
          ap (λ (xs : List (Cell Val)). slice_get xs l) cells ∙ changed_here l (undone_by u) c.cells its.0 (slice_get_within c.cells l its.0 its.1) its.1 in
          subst (λ (m : ℕ). BecomesAt (heap_of c) (heap_of undone) m (undone_by u (cell_at (heap_of c) m))) (sym (same_place u)) (record {
            there = found undone l (undone_by u its.0) here ∙ ap (undone_by u) (sym (found c l its.0 its.1));
            others =
                λ m apart. same-get c.cells (cells_undone row.undos c.cells) m
                (ap (λ (xs : List (Cell Val)). slice_get xs m) cells ∙ changed_else l (undone_by u) c.cells m apart);
            longer =
                let e = changed_length l (undone_by u) c.cells in let f = ap (λ (xs : List (Cell Val)). length xs) cells in omega arith;
          })

      pub undo-count : length undone.cells ≡ length c.cells
      undo-count =
          ap (λ (xs : List (Cell Val)). length xs) (cells_undone_is row.undos front u c.cells log) ∙ changed_length (named_by u) (undone_by u) c.cells

    -- where nothing is left to undo, the cells stay
    pub undo-none : row.undos ≡ [] → heap_of undone ≡ heap_of c
    undo-none none = λ i. record { cells = (cells_undone_none row.undos c.cells none) i; committed = λ j. (undo-committed j) i }

    undone_notes : Bool → Log Val
    undone_notes b = cond b (record row { undos = but_last row.undos }) no_log

    pub more-row : 1 < length row.undos → row_at undone.rows seat ≡ record row { undos = but_last row.undos }
    unfolding undone_notes
    more-row more = row_set_here c.rows seat (notes_undone row) within ∙ ap undone_notes (lt-ltb 1 (length row.undos) more)

    pub last-row : length row.undos ≤ 1 → row_at undone.rows seat ≡ no_log
    unfolding undone_notes
    last-row few = row_set_here c.rows seat (notes_undone row) within ∙ ap undone_notes (le-ltb 1 (length row.undos) few)

  -- Releases

  released-at : (cells : List (Cell Val)) (l : ℕ) → get_or (map (released_by seat) cells) l no_cell ≡ released_by seat (get_or cells l no_cell)
  released-at [] l = refl
  released-at (x ∷ cells) zero = refl
  released-at (x ∷ cells) (suc l) = released-at cells l

  released_where : Cell Val → Bool → Cell Val
  released_where cell b = cond b (released cell) cell

  pub release-cells : ReleasesAll seat (heap_of c) (heap_of (released_all seat c))
  unfolding released_where
  release-cells = record {
    own = λ l own. released-at c.cells l ∙ ap (released_where (cell_at (heap_of c) l)) (owned_is seat (cell_at (heap_of c) l) own);
    others = λ l apart. released-at c.cells l ∙ ap (released_where (cell_at (heap_of c) l)) (not-owned seat (cell_at (heap_of c) l) apart);
    longer = let e = length-map c.cells (released_by seat) in omega arith;
  }

  pub release-count : length (released_all seat c).cells ≡ length c.cells
  release-count = length-map c.cells (released_by seat)

  pub release-row : seat < length c.rows → row_at (released_all seat c).rows seat ≡ no_log
  release-row within = row_set_here c.rows seat no_log within

  -- Valid reads

  valid-there : (n : ℕ) (cells : List (Cell Val)) (l : ℕ) → IsSomeAnd (slice_get cells l) (IsValidAt seat n) → IsValidAt seat n (get_or cells l no_cell)
  valid-there n [] l v = absurd v
  valid-there n (x ∷ cells) zero v = v
  valid-there n (x ∷ cells) (suc l) v = valid-there n cells l v

  there-valid : (n : ℕ) (cells : List (Cell Val)) (l : ℕ) → IsValidAt seat n (get_or cells l no_cell) → IsSomeAnd (slice_get cells l) (IsValidAt seat n)
  there-valid n [] l v = let clash = v.live in absurd (cc)
  there-valid n (x ∷ cells) zero v = v
  there-valid n (x ∷ cells) (suc l) v = there-valid n cells l v

  pub memory-valid : (reads : List ReadNote) → IsValid c.cells seat reads → AreValid (heap_of c) seat reads
  memory-valid reads h = All-weaker (IsValidRead c.cells seat) (IsValidNote (heap_of c) seat) (λ note v. valid-there note.number c.cells note.loc.0 v) reads h

  pub valid-memory : (reads : List ReadNote) → AreValid (heap_of c) seat reads → IsValid c.cells seat reads
  valid-memory reads h = All-weaker (IsValidNote (heap_of c) seat) (IsValidRead c.cells seat) (λ note v. there-valid note.number c.cells note.loc.0 v) reads h

  pub release-own : (l : ℕ) → IsOwnedBy seat (cell_at (heap_of c) l) → (heap_of (released_all seat c)).committed l ≡ Some (cell_at (heap_of c) l).value
  release-own l own = commit_owned seat l c (cell_at (heap_of c) l) (there c l (owned_cell (heap_of c) seat l own)) own

  pub release-others : (l : ℕ) → IsConsistent c → seat < length c.rows → (IsOwnedBy seat (cell_at (heap_of c) l) → ⊥)
      → (heap_of (released_all seat c)).committed l ≡ (heap_of c).committed l
  release-others l kept within apart = commit_others seat l c kept within (λ cell at own. apart (subst (IsOwnedBy seat) (sym (found c l cell at)) own))
