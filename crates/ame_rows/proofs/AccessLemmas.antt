-- Reads, writes and allocations: what the calls of a store and of a row make, and that cells and logs stay consistent.
use Rattle.std.proofs.Common.{◌≡◌, ◌≢◌, ◌==◌, ℕ, ◌<◌, ◌≤◌, true, false, cond, List, [], ◌∷◌, ◌++◌, length, Option, Some, None, slice_get, sym, refl, ap}
use Rattle.std.proofs.Common.{subst, ◌∙◌, arith, length-append}
use Rattle.std.specs.Option.{option_map_or}
use Rattle.std.proofs.lemmas.Bool.{eq-eqb, ne_eqb}
use Rattle.std.proofs.lemmas.List.Elements.{All-push}
use Rattle.std.proofs.lemmas.Option.{slice_get_within, slice_get_past}
use Rattle.ame_term.specs.declared.types.Loc.{Loc}
use Rattle.ame_term.specs.declared.types.Sort.{Sort}
use Rattle.ame_term.specs.declared.types.TyNo.{TyNo}
use Rattle.ame_store.specs.declared.cell.Cell.{Cell}
use Rattle.ame_store.specs.Cells.{IsOwnedBy, IsFree}
use Rattle.ame_store.specs.Changes.{made, replaced}
use Rattle.ame_store.specs.Writes.{taken_by}
use Rattle.ame_rows.specs.declared.notes.ReadNote.{ReadNote}
use Rattle.ame_rows.specs.declared.notes.Undo.{Undo}
use Rattle.ame_rows.specs.declared.notes.Undo.TheVariants.{Wrote, Made}
use Rattle.ame_rows.specs.MemoryView.{Log, MemoryView, row_at, by_seat}
use Rattle.ame_rows.specs.Entries.{entry_at, OwnsAsLogged, IsLogOf}
use Rattle.ame_rows.specs.Consistent.{IsConsistent}
use Rattle.ame_rows.specs.Access.{other_owner, IsOpenTo, changed_at, is_owned_by, noted_read, notes_read, overwritten, noted_write, notes_written, written_by}
use Rattle.ame_rows.specs.Access.{next_place, notes_allocated, allocated_by, put_at, born}
use Rattle.ame_rows.proofs.LookupLemmas.{get_push_here, get_push_else, changed_here, changed_else, changed_length}
use Rattle.ame_rows.proofs.LogLemmas.{no_entry, no_cell_no_entry, neither_owned, value_apart, not_of_another, free_not_owned, log_along, log_more}
use Rattle.ame_rows.proofs.KeptLemmas.{AreWithin, within_more, StaysFor, stays_at, stays_push, kept_by_seat, kept_by_none}

module _ {V : Type 0} where
  -- ---- who owns a cell
  pub other_none : (seat : ℕ) (cell : Cell V) → IsFree cell → other_owner seat cell.owner ≡ None
  other_none seat cell free = ap (other_owner seat) free

  pub other_own : (seat : ℕ) (cell : Cell V) → IsOwnedBy seat cell → other_owner seat cell.owner ≡ None
  other_own seat cell its = ap (other_owner seat) its ∙ ap (λ b. cond b None (Some seat)) (eq-eqb seat seat refl)

  pub other_apart : (seat other : ℕ) (cell : Cell V) → IsOwnedBy other cell → other ≢ seat → other_owner seat cell.owner ≡ Some other
  other_apart seat other cell its n = ap (other_owner seat) its ∙ ap (λ b. cond b None (Some other)) (ne_eqb other seat n)

  pub open_not_owned : (seat other : ℕ) (cell : Cell V) → IsOwnedBy other cell → other ≢ seat → IsOpenTo seat cell → ⊥
  open_not_owned seat other cell its n none = let clash : ◌≡◌ {A = Option ℕ} None (Some other) = sym none ∙ other_apart seat other cell its n in cc

  -- ---- what a write makes
  pub notes_at : (seat : ℕ) (l : Loc) (input : V) (cells : List (Cell V)) (notes : Log V) (cell : Cell V) → slice_get cells l.0 ≡ Some cell
      → notes_written seat l input cells notes ≡ noted_write seat l input cell.owner cell notes
  notes_at seat l input cells notes cell at = ap (λ o. option_map_or (λ c. noted_write seat l input c.owner c notes) o notes) at

  pub notes_first : (seat : ℕ) (l : Loc) (input : V) (cells : List (Cell V)) (notes : Log V) (cell : Cell V) → slice_get cells l.0 ≡ Some cell → IsFree cell
      → notes_written seat l input cells notes ≡ record notes {
        inputs = notes.inputs ++ input ∷ [];
        undos = notes.undos ++ Wrote l cell.number cell.value ∷
            [];
      }
  notes_first seat l input cells notes cell at free = notes_at seat l input cells notes cell at ∙ ap (λ o. noted_write seat l input o cell notes) free

  pub notes_again : (seat : ℕ) (l : Loc) (input : V) (cells : List (Cell V)) (notes : Log V) (cell : Cell V) → slice_get cells l.0 ≡ Some cell
      → IsOwnedBy seat cell
      → notes_written seat l input cells notes ≡ record notes { inputs = notes.inputs ++ input ∷ [] }
  notes_again seat l input cells notes cell at its =
      notes_at seat l input cells notes cell at ∙ ap (λ o. noted_write seat l input o cell notes) its
      ∙ ap (λ b. cond b (record notes { inputs = notes.inputs ++ input ∷ [] }) notes) (eq-eqb seat seat refl)

  -- ---- consistent still
  -- after a write
  module _ (c : MemoryView V) (kept : IsConsistent c) (seat : ℕ) (l : Loc) (value input : V) (cell : Cell V) (at : slice_get c.cells l.0 ≡ Some cell) where
    new : List (Cell V)
    new = changed_at l.0 (λ x. overwritten seat value x.owner x) c.cells

    within_cells : l.0 < length c.cells
    within_cells = slice_get_within c.cells l.0 cell at

    here : (o : Option ℕ) → cell.owner ≡ o → slice_get new l.0 ≡ Some (overwritten seat value o cell)
    unfolding new
    here o own = changed_here l.0 (λ x. overwritten seat value x.owner x) c.cells cell within_cells at ∙ ap (λ q. Some (overwritten seat value q cell)) own

    elsewhere : (j : ℕ) → j ≢ l.0 → slice_get new j ≡ slice_get c.cells j
    unfolding new
    elsewhere j n = changed_else l.0 (λ x. overwritten seat value x.owner x) c.cells j n

    owned_still : (k owner : ℕ) (e : Option (Undo V)) → OwnsAsLogged k (Some cell) e → OwnsAsLogged k (Some (overwritten seat value (Some owner) cell)) e
    owned_still k owner e h =
        elim (owner == seat) as (λ b. OwnsAsLogged k (Some (cond b (record cell { value = value }) cell)) e)
        [ true ↦ value_apart k cell value e h | false ↦ h ]

    undos_owned : (owner : ℕ) (notes : Log V) → notes.undos ≡ (noted_write seat l input (Some owner) cell notes).undos
    undos_owned owner notes =
        elim (owner == seat) as (λ b. notes.undos ≡ (cond b (record notes { inputs = notes.inputs ++ input ∷ [] }) notes).undos)
        [ true ↦ refl | false ↦ refl ]

    reads_written : (o : Option ℕ) (notes : Log V) → notes.reads ≡ (noted_write seat l input o cell notes).reads
    reads_written None notes = refl
    reads_written (Some owner) notes =
        elim (owner == seat) as (λ b. notes.reads ≡ (cond b (record notes { inputs = notes.inputs ++ input ∷ [] }) notes).reads)
        [ true ↦ refl | false ↦ refl ]

    log_written : (o : Option ℕ) → cell.owner ≡ o → IsLogOf seat new (noted_write seat l input o cell (row_at c.rows seat)).undos
    log_written None own =
        let says = (kept.logs seat).owned l.0 in
        let none = no_entry seat cell (entry_at (row_at c.rows seat).undos l.0) (free_not_owned seat cell own) (rw at at says) in
        log_more seat c.cells new (row_at c.rows seat).undos (Wrote l cell.number cell.value) (taken_by seat value cell)
        (kept.logs seat) none (here None own) (refl, refl) elsewhere
    log_written (Some owner) own =
        subst (IsLogOf seat new) (undos_owned owner (row_at c.rows seat))
        (log_along seat c.cells new (row_at c.rows seat).undos
        (stays_at seat c.cells new l.0 cell (overwritten seat value (Some owner) cell) at (here (Some owner) own) elsewhere (owned_still seat owner))
        (kept.logs seat))

    others_written : (o : Option ℕ) → cell.owner ≡ o → (other : ℕ) → other ≢ seat → StaysFor other c.cells new
    others_written None own other n =
        stays_at other c.cells new l.0 cell (taken_by seat value cell) at (here None own) elsewhere
        (neither_owned other cell (taken_by seat value cell) (free_not_owned other cell own) (not_of_another seat other (taken_by seat value cell) refl n))
    others_written (Some owner) own other n =
        stays_at other c.cells new l.0 cell (overwritten seat value (Some owner) cell) at (here (Some owner) own) elsewhere (owned_still other owner)

    pub kept_written : seat < length c.rows → IsConsistent (written_by seat l value input c)
    unfolding new
    kept_written within =
        let row = row_at c.rows seat in
        let same : length new ≡ length c.cells = changed_length l.0 (λ x. overwritten seat value x.owner x) c.cells in
        let reads : AreWithin new (noted_write seat l input cell.owner cell row).reads =
        subst (AreWithin new) (reads_written cell.owner row) (within_more c.cells new row.reads (omega (arith, same)) (kept.reads seat)) in
        subst (λ notes. IsConsistent (by_seat seat new notes c)) (sym (notes_at seat l input c.cells row cell at))
        (kept_by_seat c seat new (noted_write seat l input cell.owner cell row) kept within (log_written cell.owner refl) reads
        (others_written cell.owner refl) (omega (arith, same)))

  -- after an allocation
  pub kept_allocated : (c : MemoryView V) (seat : ℕ) (sort : Sort) (ty : TyNo) (value input : V) → IsConsistent c → seat < length c.rows
      → IsConsistent (allocated_by seat sort ty value input c)
  kept_allocated c seat sort ty value input kept within =
      let row = row_at c.rows seat in
      let cell : Cell V = made sort ty value (Some seat) in
      let more : length c.cells ≤ length (c.cells ++ cell ∷ []) = omega (arith, length-append c.cells (cell ∷ [])) in
      let says = (kept.logs seat).owned (length c.cells) in
      let past = slice_get_past c.cells (length c.cells) (omega arith) in
      let none = no_cell_no_entry seat (entry_at row.undos (length c.cells)) (rw past at says) in
      let log = log_more seat c.cells (c.cells ++ cell ∷ []) row.undos (Made (next_place c.cells)) cell (kept.logs seat) none (get_push_here c.cells cell)
      (refl, refl, refl) (get_push_else c.cells cell) in
      kept_by_seat c seat (c.cells ++ cell ∷ []) (notes_allocated (next_place c.cells) input row) kept within log
      (within_more c.cells (c.cells ++ cell ∷ []) row.reads more (kept.reads seat))
      (λ other n. stays_push other c.cells cell (not_of_another seat other cell refl n)) more

  -- after a read
  pub kept_read : (c : MemoryView V) (seat : ℕ) (l : Loc) (input : V) (cell : Cell V) → IsConsistent c → seat < length c.rows
      → slice_get c.cells l.0 ≡ Some cell
      → IsConsistent (by_seat seat c.cells (notes_read seat l input c.cells (row_at c.rows seat)) c)
  kept_read c seat l input cell kept within at =
      let row = row_at c.rows seat in
      let note : ReadNote = record { loc = l; number = cell.number } in
      let below = slice_get_within c.cells l.0 cell at in
      let reads : AreWithin c.cells (noted_read seat l input cell row).reads =
      elim (is_owned_by seat cell) as (λ b. AreWithin c.cells (cond b row.reads (row.reads ++ note ∷ []))) [
        | true ↦ kept.reads seat
        | false ↦ All-push (λ note. note.loc.0 < length c.cells) row.reads note (kept.reads seat) below
      ] in
      subst (λ notes. IsConsistent (by_seat seat c.cells notes c)) (sym (ap (λ o. option_map_or (λ x. noted_read seat l input x row) o row) at))
      (kept_by_seat c seat c.cells (noted_read seat l input cell row) kept within (kept.logs seat) reads (λ other n j e h. h) (omega arith))

  -- after a write of unprotected code
  pub kept_put : (c : MemoryView V) (l : ℕ) (value : V) (cell : Cell V) → IsConsistent c → slice_get c.cells l ≡ Some cell → IsFree cell
      → IsConsistent (put_at l value c)
  kept_put c l value cell kept at free =
      let new = changed_at l (replaced value) c.cells in
      let same = changed_length l (replaced value) c.cells in
      kept_by_none c new kept
      (λ k. stays_at k c.cells new l cell (replaced value cell) at (changed_here l (replaced value) c.cells cell (slice_get_within c.cells l cell at) at)
      (changed_else l (replaced value) c.cells)
      (neither_owned k cell (replaced value cell) (free_not_owned k cell free) (free_not_owned k (replaced value cell) free)))
      (omega (arith, same))

  -- after an allocation of unprotected code
  pub kept_born : (c : MemoryView V) (sort : Sort) (ty : TyNo) (value : V) → IsConsistent c → IsConsistent (born sort ty value c)
  kept_born c sort ty value kept =
      let cell : Cell V = made sort ty value None in
      kept_by_none c (c.cells ++ cell ∷ []) kept (λ k. stays_push k c.cells cell (free_not_owned k cell refl))
      (omega (arith, length-append c.cells (cell ∷ [])))
