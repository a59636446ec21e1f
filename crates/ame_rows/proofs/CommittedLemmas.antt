-- The committed value at each location, after each call.
use Rattle.std.proofs.Common.{◌≡◌, ◌≢◌, ◌==◌, ℕ, ◌<◌, true, false, cond, List, [], ◌∷◌, ◌++◌, length, set, map, Option, Some, None, slice_get, sym, refl, ap}
use Rattle.std.proofs.Common.{subst, ◌∙◌, arith, ⊎_elim}
use Rattle.std.specs.Prelude.{◌+◌, option_map, option_and_then, IsSome, IsSomeAnd, is_some, nat_eq}
use Rattle.std.specs.Option.{option_map_or}
use Rattle.std.specs.List.{IsDistinct}
use Rattle.std.proofs.lemmas.Bool.{cases_eq}
use Rattle.std.proofs.lemmas.Option.{slice_get_within, slice_get_past, slice_get-map}
use Rattle.ame_term.specs.declared.types.Loc.{Loc}
use Rattle.ame_term.specs.declared.types.Sort.{Sort}
use Rattle.ame_term.specs.declared.types.TyNo.{TyNo}
use Rattle.ame_store.specs.declared.cell.Cell.{Cell}
use Rattle.ame_store.specs.Cells.{IsOwnedBy, IsFree}
use Rattle.ame_store.specs.Changes.{made, replaced, released}
use Rattle.ame_store.specs.Writes.{taken_by}
use Rattle.ame_rows.specs.declared.notes.Undo.{Undo}
use Rattle.ame_rows.specs.declared.notes.Undo.TheVariants.{Wrote, Made}
use Rattle.ame_rows.specs.MemoryView.{Log, MemoryView, no_log, row_at, by_seat}
use Rattle.ame_rows.specs.Entries.{named_by, places, entry_at, OwnsAsLogged, IsEntryFor, IsLogOf}
use Rattle.ame_rows.specs.Consistent.{IsConsistent}
use Rattle.ame_rows.specs.Committed.{old_value, settled_value, committed}
use Rattle.ame_rows.specs.Access.{changed_at, is_owned_by, notes_read, noted_read, overwritten, noted_write, written_by, next_place, notes_allocated}
use Rattle.ame_rows.specs.Access.{allocated_by, put_at, born}
use Rattle.ame_rows.specs.LettingGo.{released_by, released_all, undone_by, but_last, cells_undone, notes_undone, undone_last}
use Rattle.ame_rows.specs.Rollback.{all_undone, rolled_back}
use Rattle.ame_rows.proofs.LookupLemmas.{row_set_here, row_set_else, get_there, get_push_here, get_push_else, changed_here, changed_else}
use Rattle.ame_rows.proofs.EntryLemmas.{entry_head, entry_tail, entry_push_here, entry_push_else, once_tail, once_front, but_last_is, undos_undone}
use Rattle.ame_rows.proofs.EntryLemmas.{split_last}
use Rattle.ame_rows.proofs.LogLemmas.{no_entry, no_cell_no_entry, has_entry, free_not_owned, last_cell}
use Rattle.ame_rows.proofs.AccessLemmas.{notes_at}
use Rattle.ame_rows.proofs.LettingGoLemmas.{owned_is, is_owned, undone_free, cells_undone_is, cells_undone_none}

module _ {V : Type 0} where
  -- what is committed, by the cell that is there
  abbrev pub shown_at : List (Log V) → ℕ → Option (Cell V) → Option V
  shown_at rows l o = option_and_then (λ cell. cond cell.live (settled_value rows l cell.value cell.owner) None) o

  -- rows that put the same values back show the same
  settled_same : (rows new : List (Log V)) (l : ℕ) → ((k : ℕ) → entry_at (row_at new k).undos l ≡ entry_at (row_at rows k).undos l)
      → (value : V) (owner : Option ℕ) → settled_value new l value owner ≡ settled_value rows l value owner
  settled_same rows new l each value None = refl
  settled_same rows new l each value (Some k) = ap (option_and_then old_value) (each k)

  shown_same : (rows new : List (Log V)) (l : ℕ) → ((k : ℕ) → entry_at (row_at new k).undos l ≡ entry_at (row_at rows k).undos l)
      → (o : Option (Cell V)) → shown_at new l o ≡ shown_at rows l o
  shown_same rows new l each None = refl
  shown_same rows new l each (Some cell) = ap (λ v. cond cell.live v None) (settled_same rows new l each cell.value cell.owner)

  -- one seat's entry of a location stays
  entries_same : (rows : List (Log V)) (seat l : ℕ) (notes : Log V) → seat < length rows → entry_at notes.undos l ≡ entry_at (row_at rows seat).undos l
      → (k : ℕ) → entry_at (row_at (set rows seat notes) k).undos l ≡ entry_at (row_at rows k).undos l
  entries_same rows seat l notes within same k =
      ⊎_elim
      (λ (e : k ≡ seat). ap (λ (j : ℕ). entry_at (row_at (set rows seat notes) j).undos l) e
      ∙ ap (λ (n : Log V). entry_at n.undos l) (row_set_here rows seat notes within)
      ∙ same ∙ ap (λ (j : ℕ). entry_at (row_at rows j).undos l) (sym e))
      (λ (n : k ≢ seat). ap (λ (m : Log V). entry_at m.undos l) (row_set_else rows seat k notes n))
      (cases_eq k seat)

  -- a location that a seat's call leaves as it is
  same_elsewhere : (c : MemoryView V) (seat l : ℕ) (cells : List (Cell V)) (notes : Log V) → seat < length c.rows → slice_get cells l ≡ slice_get c.cells l
      → entry_at notes.undos l ≡ entry_at (row_at c.rows seat).undos l → committed (by_seat seat cells notes c) l ≡ committed c l
  same_elsewhere c seat l cells notes within cell entry =
      ap (shown_at (set c.rows seat notes) l) cell ∙ shown_same c.rows (set c.rows seat notes) l (entries_same c.rows seat l notes within entry)
      (slice_get c.cells l)

  -- the value that a location shows with a cell of this owner
  shown_owned : (rows : List (Log V)) (l : ℕ) (o : Option (Cell V)) (cell : Cell V) (owner : Option ℕ) → o ≡ Some cell → cell.owner ≡ owner
      → shown_at rows l o ≡ cond cell.live (settled_value rows l cell.value owner) None
  shown_owned rows l o cell owner at own = ap (shown_at rows l) at ∙ ap (λ w. cond cell.live (settled_value rows l cell.value w) None) own

  pub committed_owned : (c : MemoryView V) (l : ℕ) (cell : Cell V) (owner : ℕ) → slice_get c.cells l ≡ Some cell → cell.live ≡ true → IsOwnedBy owner cell
      → committed c l ≡ option_and_then old_value (entry_at (row_at c.rows owner).undos l)
  committed_owned c l cell owner at live own =
      shown_owned c.rows l (slice_get c.cells l) cell (Some owner) at own
      ∙ ap (λ b. cond b (option_and_then old_value (entry_at (row_at c.rows owner).undos l)) None) live

  -- what the seat's own entry puts back
  settled_by : (rows : List (Log V)) (seat l : ℕ) (notes : Log V) (value : V) (e : Option (Undo V)) → seat < length rows → entry_at notes.undos l ≡ e
      → settled_value (set rows seat notes) l value (Some seat) ≡ option_and_then old_value e
  settled_by rows seat l notes value e within entry =
      ap (λ (n : Log V). option_and_then old_value (entry_at n.undos l)) (row_set_here rows seat notes within) ∙ ap (option_and_then old_value) entry

  -- ---- a rollback
  -- what undoing an entry leaves at its cell is what it was said to put back
  undone_shown : (seat : ℕ) (u : Undo V) (cell : Cell V) → IsEntryFor seat u cell
      → cond (undone_by u cell).live (Some (undone_by u cell).value) None ≡ cond cell.live (old_value u) None
  undone_shown seat (Wrote l number old) cell fits = refl
  undone_shown seat (Made l) cell fits = let nothing : Option V = None in ap (λ b. cond b (Some cell.value) nothing) fits.1
      ∙ ap (λ b. cond b nothing nothing) (sym fits.1)

  owner_of : (seat : ℕ) (u : Undo V) (cell : Cell V) → IsEntryFor seat u cell → IsOwnedBy seat cell
  owner_of seat (Wrote l number old) cell fits = fits.0
  owner_of seat (Made l) cell fits = fits.0

  pub rollback_unseen : (seat l : ℕ) (c : MemoryView V) → IsConsistent c → seat < length c.rows → committed (undone_last seat c) l ≡ committed c l
  rollback_unseen seat l c kept within =
      let row = row_at c.rows seat in
      let log = kept.logs seat in
      ⊎_elim
      (λ (none : row.undos ≡ []).
      let left : (notes_undone row).undos ≡ row.undos = undos_undone row ∙ ap but_last none ∙ sym none in
      same_elsewhere c seat l (cells_undone row.undos c.cells) (notes_undone row) within (ap (λ cs. slice_get cs l)
      (cells_undone_none row.undos c.cells none)) (ap (λ us. entry_at us l) left))
      (λ (some : (front : List (Undo V)) × (u : Undo V) × (row.undos ≡ front ++ u ∷ [])).
      let front = some.0 in let u = some.1 in
      let whole : IsLogOf seat c.cells (front ++ u ∷ []) = subst (IsLogOf seat c.cells) some.2 log in
      let cell = last_cell seat c.cells front u whole in
      let p = named_by u in
      let new = changed_at p (undone_by u) c.cells in
      let cells_are : cells_undone row.undos c.cells ≡ new = cells_undone_is row.undos front u c.cells some.2 in
      let left : (notes_undone row).undos ≡ front = undos_undone row ∙ ap but_last some.2 ∙ but_last_is front u in
      ⊎_elim
      (λ (e : l ≡ p).
      let here = changed_here p (undone_by u) c.cells cell.0 (slice_get_within c.cells p cell.0 cell.1) cell.1 in
      let now : slice_get (cells_undone row.undos c.cells) l ≡ Some (undone_by u cell.0) = ap (λ cs. slice_get cs l) cells_are ∙ ap (slice_get new) e
      ∙ here in
      let was : slice_get c.cells l ≡ Some cell.0 = ap (slice_get c.cells) e ∙ cell.1 in
      let entry : entry_at row.undos l ≡ Some u = ap (entry_at row.undos) e ∙ ap (λ us. entry_at us p) some.2
      ∙ entry_push_here front u (once_front front u whole.once).1 in
      let own = owner_of seat u cell.0 cell.2 in
      shown_owned (set c.rows seat (notes_undone row)) l (slice_get (cells_undone row.undos c.cells) l) (undone_by u cell.0) None now (undone_free u cell.0)
      ∙ undone_shown seat u cell.0 cell.2
      ∙ sym (shown_owned c.rows l (slice_get c.cells l) cell.0 (Some seat) was own ∙ ap (λ o. cond cell.0.live (option_and_then old_value o) None) entry))
      (λ (n : l ≢ p).
      let entry : entry_at (notes_undone row).undos l ≡ entry_at row.undos l =
      ap (λ us. entry_at us l) left ∙ sym (entry_push_else front u l n) ∙ ap (λ us. entry_at us l) (sym some.2) in
      same_elsewhere c seat l (cells_undone row.undos c.cells) (notes_undone row) within (ap (λ cs. slice_get cs l) cells_are
      ∙ changed_else p (undone_by u) c.cells l n) entry)
      (cases_eq l p))
      (split_last row.undos)

  all_push : (us : List (Undo V)) (u : Undo V) (cells : List (Cell V))
      → all_undone (us ++ u ∷ []) cells ≡ all_undone us (changed_at (named_by u) (undone_by u) cells)
  all_push [] u cells = refl
  all_push (x ∷ us) u cells = ap (changed_at (named_by x) (undone_by x)) (all_push us u cells)

  -- what is left of a rollback does to the cells now what all of it did to those before
  pub rollback_rest : (us : List (Undo V)) (cells : List (Cell V)) → all_undone (but_last us) (cells_undone us cells) ≡ all_undone us cells
  rollback_rest us cells =
      ⊎_elim
      (λ (none : us ≡ []). rw none refl)
      (λ (some : (front : List (Undo V)) × (u : Undo V) × (us ≡ front ++ u ∷ [])).
      ap (λ w. all_undone w (cells_undone us cells)) (ap but_last some.2 ∙ but_last_is some.0 some.1)
      ∙ ap (all_undone some.0) (cells_undone_is us some.0 some.1 cells some.2)
      ∙ sym (all_push some.0 some.1 cells) ∙ ap (λ w. all_undone w cells) (sym some.2))
      (split_last us)

  unchanged : (o : Option (Cell V)) → option_map (rolled_back None) o ≡ o
  unchanged None = refl
  unchanged (Some cell) = refl

  changed_there : (l : ℕ) (f : Cell V → Cell V) (cells : List (Cell V)) → slice_get (changed_at l f cells) l ≡ option_map f (slice_get cells l)
  changed_there l f cells =
      elim (slice_get cells l) as (λ o. slice_get cells l ≡ o → slice_get (changed_at l f cells) l ≡ option_map f o) [
        | None ↦ λ e. ap (λ o. slice_get (option_map_or (λ cell. set cells l (f cell)) o cells) l) e ∙ e
        | Some cell ↦ λ e. changed_here l f cells cell (slice_get_within cells l cell e) e
      ] refl

  -- each location after a whole rollback
  pub rollback_whole : (us : List (Undo V)) (cells : List (Cell V)) (l : ℕ) → IsDistinct nat_eq (places us)
      → slice_get (all_undone us cells) l ≡ option_map (rolled_back (entry_at us l)) (slice_get cells l)
  rollback_whole [] cells l once = sym (unchanged (slice_get cells l))
  rollback_whole (u ∷ us) cells l once =
      let p = named_by u in
      let tail = once_tail u us once in
      let rest = rollback_whole us cells l tail.0 in
      ⊎_elim
      (λ (e : l ≡ p).
      let untouched : slice_get (all_undone us cells) p ≡ slice_get cells p =
      ap (slice_get (all_undone us cells)) (sym e) ∙ rest ∙ ap (λ (j : ℕ). option_map (rolled_back (entry_at us j)) (slice_get cells j)) e
      ∙ ap (λ o. option_map (rolled_back o) (slice_get cells p)) tail.1 ∙ unchanged (slice_get cells p) in
      ap (slice_get (all_undone (u ∷ us) cells)) e ∙ changed_there p (undone_by u) (all_undone us cells)
      ∙ ap (option_map (undone_by u)) untouched
      ∙ ap (λ o. option_map (rolled_back o) (slice_get cells p)) (sym (entry_head u us))
      ∙ ap (λ (j : ℕ). option_map (rolled_back (entry_at (u ∷ us) j)) (slice_get cells j)) (sym e))
      (λ (n : l ≢ p).
      changed_else p (undone_by u) (all_undone us cells) l n ∙ rest ∙ ap (λ o. option_map (rolled_back o) (slice_get cells l)) (sym (entry_tail u us l n)))
      (cases_eq l p)

  unowned_no_entry : (seat : ℕ) (o : Option (Cell V)) (e : Option (Undo V)) → ((cell : Cell V) → o ≡ Some cell → IsOwnedBy seat cell → ⊥)
      → OwnsAsLogged seat o e → e ≡ None
  unowned_no_entry seat None e none h = no_cell_no_entry seat e h
  unowned_no_entry seat (Some cell) e none h = no_entry seat cell e (none cell refl) h

  undone_number : (u : Undo V) (cell : Cell V) → (undone_by u cell).number ≡ cell.number + 1
  undone_number (Wrote l number old) cell = refl
  undone_number (Made l) cell = refl

  -- a cell of the seat has no owner after a whole rollback, and has the next number
  pub rollback_back : (seat l : ℕ) (cell : Cell V) (us : List (Undo V)) (cells : List (Cell V)) → IsLogOf seat cells us
      → slice_get cells l ≡ Some cell → IsOwnedBy seat cell
      → IsSomeAnd (slice_get (all_undone us cells) l) (λ after. IsFree after × (after.number ≡ cell.number + 1))
  rollback_back seat l cell us cells log at its =
      let says = log.owned l in
      let entry = has_entry seat cell (entry_at us l) its (rw at at says) in
      let after : slice_get (all_undone us cells) l ≡ Some (undone_by entry.0 cell) =
      rollback_whole us cells l log.once ∙ ap (λ o. option_map (rolled_back (entry_at us l)) o) at
      ∙ ap (λ e. Some (rolled_back e cell)) entry.1 in
      rw after (undone_free entry.0 cell, undone_number entry.0 cell)

  -- every other cell stays
  pub rollback_others : (seat l : ℕ) (us : List (Undo V)) (cells : List (Cell V)) → IsLogOf seat cells us
      → ((cell : Cell V) → slice_get cells l ≡ Some cell → IsOwnedBy seat cell → ⊥) → slice_get (all_undone us cells) l ≡ slice_get cells l
  rollback_others seat l us cells log none =
      rollback_whole us cells l log.once
      ∙ ap (λ e. option_map (rolled_back e) (slice_get cells l)) (unowned_no_entry seat (slice_get cells l) (entry_at us l) none (log.owned l))
      ∙ unchanged (slice_get cells l)

  -- ---- reads, writes and allocations
  pub read_unseen : (seat : ℕ) (l : Loc) (input : V) (j : ℕ) (c : MemoryView V) → seat < length c.rows
      → committed (by_seat seat c.cells (notes_read seat l input c.cells (row_at c.rows seat)) c) j ≡ committed c j
  read_unseen seat l input j c within =
      let row = row_at c.rows seat in
      let undos : (notes_read seat l input c.cells row).undos ≡ row.undos =
      elim (slice_get c.cells l.0) as (λ o. (option_map_or (λ cell. noted_read seat l input cell row) o row).undos ≡ row.undos)
      [ None ↦ refl | Some cell ↦ refl ] in
      same_elsewhere c seat j c.cells (notes_read seat l input c.cells row) within refl (ap (λ us. entry_at us j) undos)

  owned_shown : (rows : List (Log V)) (seat owner j : ℕ) (value : V) (cell : Cell V) → cell.owner ≡ Some owner
      → shown_at rows j (Some (overwritten seat value (Some owner) cell)) ≡ cond cell.live (settled_value rows j cell.value (Some owner)) None
  owned_shown rows seat owner j value cell own =
      elim (owner == seat) as (λ b. shown_at rows j (Some (cond b (record cell { value = value }) cell)) ≡ cond cell.live (settled_value rows j cell.value
      (Some owner)) None) [
        | true ↦ ap (λ w. cond cell.live (settled_value rows j value w) None) own
        | false ↦ ap (λ w. cond cell.live (settled_value rows j cell.value w) None) own
      ]

  write_shown : (seat : ℕ) (l : Loc) (value input : V) (j : ℕ) (c : MemoryView V) → IsConsistent c → seat < length c.rows → l.0 < length c.cells
      → (cell : Cell V) → slice_get c.cells l.0 ≡ Some cell → (o : Option ℕ) → cell.owner ≡ o
      → committed (by_seat seat (changed_at l.0 (λ x. overwritten seat value x.owner x) c.cells)
      (noted_write seat l input o cell (row_at c.rows seat)) c) j ≡ committed c j
  write_shown seat l value input j c kept within below cell at None own =
      let row = row_at c.rows seat in
      let f : Cell V → Cell V = λ x. overwritten seat value x.owner x in
      let new = changed_at l.0 f c.cells in
      let u : Undo V = Wrote l cell.number cell.value in
      let notes : Log V = noted_write seat l input None cell row in
      let says = (kept.logs seat).owned l.0 in
      let none = no_entry seat cell (entry_at row.undos l.0) (free_not_owned seat cell own) (rw at at says) in
      ⊎_elim
      (λ (e : j ≡ l.0).
      let now : slice_get new j ≡ Some (taken_by seat value cell) = ap (slice_get new) e ∙ changed_here l.0 f c.cells cell below at
      ∙ ap (λ q. Some (overwritten seat value q cell)) own in
      let was : slice_get c.cells j ≡ Some cell = ap (slice_get c.cells) e ∙ at in
      let entry : entry_at notes.undos j ≡ Some u = ap (entry_at notes.undos) e ∙ entry_push_here row.undos u none in
      shown_owned (set c.rows seat notes) j (slice_get new j) (taken_by seat value cell) (Some seat) now refl
      ∙ ap (λ v. cond cell.live v None) (settled_by c.rows seat j notes value (Some u) within entry)
      ∙ sym (shown_owned c.rows j (slice_get c.cells j) cell None was own))
      (λ (n : j ≢ l.0). same_elsewhere c seat j new notes within (changed_else l.0 f c.cells j n) (entry_push_else row.undos u j n))
      (cases_eq j l.0)
  write_shown seat l value input j c kept within below cell at (Some owner) own =
      let row = row_at c.rows seat in
      let f : Cell V → Cell V = λ x. overwritten seat value x.owner x in
      let new = changed_at l.0 f c.cells in
      let notes : Log V = noted_write seat l input (Some owner) cell row in
      let undos : notes.undos ≡ row.undos =
      elim (owner == seat) as (λ b. (cond b (record row { inputs = row.inputs ++ input ∷ [] }) row).undos ≡ row.undos) [ true ↦ refl | false ↦ refl ] in
      let entry : entry_at notes.undos j ≡ entry_at row.undos j = ap (λ us. entry_at us j) undos in
      let rows_same = entries_same c.rows seat j notes within entry in
      ⊎_elim
      (λ (e : j ≡ l.0).
      let now : slice_get new j ≡ Some (overwritten seat value (Some owner) cell) = ap (slice_get new) e ∙ changed_here l.0 f c.cells cell below at
      ∙ ap (λ q. Some (overwritten seat value q cell)) own in
      let was : slice_get c.cells j ≡ Some cell = ap (slice_get c.cells) e ∙ at in
      ap (shown_at (set c.rows seat notes) j) now ∙ owned_shown (set c.rows seat notes) seat owner j value cell own
      ∙ ap (λ o. cond cell.live (option_and_then old_value o) None) (rows_same owner)
      ∙ sym (shown_owned c.rows j (slice_get c.cells j) cell (Some owner) was own))
      (λ (n : j ≢ l.0). same_elsewhere c seat j new notes within (changed_else l.0 f c.cells j n) entry)
      (cases_eq j l.0)

  pub write_unseen : (seat : ℕ) (l : Loc) (value input : V) (j : ℕ) (c : MemoryView V) → IsConsistent c → seat < length c.rows → l.0 < length c.cells
      → committed (written_by seat l value input c) j ≡ committed c j
  write_unseen seat l value input j c kept within below =
      let there = get_there c.cells l.0 below in
      let cell = there.0 in let at = there.1 in
      let row = row_at c.rows seat in
      let f : Cell V → Cell V = λ x. overwritten seat value x.owner x in
      let new = changed_at l.0 f c.cells in
      subst (λ notes. committed (by_seat seat new notes c) j ≡ committed c j) (sym (notes_at seat l input c.cells row cell at))
      (write_shown seat l value input j c kept within below cell at cell.owner refl)

  pub allocation_unseen : (seat : ℕ) (sort : Sort) (ty : TyNo) (value input : V) (j : ℕ) (c : MemoryView V) → seat < length c.rows
      → committed (allocated_by seat sort ty value input c) j ≡ committed c j
  allocation_unseen seat sort ty value input j c within =
      let row = row_at c.rows seat in
      let cell : Cell V = made sort ty value (Some seat) in
      let l = next_place c.cells in
      let notes : Log V = notes_allocated l input row in
      ⊎_elim
      (λ (e : j ≡ length c.cells).
      let now : slice_get (c.cells ++ cell ∷ []) j ≡ Some cell = ap (slice_get (c.cells ++ cell ∷ [])) e ∙ get_push_here c.cells cell in
      ap (shown_at (set c.rows seat notes) j) now ∙ ap (shown_at c.rows j) (sym (slice_get_past c.cells j (omega (arith, e)))))
      (λ (n : j ≢ length c.cells). same_elsewhere c seat j (c.cells ++ cell ∷ []) notes within (get_push_else c.cells cell j n)
      (entry_push_else row.undos (Made l) j n))
      (cases_eq j (length c.cells))

  live_old : (seat : ℕ) (u : Undo V) (cell : Cell V) → IsEntryFor seat u cell → cell.live ≡ true → is_some (old_value u) ≡ true
  live_old seat (Wrote l number old) cell fits live = refl
  live_old seat (Made l) cell fits live = sym fits.1 ∙ live

  live_shown : (c : MemoryView V) (l : ℕ) (cell : Cell V) → IsConsistent c → slice_get c.cells l ≡ Some cell → cell.live ≡ true → (o : Option ℕ)
      → cell.owner ≡ o
      → is_some (shown_at c.rows l (Some cell)) ≡ true
  live_shown c l cell kept at live None own =
      ap (λ w. is_some (cond cell.live (settled_value c.rows l cell.value w) None)) own ∙ ap (λ b. is_some (cond b (Some cell.value) None)) live
  live_shown c l cell kept at live (Some seat) own =
      let says = (kept.logs seat).owned l in
      let entry = has_entry seat cell (entry_at (row_at c.rows seat).undos l) own (rw at at says) in
      ap (λ w. is_some (cond cell.live (settled_value c.rows l cell.value w) None)) own
      ∙ ap (λ o. is_some (cond cell.live (option_and_then old_value o) None)) entry.1
      ∙ ap (λ b. is_some (cond b (old_value entry.0) None)) live ∙ live_old seat entry.0 cell entry.2 live

  -- ---- what commits and unprotected code make
  -- a live cell has a committed value
  pub live_committed : (c : MemoryView V) (l : ℕ) (cell : Cell V) → IsConsistent c → slice_get c.cells l ≡ Some cell → cell.live ≡ true → IsSome (committed c l)
  live_committed c l cell kept at live =
      ap (λ o. is_some (shown_at c.rows l o)) at ∙ live_shown c l cell kept at live cell.owner refl

  -- a commit shows what the seat has in place, and nothing else changes
  pub commit_owned : (seat l : ℕ) (c : MemoryView V) (cell : Cell V) → slice_get c.cells l ≡ Some cell → IsOwnedBy seat cell
      → committed (released_all seat c) l ≡ Some cell.value
  commit_owned seat l c cell at its =
      ap (shown_at (set c.rows seat no_log) l) (slice_get-map (released_by seat) c.cells l ∙ ap (option_map (released_by seat)) at)
      ∙ ap (λ b. shown_at (set c.rows seat no_log) l (Some (cond b (released cell) cell))) (owned_is seat cell its)

  unowned_stays : (seat : ℕ) (o : Option (Cell V)) → ((cell : Cell V) → o ≡ Some cell → IsOwnedBy seat cell → ⊥) → option_map (released_by seat) o ≡ o
  unowned_stays seat None none = refl
  unowned_stays seat (Some cell) none =
      elim (is_owned_by seat cell) as (λ b. is_owned_by seat cell ≡ b → Some (cond b (released cell) cell) ≡ Some cell) [
        | true ↦ λ e. absurd (none cell refl (is_owned seat cell e))
        | false ↦ λ e. refl
      ] refl

  pub commit_others : (seat l : ℕ) (c : MemoryView V) → IsConsistent c → seat < length c.rows → ((cell : Cell V) → slice_get c.cells l ≡ Some cell
      → IsOwnedBy seat cell → ⊥)
      → committed (released_all seat c) l ≡ committed c l
  commit_others seat l c kept within none =
      let row = row_at c.rows seat in
      let cells : slice_get (map (released_by seat) c.cells) l ≡ slice_get c.cells l = slice_get-map (released_by seat) c.cells l
      ∙ unowned_stays seat (slice_get c.cells l) none in
      let entry : entry_at row.undos l ≡ None = unowned_no_entry seat (slice_get c.cells l) (entry_at row.undos l) none ((kept.logs seat).owned l) in
      same_elsewhere c seat l (map (released_by seat) c.cells) no_log within cells (sym entry)

  -- unprotected code writes to cells without owners, and nothing else changes
  pub put_here : (l : ℕ) (value : V) (c : MemoryView V) (cell : Cell V) → slice_get c.cells l ≡ Some cell → IsFree cell → cell.live ≡ true
      → committed (put_at l value c) l ≡ Some value
  put_here l value c cell at free live =
      shown_owned c.rows l (slice_get (changed_at l (replaced value) c.cells) l)
      (replaced value cell) None (changed_here l (replaced value) c.cells cell (slice_get_within c.cells l cell at) at) free
      ∙ ap (λ b. cond b (Some value) None) live

  pub put_elsewhere : (l j : ℕ) (value : V) (c : MemoryView V) → j ≢ l → committed (put_at l value c) j ≡ committed c j
  put_elsewhere l j value c n = ap (shown_at c.rows j) (changed_else l (replaced value) c.cells j n)

  pub born_here : (sort : Sort) (ty : TyNo) (value : V) (c : MemoryView V) → committed (born sort ty value c) (length c.cells) ≡ Some value
  born_here sort ty value c = ap (shown_at c.rows (length c.cells)) (get_push_here c.cells (made sort ty value None))

  pub born_elsewhere : (sort : Sort) (ty : TyNo) (value : V) (j : ℕ) (c : MemoryView V) → j ≢ length c.cells
      → committed (born sort ty value c) j ≡ committed c j
  born_elsewhere sort ty value j c n = ap (shown_at c.rows j) (get_push_else c.cells (made sort ty value None) j n)
