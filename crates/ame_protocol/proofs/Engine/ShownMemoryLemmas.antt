-- A shared memory's calls on values of any kind are those on plain data.
use Rattle.std.proofs.Common.{◌≡◌, ℕ, ◌<◌, ◌==◌, Bool, true, false, cond, List, [], ◌∷◌, ◌++◌, length, map, set, take, Option, Some, None, slice_get, refl, sym, ap, ◌∙◌}
use Rattle.std.specs.Prelude.{◌-◌, nat_lt, option_map, option_and_then, unwrap_or}
use Rattle.std.specs.Option.{option_map_or}
use Rattle.std.proofs.lemmas.Option.{slice_get-map}
use Rattle.std.proofs.lemmas.List.{map-set, map-append, take-map, length-map}
use Rattle.ame_term.specs.Tree.{Val}
use Rattle.ame_term.specs.declared.types.Loc.{Loc}
use Rattle.ame_term.specs.declared.types.Sort.{Sort}
use Rattle.ame_term.specs.declared.types.TyNo.{TyNo}
use Rattle.ame_store.specs.declared.cell.Cell.{Cell}
use Rattle.ame_store.specs.Changes.{made, released, replaced}
use Rattle.ame_rows.specs.declared.notes.Undo.{Undo}
use Rattle.ame_rows.specs.declared.notes.Undo.TheVariants.{Wrote, Made}
use Rattle.ame_rows.specs.MemoryView.{Log, MemoryView, no_log, row_at, by_seat}
use Rattle.ame_rows.specs.Entries.{named_by, entry_at}
use Rattle.ame_rows.specs.Committed.{old_value, settled_value, committed}
use Rattle.ame_rows.specs.Access.{changed_at, is_owned_by, noted_read, notes_read, IsRead, overwritten, noted_write, notes_written, written_by, next_place, allocated_by, put_at, born}
use Rattle.ame_rows.specs.LettingGo.{released_by, released_all, undone_by, last_entry, but_last, cells_undone, notes_undone, undone_last}
use Rattle.ame_rows.proofs.LookupLemmas.{get_there}
use Rattle.ame_rows.proofs.CommittedLemmas.{shown_at}
use Rattle.ame_protocol.specs.Row.Shown.{shown_cell, shown_undo}
use Rattle.ame_protocol.specs.Engine.Logged.{read_by}
use Rattle.ame_protocol.specs.Engine.Shown.{shown_notes, shown_memory}
use Rattle.ame_protocol.proofs.Engine.MemoryLemmas.{found}

module _ {V : Type 0} (view : V → Val) where
  abbrev cell_of : Cell V → Cell Val
  cell_of cell = shown_cell view cell

  abbrev undo_of : Undo V → Undo Val
  undo_of undo = shown_undo view undo

  -- Look-ups

  pub row-shown : (rows : List (Log V)) (seat : ℕ) → row_at (map (shown_notes view) rows) seat ≡ shown_notes view (row_at rows seat)
  row-shown rows seat = ap (λ (o : Option (Log Val)). unwrap_or o no_log) (slice_get-map (shown_notes view) rows seat) ∙ by (slice_get rows seat)
    where
      by : (o : Option (Log V)) → unwrap_or (option_map (shown_notes view) o) no_log ≡ shown_notes view (unwrap_or o no_log)
      by None = refl
      by (Some notes) = refl

  seat-shown : (seat : ℕ) (cells : List (Cell V)) (notes : Log V) (c : MemoryView V)
      → shown_memory view (by_seat seat cells notes c) ≡ by_seat seat (map cell_of cells) (shown_notes view notes) (shown_memory view c)
  seat-shown seat cells notes c = λ i. record { cells = map cell_of cells; rows = (map-set (shown_notes view) c.rows seat notes) i }

  changed-shown : (l : ℕ) (f : Cell V → Cell V) (g : Cell Val → Cell Val) → ((cell : Cell V) → cell_of (f cell) ≡ g (cell_of cell)) → (cells : List (Cell V))
      → map cell_of (changed_at l f cells) ≡ changed_at l g (map cell_of cells)
  changed-shown l f g same cells =
      by (slice_get cells l)
      ∙ ap (λ (o : Option (Cell Val)). option_map_or (λ cell. set (map cell_of cells) l (g cell)) o (map cell_of cells)) (sym (slice_get-map cell_of cells l))
    where
      by : (o : Option (Cell V)) → map cell_of (option_map_or (λ cell. set cells l (f cell)) o cells)
          ≡ option_map_or (λ cell. set (map cell_of cells) l (g cell)) (option_map cell_of o) (map cell_of cells)
      by None = refl
      by (Some cell) = map-set cell_of cells l (f cell) ∙ ap (set (map cell_of cells) l) (same cell)

  -- Reads

  pub read-shown : (same : V → V → Type 0) → ((x y : V) → same x y → view y ≡ view x) → (seat : ℕ) (l : Loc) (c : MemoryView V) (notes : Log V) → l.0 < length c.cells
      → IsRead same seat l c.cells (row_at c.rows seat) notes → shown_memory view (by_seat seat c.cells notes c) ≡ read_by seat l (shown_memory view c)
  read-shown same told seat l c notes below h =
      let there = get_there c.cells l.0 below in
      let cell = there.0 in
      let row = row_at c.rows seat in
      let at : slice_get (map cell_of c.cells) l.0 ≡ Some (cell_of cell) = slice_get-map cell_of c.cells l.0 ∙ ap (option_map cell_of) there.1 in
      let input : view h.input ≡ view cell.value = told cell.value h.input (h.copied cell there.1) in
      let becomes : notes ≡ noted_read seat l h.input cell row =
      h.becomes ∙ ap (λ (o : Option (Cell V)). option_map_or (λ x. noted_read seat l h.input x row) o row) there.1 in
      let place = found (shown_memory view c) l.0 (cell_of cell) at in
      seat-shown seat c.cells notes c
      ∙ ap (λ (n : Log Val). by_seat seat (map cell_of c.cells) n (shown_memory view c))
      (ap (shown_notes view) becomes ∙ noted cell row h.input input
      ∙ sym (ap (λ (x : Cell Val). notes_read seat l x.value (map cell_of c.cells) (row_at (map (shown_notes view) c.rows) seat)) place
      ∙ ap (λ (o : Option (Cell Val)). option_map_or (λ x. noted_read seat l (cell_of cell).value x (row_at (map (shown_notes view) c.rows) seat)) o (row_at (map (shown_notes view) c.rows) seat)) at
      ∙ ap (noted_read seat l (cell_of cell).value (cell_of cell)) (row-shown c.rows seat)))
    where
      noted : (cell : Cell V) (row : Log V) (input : V) → view input ≡ view cell.value
          → shown_notes view (noted_read seat l input cell row) ≡ noted_read seat l (cell_of cell).value (cell_of cell) (shown_notes view row)
      noted cell row input e = λ i. record {
        reads = cond (is_owned_by seat cell) row.reads (row.reads ++ record { loc = l; number = cell.number } ∷ []);
        inputs = (map-append view row.inputs (input ∷ []) ∙ ap (λ (v : Val). map view row.inputs ++ v ∷ []) e) i;
        undos = map undo_of row.undos;
      }

  -- Writes

  written-cell : (seat : ℕ) (value : V) (o : Option ℕ) (cell : Cell V) → cell_of (overwritten seat value o cell) ≡ overwritten seat (view value) o (cell_of cell)
  written-cell seat value None cell = refl
  written-cell seat value (Some owner) cell = by (owner == seat)
    where
      by : (b : Bool) → cell_of (cond b (record cell { value = value }) cell) ≡ cond b (record (cell_of cell) { value = view value }) (cell_of cell)
      by true = refl
      by false = refl

  written-notes : (seat : ℕ) (l : Loc) (input : V) (o : Option ℕ) (cell : Cell V) (row : Log V)
      → shown_notes view (noted_write seat l input o cell row) ≡ noted_write seat l (view input) o (cell_of cell) (shown_notes view row)
  written-notes seat l input None cell row = λ i. record {
    reads = row.reads;
    inputs = (map-append view row.inputs (input ∷ [])) i;
    undos = (map-append undo_of row.undos (Wrote l cell.number cell.value ∷ [])) i;
  }
  written-notes seat l input (Some owner) cell row = by (owner == seat)
    where
      by : (b : Bool) → shown_notes view (cond b (record row { inputs = row.inputs ++ input ∷ [] }) row)
          ≡ cond b (record (shown_notes view row) { inputs = map view row.inputs ++ view input ∷ [] }) (shown_notes view row)
      by true = λ i. record { reads = row.reads; inputs = (map-append view row.inputs (input ∷ [])) i; undos = map undo_of row.undos }
      by false = refl

  pub write-shown : (seat : ℕ) (l : Loc) (value input : V) (c : MemoryView V)
      → shown_memory view (written_by seat l value input c) ≡ written_by seat l (view value) (view input) (shown_memory view c)
  write-shown seat l value input c =
      let f : Cell V → Cell V = λ cell. overwritten seat value cell.owner cell in
      let g : Cell Val → Cell Val = λ cell. overwritten seat (view value) cell.owner cell in
      let row = row_at c.rows seat in
      seat-shown seat (changed_at l.0 f c.cells) (notes_written seat l input c.cells row) c
      ∙ ap (λ (cells : List (Cell Val)). by_seat seat cells (shown_notes view (notes_written seat l input c.cells row)) (shown_memory view c))
      (changed-shown l.0 f g (λ cell. written-cell seat value cell.owner cell) c.cells)
      ∙ ap (λ (n : Log Val). by_seat seat (changed_at l.0 g (map cell_of c.cells)) n (shown_memory view c))
      (by (slice_get c.cells l.0) row
      ∙ ap (λ (o : Option (Cell Val)). option_map_or (λ cell. noted_write seat l (view input) cell.owner cell (shown_notes view row)) o (shown_notes view row)) (sym (slice_get-map cell_of c.cells l.0))
      ∙ ap (notes_written seat l (view input) (map cell_of c.cells)) (sym (row-shown c.rows seat)))
    where
      by : (o : Option (Cell V)) (row : Log V) → shown_notes view (option_map_or (λ cell. noted_write seat l input cell.owner cell row) o row)
          ≡ option_map_or (λ cell. noted_write seat l (view input) cell.owner cell (shown_notes view row)) (option_map cell_of o) (shown_notes view row)
      by None row = refl
      by (Some cell) row = written-notes seat l input cell.owner cell row

  -- Allocations, and what unprotected code does

  made-shown : (sort : Sort) (ty : TyNo) (value : V) (o : Option ℕ) → cell_of (made sort ty value o) ≡ made sort ty (view value) o
  made-shown sort ty value None = refl
  made-shown sort ty value (Some seat) = refl

  last-shown : (cells : List (Cell V)) (sort : Sort) (ty : TyNo) (value : V) (o : Option ℕ)
      → map cell_of (cells ++ made sort ty value o ∷ []) ≡ map cell_of cells ++ made sort ty (view value) o ∷ []
  last-shown cells sort ty value o =
      map-append cell_of cells (made sort ty value o ∷ []) ∙ ap (λ (cell : Cell Val). map cell_of cells ++ cell ∷ []) (made-shown sort ty value o)

  pub allocation-shown : (seat : ℕ) (sort : Sort) (ty : TyNo) (value input : V) (c : MemoryView V)
      → shown_memory view (allocated_by seat sort ty value input c) ≡ allocated_by seat sort ty (view value) (view input) (shown_memory view c)
  allocation-shown seat sort ty value input c =
      let row = row_at c.rows seat in
      let l = next_place c.cells in
      let notes : Log V = record row { inputs = row.inputs ++ input ∷ []; undos = row.undos ++ Made l ∷ [] } in
      let cells : List (Cell Val) = map cell_of c.cells ++ made sort ty (view value) (Some seat) ∷ [] in
      seat-shown seat (c.cells ++ made sort ty value (Some seat) ∷ []) notes c
      ∙ ap (λ (xs : List (Cell Val)). by_seat seat xs (shown_notes view notes) (shown_memory view c)) (last-shown c.cells sort ty value (Some seat))
      ∙ (λ i. by_seat seat cells (record {
        reads = row.reads;
        inputs = (map-append view row.inputs (input ∷ [])) i;
        undos = (map-append undo_of row.undos (Made l ∷ [])) i;
      }) (shown_memory view c))
      ∙ (λ i. by_seat seat cells (record (sym (row-shown c.rows seat) i) {
        inputs = (sym (row-shown c.rows seat) i).inputs ++ view input ∷ [];
        undos = (sym (row-shown c.rows seat) i).undos ++ Made (record { 0 = (sym (length-map c.cells cell_of)) i }) ∷ [];
      }) (shown_memory view c))

  pub put-shown : (l : ℕ) (value : V) (c : MemoryView V) → shown_memory view (put_at l value c) ≡ put_at l (view value) (shown_memory view c)
  put-shown l value c = λ i. record {
    cells = (changed-shown l (replaced value) (replaced (view value)) (λ _. refl) c.cells) i;
    rows = map (shown_notes view) c.rows;
  }

  pub born-shown : (sort : Sort) (ty : TyNo) (value : V) (c : MemoryView V) → shown_memory view (born sort ty value c) ≡ born sort ty (view value) (shown_memory view c)
  born-shown sort ty value c = λ i. record { cells = (last-shown c.cells sort ty value None) i; rows = map (shown_notes view) c.rows }

  -- Letting go

  released-shown : (seat : ℕ) (cells : List (Cell V)) → map cell_of (map (released_by seat) cells) ≡ map (released_by seat) (map cell_of cells)
  released-shown seat [] = refl
  released-shown seat (cell ∷ cells) = λ i. by (is_owned_by seat cell) i ∷ (released-shown seat cells) i
    where
      by : (b : Bool) → cell_of (cond b (released cell) cell) ≡ cond b (released (cell_of cell)) (cell_of cell)
      by true = refl
      by false = refl

  pub release-shown : (seat : ℕ) (c : MemoryView V) → shown_memory view (released_all seat c) ≡ released_all seat (shown_memory view c)
  release-shown seat c =
      seat-shown seat (map (released_by seat) c.cells) no_log c
      ∙ ap (λ (cells : List (Cell Val)). by_seat seat cells no_log (shown_memory view c)) (released-shown seat c.cells)

  named-shown : (u : Undo V) → named_by (undo_of u) ≡ named_by u
  named-shown (Wrote l number old) = refl
  named-shown (Made l) = refl

  undone-cell : (u : Undo V) (cell : Cell V) → cell_of (undone_by u cell) ≡ undone_by (undo_of u) (cell_of cell)
  undone-cell (Wrote l number old) cell = refl
  undone-cell (Made l) cell = refl

  last-entry : (us : List (Undo V)) → last_entry (map undo_of us) ≡ option_map undo_of (last_entry us)
  last-entry us = ap (λ n. slice_get (map undo_of us) (n - 1)) (length-map us undo_of) ∙ slice_get-map undo_of us (length us - 1)

  front-shown : (us : List (Undo V)) → but_last (map undo_of us) ≡ map undo_of (but_last us)
  front-shown us = ap (λ n. take (n - 1) (map undo_of us)) (length-map us undo_of) ∙ take-map undo_of (length us - 1) us

  cells-undone : (us : List (Undo V)) (cells : List (Cell V)) → map cell_of (cells_undone us cells) ≡ cells_undone (map undo_of us) (map cell_of cells)
  cells-undone us cells =
      by (last_entry us)
      ∙ ap (λ (o : Option (Undo Val)). option_map_or (λ u. changed_at (named_by u) (undone_by u) (map cell_of cells)) o (map cell_of cells)) (sym (last-entry us))
    where
      by : (o : Option (Undo V)) → map cell_of (option_map_or (λ u. changed_at (named_by u) (undone_by u) cells) o cells)
          ≡ option_map_or (λ u. changed_at (named_by u) (undone_by u) (map cell_of cells)) (option_map undo_of o) (map cell_of cells)
      by None = refl
      by (Some u) =
          changed-shown (named_by u) (undone_by u) (undone_by (undo_of u)) (undone-cell u) cells
          ∙ ap (λ l. changed_at l (undone_by (undo_of u)) (map cell_of cells)) (sym (named-shown u))

  notes-undone : (notes : Log V) → shown_notes view (notes_undone notes) ≡ notes_undone (shown_notes view notes)
  notes-undone notes =
      by (nat_lt 1 (length notes.undos))
      ∙ ap (λ n. cond (nat_lt 1 n) (record (shown_notes view notes) { undos = but_last (map undo_of notes.undos) }) no_log) (sym (length-map notes.undos undo_of))
    where
      by : (b : Bool) → shown_notes view (cond b (record notes { undos = but_last notes.undos }) no_log)
          ≡ cond b (record (shown_notes view notes) { undos = but_last (map undo_of notes.undos) }) no_log
      by true = λ i. record { reads = notes.reads; inputs = map view notes.inputs; undos = (sym (front-shown notes.undos)) i }
      by false = refl

  pub undo-shown : (seat : ℕ) (c : MemoryView V) → shown_memory view (undone_last seat c) ≡ undone_last seat (shown_memory view c)
  undo-shown seat c =
      let row = row_at c.rows seat in
      seat-shown seat (cells_undone row.undos c.cells) (notes_undone row) c
      ∙ (λ i. by_seat seat ((cells-undone row.undos c.cells) i) ((notes-undone row) i) (shown_memory view c))
      ∙ (λ i. by_seat seat (cells_undone ((sym (row-shown c.rows seat)) i).undos (map cell_of c.cells)) (notes_undone ((sym (row-shown c.rows seat)) i)) (shown_memory view c))

  -- Committed values; cells and logs agree

  entry-shown : (us : List (Undo V)) (l : ℕ) → entry_at (map undo_of us) l ≡ option_map undo_of (entry_at us l)
  entry-shown [] l = refl
  entry-shown (u ∷ us) l =
      ap (λ m. cond (m == l) (Some (undo_of u)) (entry_at (map undo_of us) l)) (named-shown u)
      ∙ ap (cond (named_by u == l) (Some (undo_of u))) (entry-shown us l) ∙ by (named_by u == l)
    where
      by : (b : Bool) → cond b (Some (undo_of u)) (option_map undo_of (entry_at us l)) ≡ option_map undo_of (cond b (Some u) (entry_at us l))
      by true = refl
      by false = refl

  old-shown : (o : Option (Undo V)) → option_and_then old_value (option_map undo_of o) ≡ option_map view (option_and_then old_value o)
  old-shown None = refl
  old-shown (Some (Wrote l number old)) = refl
  old-shown (Some (Made l)) = refl

  settled-shown : (rows : List (Log V)) (l : ℕ) (value : V) (o : Option ℕ)
      → settled_value (map (shown_notes view) rows) l (view value) o ≡ option_map view (settled_value rows l value o)
  settled-shown rows l value None = refl
  settled-shown rows l value (Some owner) =
      ap (λ (n : Log Val). option_and_then old_value (entry_at n.undos l)) (row-shown rows owner)
      ∙ ap (option_and_then old_value) (entry-shown (row_at rows owner).undos l) ∙ old-shown (entry_at (row_at rows owner).undos l)

  pub committed-shown : (c : MemoryView V) (l : ℕ) → committed (shown_memory view c) l ≡ option_map view (committed c l)
  committed-shown c l = ap (shown_at (map (shown_notes view) c.rows) l) (slice_get-map cell_of c.cells l) ∙ by (slice_get c.cells l)
    where
      by : (o : Option (Cell V)) → shown_at (map (shown_notes view) c.rows) l (option_map cell_of o) ≡ option_map view (shown_at c.rows l o)
      by None = refl
      by (Some cell) = ap (λ (o : Option Val). cond cell.live o None) (settled-shown c.rows l cell.value cell.owner) ∙ where_live cell.live (settled_value c.rows l cell.value cell.owner)
        where
          where_live : (b : Bool) (o : Option V) → cond b (option_map view o) None ≡ option_map view (cond b o None)
          where_live true o = refl
          where_live false o = refl
