-- From the fields of a shared memory to what contracts see of it.
use Rattle.std.proofs.Common.{◌≡◌, ℕ, ◌<◌, List, [], length, map, set, get_or, All, Some, None, Result, Ok, Err, OnErr, sym, refl, ap, subst, ◌∙◌, arith}
use Rattle.std.proofs.lemmas.List.{length-map}
use Rattle.ame_store.specs.declared.cell.Cell.{Cell}
use Rattle.ame_store.specs.Cells.{IsFree}
use Rattle.ame_rows.specs.Log.{RoomyLog}
use Rattle.ame_rows.specs.MemoryView.{Log, MemoryView, without_room, memory_of, row_at, by_seat}
use Rattle.ame_rows.specs.Entries.{IsLogOf}
use Rattle.ame_rows.specs.Consistent.{IsConsistent}
use Rattle.ame_rows.proofs.LookupLemmas.{all_from}
use Rattle.ame_rows.proofs.LogLemmas.{nothing_owned}
use Rattle.ame_rows.proofs.KeptLemmas.{row_read, seen_by_seat, seen_same}

pub on_err : {T E : Type 0} (P : Type 0) (r : Result T E) → P → OnErr r P
on_err P (Ok x) p = tt
on_err P (Err e) p = p

-- if no log has an entry, no cell has an owner
pub all_free : {V : Type 0} (c : MemoryView V) → IsConsistent c → ((seat : ℕ) → (row_at c.rows seat).undos ≡ []) → All IsFree c.cells
all_free c kept none =
    all_from IsFree c.cells (λ l cell at. elim cell.owner as (λ o. cell.owner ≡ o → o ≡ None) [
      | None ↦ λ e. refl
      | Some owner ↦ λ e. absurd (nothing_owned owner c.cells l cell (subst (IsLogOf owner c.cells) (none owner) (kept.logs owner)) at e)
    ] refl)

-- a shared memory whose fields are these, seen as these contents, and the row of a seat in it
pub record Opened {V : Type 0} (cells : List (Cell V)) (rows : List (RoomyLog V)) (c : MemoryView V) (seat : ℕ) (row : RoomyLog V) : Type 0 where
  pub view : memory_of cells rows ≡ c
  pub kept : IsConsistent (memory_of cells rows)
  pub within : seat < length c.rows
  pub read : row ≡ get_or rows seat row

pub opened : {V : Type 0} {c : MemoryView V} {seat : ℕ} {row : RoomyLog V} (cells : List (Cell V)) (rows : List (RoomyLog V))
    → memory_of cells rows ≡ c → IsConsistent (memory_of cells rows) → seat < length c.rows → row ≡ get_or rows seat row
    → Opened cells rows c seat row
opened cells rows view kept within read = record { view = view; kept = kept; within = within; read = read }

module _ {V : Type 0} {cells : List (Cell V)} {rows : List (RoomyLog V)} {c : MemoryView V} {seat : ℕ} {row : RoomyLog V} (o : Opened cells rows c seat row) where
  pub kept_in : IsConsistent c
  kept_in = subst IsConsistent o.view o.kept

  in_rows : seat < length rows
  in_rows = let e = ap (λ (x : MemoryView V). length x.rows) o.view in omega (arith, length-map rows without_room, e, o.within)

  pub row_in : row_at (map without_room rows) seat ≡ without_room row
  row_in = row_read rows seat row in_rows ∙ ap without_room (sym o.read)

  pub log_in : IsLogOf seat cells row.undos
  log_in = subst (λ (n : Log V). IsLogOf seat cells n.undos) row_in (o.kept.logs seat)

  pub reads_in : All (λ note. note.loc.0 < length cells) row.reads
  reads_in = subst (λ (n : Log V). All (λ note. note.loc.0 < length cells) n.reads) row_in (o.kept.reads seat)

  -- what is so of the fields is so of what contracts see
  pub told : (P : List (Cell V) → Log V → Type 0) → P cells (without_room row) → P c.cells (row_at c.rows seat)
  told P p = subst (λ (x : MemoryView V). P x.cells (row_at x.rows seat)) o.view (subst (P cells) (sym row_in) p)

  -- the seat's call made these of the cells and of its row
  pub seen : (new : List (Cell V)) (later : RoomyLog V) (f : List (Cell V) → Log V → List (Cell V)) (n : List (Cell V) → Log V → Log V)
      → new ≡ f cells (without_room row) → without_room later ≡ n cells (without_room row)
      → memory_of new (set rows seat later) ≡ by_seat seat (f c.cells (row_at c.rows seat)) (n c.cells (row_at c.rows seat)) c
  seen new later f n cells_are notes_are =
      seen_by_seat new cells rows seat later (n cells (without_room row)) notes_are
      ∙ ap (λ x. by_seat seat x (n cells (without_room row)) (memory_of cells rows)) cells_are
      ∙ ap (λ x. by_seat seat (f cells x) (n cells x) (memory_of cells rows)) (sym row_in)
      ∙ ap (λ (x : MemoryView V). by_seat seat (f x.cells (row_at x.rows seat)) (n x.cells (row_at x.rows seat)) x) o.view

  -- it changed nothing but room
  pub seen_as_before : (new : List (Cell V)) (later : RoomyLog V) → new ≡ cells → without_room later ≡ without_room row
      → memory_of new (set rows seat later) ≡ c
  seen_as_before new later cells_are notes_are =
      ap (λ x. memory_of x (set rows seat later)) cells_are
      ∙ seen_same cells rows seat later row in_rows (notes_are ∙ ap without_room o.read) ∙ o.view
