-- An engine that is opened from a base: entries that were made before.
use Rattle.std.specs.Prelude.{◌≡◌, ◌<◌, ◌≤◌, ℕ, ℤ, All, List, [], Option, Some, None, length, map, replicate, slice_index_or, false, if◌then◌else◌}
use Rattle.ame_term.specs.Signature.{Signature, MayStore}
use Rattle.ame_term.specs.Tree.{Typ, Val, Tree}
use Rattle.ame_term.specs.Maps.{at}
use Rattle.ame_term.specs.State.{State}
use Rattle.ame_laws.specs.Typed.StoreTyping.{StoreTyping}
use Rattle.ame_store.specs.declared.cell.Cell.{Cell}
use Rattle.ame_store.specs.Cells.{IsFree, IsDead}
use Rattle.ame_journal.specs.declared.entry.Entry.{Entry}
use Rattle.ame_journal.specs.Replayed.{Replayed, is_inside}
use Rattle.ame_pool.specs.Roster.{Roster}
use Rattle.ame_pool.specs.Calls.{machine_of}
use Rattle.ame_pool.specs.Keeps.{is_inside_at}
use Rattle.ame_pool.specs.Members.{IsRising}
use Rattle.ame_pool.specs.declared.member.MemberStanding.{MemberStanding}
use Rattle.ame_rows.specs.MemoryView.{no_log}
use Rattle.ame_protocol.specs.Row.Heap.{no_cell, IsLive}
use Rattle.ame_protocol.specs.declared.types.Limits.{Limits}
use Rattle.ame_protocol.specs.declared.types.Task.{Task}
use Rattle.ame_protocol.specs.Engine.Parts.{Parts}
use Rattle.ame_protocol.specs.Engine.Simulates.{most_opened}

-- an engine with a base, cells, members, an output and a next number; no turn is used, and each seat is idle
abbrev pub opened : Tree → Signature → Limits → List Entry → List (Cell Val) → Roster Tree → List ℤ → ℕ → Parts
opened program signature limits base cells pool output next = record {
  program = program;
  signature = signature;
  limits = limits;
  base = base;
  entries = [];
  memory = record { cells = cells; rows = replicate limits.seats no_log };
  tasks = replicate limits.seats Task.Idle;
  pool = pool;
  output = output;
  next = next;
  turns = 0;
  tried = [];
  stopped = false;
}

-- the cell at a location
abbrev pub cell_of : List (Cell Val) → ℕ → Cell Val
cell_of cells l = slice_index_or cells l no_cell

-- Returns the value that a store has for a cell: the value of a live cell.
abbrev pub stored_in : Cell Val → Option Val
stored_in cell = if cell.live then Some cell.value else None

-- Cells with which an engine may be opened from a state, whose locations have these types. No seat owns one, and none was
-- written. The live ones are the store, each with the sort of its location, and the `ref` form with its number may store what is of
-- the location's type; a dead one copies a live one.
pub record AreOpened (signature : Signature) (types : StoreTyping) (cells : List (Cell Val)) (s : State) : Type 0 where
  pub few : length cells ≤ most_opened
  pub free : (l : ℕ) → IsFree (cell_of cells l)
  pub unwritten : (l : ℕ) → (cell_of cells l).number ≡ 0
  pub stored : (l : ℕ) → at s.store l ≡ stored_in (cell_of cells l)
  pub sorts : (l : ℕ) → IsLive (cell_of cells l) → (content : Typ) × (types l ≡ Some ((cell_of cells l).sort, content))
      × MayStore signature.refs (cell_of cells l).ty.0 content
  pub copied : ℕ
  pub copies : (l : ℕ) → l < length cells → IsDead (cell_of cells l)
      → IsLive (cell_of cells copied) × ((cell_of cells l).sort ≡ (cell_of cells copied).sort)
      × ((cell_of cells l).value ≡ (cell_of cells copied).value) × ((cell_of cells l).ty ≡ (cell_of cells copied).ty)

-- a pool has the members of a state, and the same ones are inside
pub record HasMembersOf (r : Replayed) (pool : Roster Tree) : Type 0 where
  pub members : (i : ℕ) → at r.state.members i ≡ machine_of i pool
  pub inside : (i : ℕ) → is_inside r i ≡ is_inside_at pool.members i

-- all members are ready in order of their numbers, and none was rolled back
pub record AreAllReady {M : Type 0} (pool : Roster M) : Type 0 where
  pub rising : IsRising pool.members
  pub ready : All (λ m. (m.standing ≡ MemberStanding.Ready) × (m.rollbacks ≡ 0)) pool.members
  pub order : pool.order ≡ map (λ m. m.number) pool.members
