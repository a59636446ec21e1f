-- The simulation that each engine keeps.
use Rattle.std.specs.Prelude.{◌≡◌, ℕ, ◌+◌, ◌*◌, ◌≤◌, All, MatchOption, Some, length}
use Rattle.ame_term.specs.Tree.{Val}
use Rattle.ame_term.specs.State.{State}
use Rattle.ame_term.specs.declared.types.Sort.{Sort}
use Rattle.ame_laws.specs.Typed.StoreTyping.{StoreTyping}
use Rattle.ame_store.specs.declared.cell.Cell.{Cell}
use Rattle.ame_store.specs.Cells.{IsFree}
use Rattle.ame_journal.specs.Replayed.{Replayed}
use Rattle.ame_rows.specs.Consistent.{IsConsistent}
use Rattle.ame_protocol.specs.Row.Heap.{cell_at, IsLive}
use Rattle.ame_protocol.specs.Row.TypedHeap.{IsTypedHeap}
use Rattle.ame_protocol.specs.Row.Scoped.{IsTypedNow}
use Rattle.ame_protocol.specs.Engine.Parts.{Parts, heap_in, task_at, member_of}
use Rattle.ame_protocol.specs.Engine.StandsFor.{StandsFor}
use Rattle.ame_protocol.specs.Engine.Tasks.{IsSoundIn, MeetsTask}

-- All cells are typed, with any owner. The state is typed by the live cells. A live cell of unprotected code has no owner.
pub record IsTypedIn (parts : Parts) (types : StoreTyping) (s : State) : Type 0 where
  pub heap : IsTypedHeap parts.signature types (heap_in parts)
  pub now : IsTypedNow parts.signature types (heap_in parts) s
  pub shared : (l : ℕ) → IsLive (cell_at (heap_in parts) l) → (cell_at (heap_in parts) l).sort ≡ Sort.Unprotected
      → IsFree (cell_at (heap_in parts) l)

-- a cell's number is far from growing too high: at most two for each turn, also when its owner lets it go
abbrev pub HasFewChanges : ℕ → Cell Val → Type 0
HasFewChanges turns cell = MatchOption cell.owner (cell.number ≤ 2 * turns) (λ _. cell.number + 1 ≤ 2 * turns)

-- the most cells that an engine is opened with
abbrev pub most_opened : ℕ
most_opened = 4000000

-- the numbers of an engine
pub record IsBounded (parts : Parts) : Type 0 where
  pub turns : parts.turns ≤ parts.limits.turns
  pub numbers : (l : ℕ) → HasFewChanges parts.turns (cell_at (heap_in parts) l)
  pub cells : length parts.memory.cells ≤ parts.turns + most_opened
  pub rows : length parts.memory.rows ≡ parts.limits.seats
  pub tasks : length parts.tasks ≡ parts.limits.seats

-- no two seats have one member
abbrev pub AreApart : Parts → Type 0
AreApart parts = (seat other i : ℕ) → member_of (task_at parts.tasks seat) ≡ Some i → member_of (task_at parts.tasks other) ≡ Some i → seat ≡ other

-- The engine stands for the state to which its journal leads. Cells and logs say the same; each seat meets its task; all is
-- typed, for some types of locations; and all tries are sound.
pub record Simulates (parts : Parts) : Type 0 where
  pub r : Replayed
  pub types : StoreTyping
  pub stands : StandsFor parts r
  pub typed : IsTypedIn parts types r.state
  pub consistent : IsConsistent parts.memory
  pub seats : (seat : ℕ) → MeetsTask parts types seat (task_at parts.tasks seat)
  pub apart : AreApart parts
  pub bounded : IsBounded parts
  pub sound : All (IsSoundIn parts) parts.tried
