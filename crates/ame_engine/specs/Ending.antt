-- The state of an engine at its end, and the facts that it shows.
use Rattle.std.specs.Prelude.{◌≡◌, ℕ, ℤ, ◌<◌, ◌≤◌, ◌++◌, ◌↔◌, List, [], ◌∷◌, map, All, Contains, Option, Some, None, IsSome, option_map, slice_get, if◌then◌else◌}
use Rattle.ame_term.specs.Tree.{Typ, Val, Tree}
use Rattle.ame_term.specs.Signature.{Signature}
use Rattle.ame_term.specs.declared.types.Sort.{Sort}
use Rattle.ame_laws.specs.Typed.StoreTyping.{StoreTyping}
use Rattle.ame_laws.specs.Typed.TypedState.{IsTyped}
use Rattle.ame_term.specs.Maps.{at}
use Rattle.ame_term.specs.State.{State}
use Rattle.ame_store.specs.declared.cell.Cell.{Cell}
use Rattle.ame_store.specs.Cells.{IsFree}
use Rattle.ame_journal.specs.declared.entry.Entry.{Entry}
use Rattle.ame_journal.specs.Replayed.{Replayed}
use Rattle.ame_journal.specs.Replay.{replay}
use Rattle.ame_protocol.specs.Row.Shown.{shown_cell}
use Rattle.ame_protocol.specs.declared.types.Limits.{Limits}
use Rattle.ame_protocol.specs.declared.types.Tried.{Tried}
use Rattle.ame_protocol.specs.Waits.Certificates.{IsCertificate}
use Rattle.ame_protocol.specs.Waits.Once.{IsNotedOnce}
use Rattle.ame_protocol.specs.Visits.Opened.{cell_of, stored_in}
use Rattle.ame_journal.specs.declared.certificate.Certificate.{Certificate}
use Rattle.ame_protocol.specs.declared.counters.Counters.{Counters}
use Rattle.ame_protocol.specs.declared.stop.Stop.{Stop}
use Rattle.ame_machine.specs.RefSorts.{IsRefForm}
use Rattle.ame_engine.specs.Core.{Core}
use Rattle.ame_protocol.specs.Event.Faults.{ComesToCall}
use Rattle.ame_protocol.specs.Event.Causes.{NotesStop}
use Rattle.ame_protocol.specs.Event.Counting.{CountsTurns}
use Rattle.ame_protocol.specs.Event.Lone.{IsUndisturbed}
use Rattle.ame_protocol.specs.Event.Bounds.{HasBounds}

-- An end has the limits and the entries with which the engine was opened, the entries that it added, its cells, its output, the number of
-- turns, the counts of each kind, the attempts that left no entry, the stop that was kept, and the certificates that each member is
-- blocked, if that is the stop.
pub record End (V : Type 0) : Type 0 where
  pub limits : Limits
  pub base : List Entry
  pub entries : List Entry
  pub cells : List (Cell V)
  pub output : List ℤ
  pub turns : ℕ
  pub counters : Counters
  pub tried : List Tried
  pub stop : Option Stop
  pub certificates : List Certificate

abbrev pub end_of : {C V M : Type 0} → Core C V M → End V
end_of core = record {
  limits = core.limits;
  base = core.base;
  entries = core.entries;
  cells = core.memory.cells;
  output = core.output;
  turns = core.turns;
  counters = core.counters;
  tried = core.tried;
  stop = core.stop;
  certificates = core.certificates;
}

-- An end shows its limits and its counts: these are the limits, each turn is in one count, and the turns are at most those of the limits.
pub record ShowsCounts (limits : Limits) {V : Type 0} (end : End V) : Type 0 where
  pub limited : end.limits ≡ limits
  pub counts : CountsTurns end.turns end.counters
  pub most : end.turns ≤ limits.turns

-- Each number is below those after it.
abbrev pub Rise : List ℕ → Type 0
Rise [] = Unit {0}
Rise (n ∷ ns) = All (λ k. n < k) ns × Rise ns

-- There is one certificate a member of a state, in order of their numbers, and each certificate holds in the state.
pub record CertifyAll (s : State) (certificates : List Certificate) : Type 0 where
  pub hold : All (λ c. IsCertificate s c.number c.steps c.fresh) certificates
  pub rise : Rise (map (λ c. c.number) certificates)
  pub members : (number : ℕ) → IsSome (at s.members number) ↔ Contains (map (λ c. c.number) certificates) number
  pub some : certificates ≡ [] → ⊥

-- A stop has its cause in the state that is left.
pub record HasStopped (limits : Limits) (r : Replayed) {V : Type 0} (end : End V) : Type 0 where
  pub finished : end.stop ≡ Some Stop.Finished → r.state.members ≡ []
  pub blocked : end.stop ≡ Some Stop.Blocked → CertifyAll r.state end.certificates
  pub untold : (end.stop ≡ Some Stop.Blocked → ⊥) → end.certificates ≡ []
  pub spent : end.stop ≡ Some Stop.Spent → (end.turns ≡ limits.turns) × (r.state.members ≡ [] → ⊥)
  pub failed : (device : ℕ) → end.stop ≡ Some (Stop.DeviceFault device) → ComesToCall r device
  pub ends : NotesStop end.stop end.entries

-- Returns the sort of a live cell, and the type that the `ref` form with its number stores, by the list of these types.
abbrev pub type_in : List Typ → Cell Val → Option (Sort × Typ)
type_in refs cell = if cell.live then option_map (λ t. (cell.sort, t)) (slice_get refs cell.ty.0) else None

-- Returns the types of locations by their cells.
abbrev pub types_in : List Typ → List (Cell Val) → StoreTyping
types_in refs cells l = type_in refs (cell_of cells l)

-- The base and the journal replay to a state whose store is what the live cells have, and whose output is what was printed. No
-- cell has an owner, and each has the number of a `ref` form of its sort; the state is typed with what these forms store. No member
-- is noted twice without a commit between, and the stop has its cause in the state. Limits and counts are shown. With one seat nothing
-- was met that another seat did. Rollbacks and tries are few, and entries and tries pay for the turns.
pub record IsEnd (program : Tree) (signature : Signature) (limits : Limits) {V : Type 0} (value : V → Val) (end : End V) : Type 0 where
  pub r : Replayed
  pub replays : replay program (end.base ++ end.entries) ≡ Some r
  pub store : (l : ℕ) → at r.state.store l ≡ stored_in (cell_of (map (shown_cell value) end.cells) l)
  pub printed : r.state.output ≡ end.output
  pub free : All IsFree end.cells
  pub forms : All (λ cell. IsRefForm program cell.sort cell.ty.0) end.cells
  pub typed : (refs : List Typ) → signature.refs ≡ Some refs → IsTyped signature (types_in refs (map (shown_cell value) end.cells)) r.state
  pub once : IsNotedOnce (end.base ++ end.entries)
  pub stopped : HasStopped limits r end
  pub shown : ShowsCounts limits end
  pub lone : limits.seats ≡ 1 → IsUndisturbed end.counters
  pub bounds : HasBounds program limits r end.base end.entries end.turns end.counters end.tried end.stop
