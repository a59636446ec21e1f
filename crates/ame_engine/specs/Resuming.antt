-- Engines that go on from a base.
use Rattle.std.specs.Prelude.{◌≡◌, ℕ, ◌-◌, ◌<◌, ◌≤◌, List, [], ◌∷◌, ◌++◌, All, length, map, take, get_or, Option, Some, None, false}
use Rattle.ame_term.specs.Tree.{Val, Tree}
use Rattle.ame_term.specs.Maps.{at}
use Rattle.ame_laws.specs.Typed.StoreTyping.{StoreTyping}
use Rattle.ame_laws.specs.Typed.TypedState.{IsTyped}
use Rattle.ame_journal.specs.declared.entry.Entry.{Entry}
use Rattle.ame_journal.specs.Replayed.{Replayed}
use Rattle.ame_journal.specs.Replay.{replay}
use Rattle.ame_journal.specs.Totals.{is_note}
use Rattle.ame_machine.specs.Meaning.{Meaning}
use Rattle.ame_machine.specs.MachineView.{MachineView}
use Rattle.ame_check.specs.declared.stored.Stored.{Stored}
use Rattle.ame_check.specs.Judge.{IsPlace, IsTooHighAt}
use Rattle.ame_store.specs.declared.cell.Cell.{Cell}
use Rattle.ame_store.specs.Changes.{made}
use Rattle.ame_pool.specs.Roster.{Roster}
use Rattle.ame_pool.specs.Calls.{newcomer}
use Rattle.ame_protocol.specs.declared.types.Limits.{Limits}
use Rattle.ame_protocol.specs.Engine.Simulates.{most_opened}
use Rattle.ame_protocol.specs.Visits.Opened.{AreOpened, AreAllReady, HasMembersOf}
use Rattle.ame_protocol.specs.Event.EngineState.{opened_state}
use Rattle.ame_engine.specs.Core.{Core}
use Rattle.ame_engine.specs.Makes.{state_of}
use Rattle.ame_engine.specs.declared.resume_fail.ResumeFail.{ResumeFail}
use Rattle.ame_engine.specs.declared.resume_fail.ResumeFail.TheVariants as fail

-- No entry is a note.
abbrev pub AreActs : List Entry → Type 0
AreActs entries = All (λ entry. is_note entry.kind ≡ false) entries

-- An engine has cells for the new locations of an entry.
abbrev pub IsNear : Entry → Type 0
IsNear entry = All (λ l. l < most_opened) entry.fresh

-- The n-th entry is the first for which an engine has no cells.
pub record IsFar (base : List Entry) (n : ℕ) : Type 0 where
  pub place : IsPlace base n
  pub before : All IsNear (take (n - 1) base)
  pub entry : Entry
  pub is_entry : take n base ≡ take (n - 1) base ++ entry ∷ []
  pub far : IsNear entry → ⊥

-- Why no engine goes on from a base

abbrev pub FailsToResume : Tree → List Entry → ResumeFail → Type 0
FailsToResume program base (fail.Far n) = IsFar base n
FailsToResume program base (fail.Tall n) = All IsNear base × IsTooHighAt program base n
FailsToResume program base fail.NoMemory = Unit {0}

-- Cells of a replay

module _ {V : Type 0} (same : V → V → Type 0) where
  -- The cell at a location has the content of that location in a replay. If the replay has no such location, it is a dead copy of the first
  -- cell.
  abbrev pub IsCellOf : Option (Stored V) → Option (Stored V) → Cell V → Type 0
  IsCellOf first (Some stored) cell = cell ≡ made stored.sort stored.number stored.value None
  IsCellOf (Some first) None cell = (v : V) × same first.value v × (cell ≡ record (made first.sort first.number v None) { live = false })
  IsCellOf None None cell = ⊥

  -- These are the cells of a replay, up to its greatest location.
  pub record AreCellsOf (stored : List (ℕ × Stored V)) (cells : List (Cell V)) : Type 0 where
    pub least : ℕ
    pub each : (l : ℕ) (d : Cell V) → l < length cells → IsCellOf (at stored least) (at stored l) (get_or cells l d)
    pub within : (l : ℕ) (cell : Stored V) → at stored l ≡ Some cell → l < length cells
    pub few : length cells ≤ most_opened

-- These are the members of a replay, all of them ready in order of their numbers.
pub record AreMembersOf {C M : Type 0} (stage : C → M → MachineView) (code : C) (members : List (ℕ × M)) (pool : Roster M) : Type 0 where
  pub all : pool.members ≡ map (λ member. newcomer member.0 member.1 (stage code member.1).inside) members
  pub ready : AreAllReady pool

-- An engine that continues from a base has the state to which the base leads, with all members ready and each seat idle. Nothing is
-- counted.
pub record HasResumed {C V M : Type 0} (meaning : Meaning C V M) (limits : Limits) (base : List Entry) (core : Core C V M) : Type 0 where
  pub led : Replayed
  pub replayed : replay (meaning.program core.code) base ≡ Some led
  pub types : StoreTyping
  pub typed : IsTyped (meaning.signature core.code) types led.state
  pub cells : List (Cell Val)
  pub has_cells : AreOpened (meaning.signature core.code) types cells led.state
  pub pool : Roster Tree
  pub has_members : HasMembersOf led pool
  pub ready : AreAllReady pool
  pub state : state_of meaning core ≡ opened_state (meaning.program core.code) (meaning.signature core.code) limits base cells pool led.state.output led.state.next
