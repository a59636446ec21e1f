-- Entries that don't depend on each other.
use Rattle.std.specs.Prelude.{◌≡◌, ◌≢◌, ◌⊎◌, ℕ, ◌+◌, false, [], IsSome, Some, None}
use Rattle.std.specs.List.{AllByRecursion}
use Rattle.ame_term.specs.Context.{focus}
use Rattle.ame_term.specs.Frame.{Side}
use Rattle.ame_term.specs.Maps.{at}
use Rattle.ame_term.specs.State.{closed_value}
use Rattle.ame_journal.specs.declared.entry.Entry.{Entry}
use Rattle.ame_journal.specs.declared.entry.EntryKind.{EntryKind}
use Rattle.ame_journal.specs.Replayed.{Replayed}
use Rattle.ame_journal.specs.Replay.{replay_entry}
use Rattle.ame_journal.specs.Totals.{is_note}
use Rattle.ame_machine.specs.Run.Local.{LocalState}
use Rattle.ame_machine.specs.Run.Told.{TellsRun}

-- The entry is this run of its member in a replayed state. It has the steps of the run, and one more if it closes the
-- `unprotected` to whose value the run has come.
pub record IsOfRun (r : Replayed) (entry : Entry) (p : LocalState) : Type 0 where
  pub side : Side
  pub steps : ℕ
  pub tells : TellsRun r entry side steps p
  pub count : (entry.steps ≡ steps) ⊎ ((entry.kind ≡ EntryKind.Free) × (entry.steps ≡ steps + 1) × (entry.answer ≡ None) × IsSome (closed_value (focus p.term)))

-- a run neither took nor set what is stored at a location
abbrev pub LeavesAlone : ℕ → LocalState → Type 0
LeavesAlone l p = (at p.sets l ≡ None) × AllByRecursion (λ e. e.0 ≢ l) p.seen

-- Neither run took or set what the other set. At most one of them printed, at most one started fragments, and at
-- most one called a device.
pub record AreIndependent (p q : LocalState) : Type 0 where
  pub first : (l : ℕ) → IsSome (at p.sets l) → LeavesAlone l q
  pub second : (l : ℕ) → IsSome (at q.sets l) → LeavesAlone l p
  pub prints : (p.prints ≡ []) ⊎ (q.prints ≡ [])
  pub starts : (p.spawns ≡ []) ⊎ (q.spawns ≡ [])
  pub calls : (p.answer ≡ None) ⊎ (q.answer ≡ None)

-- Two neighbours of a journal that may be swapped: no notes, and entries of different members. The second member is there
-- before the first entry, and their runs don't depend on each other.
pub record MaySwap (r : Replayed) (a b : Entry) : Type 0 where
  pub first_plain : is_note a.kind ≡ false
  pub second_plain : is_note b.kind ≡ false
  pub apart : a.number ≢ b.number
  pub there : IsSome (at r.state.members b.number)
  pub between : Replayed
  pub replays : replay_entry r a ≡ Some between
  pub p : LocalState
  pub q : LocalState
  pub first : IsOfRun r a p
  pub second : IsOfRun between b q
  pub alone : AreIndependent p q
