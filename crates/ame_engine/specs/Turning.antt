-- Seats that turn back.
use Rattle.std.specs.Prelude.{◌≡◌, ℕ}
use Rattle.ame_store.specs.Cells.{IsOwnedBy}
use Rattle.ame_rows.specs.Valid.{IsValid}
use Rattle.ame_rows.specs.MemoryView.{row_at}
use Rattle.ame_machine.specs.Meaning.{Meaning}
use Rattle.ame_protocol.specs.declared.counters.Counters.{Counters}
use Rattle.ame_protocol.specs.Event.Counting.{Counted, one_counted, one_invalid}
use Rattle.ame_protocol.specs.Event.Event.{Find, Reverse}
use Rattle.ame_protocol.specs.Event.EngineState.{cell}
use Rattle.ame_engine.specs.declared.engine.turn.Setback.{Setback}
use Rattle.ame_engine.specs.declared.engine.turn.Setback.TheVariants as setback
use Rattle.ame_engine.specs.Core.{Core}
use Rattle.ame_engine.specs.Makes.{state_of}

-- Returns why it turns back, as the event says it.
abbrev pub reverse_of : Setback → Reverse
reverse_of (setback.Conflict l owner) = Reverse.Met l owner
reverse_of setback.Check = Reverse.Stale Find.Check
reverse_of setback.Commit = Reverse.Stale Find.Commit
reverse_of setback.Block = Reverse.Stale Find.Block
reverse_of setback.Tall = Reverse.Stale Find.Tall

-- Returns the counters after the seat has turned back.
abbrev pub counted_at : Setback → Counters → Counters
counted_at (setback.Conflict l owner) counters = one_counted Counted.Conflict counters
counted_at setback.Check counters = one_invalid Counted.Check counters
counted_at setback.Commit counters = one_invalid Counted.Commit counters
counted_at setback.Block counters = one_invalid Counted.Block counters
counted_at setback.Tall counters = one_invalid Counted.Tall counters

module _ {C V M : Type 0} (meaning : Meaning C V M) where
  -- The setback is so: another seat owns the cell, or a logged read isn't valid.
  abbrev pub HasMet : Core C V M → ℕ → Setback → Type 0
  HasMet core seat (setback.Conflict l owner) = IsOwnedBy owner (cell (state_of meaning core) l.0) × (owner ≡ seat → ⊥)
  HasMet core seat _ = IsValid core.memory.cells seat (row_at core.memory.rows seat).reads → ⊥
