-- The state of a runtime: all that its events change.
use Rattle.std.specs.Prelude.{ℕ, ℤ, List, [], Option, None}
use Rattle.ame_term.specs.Signature.{Signature}
use Rattle.ame_term.specs.Tree.{Val, Tree}
use Rattle.ame_store.specs.declared.cell.Cell.{Cell}
use Rattle.ame_protocol.specs.declared.types.Limits.{Limits}
use Rattle.ame_protocol.specs.Row.Heap.{cell_at}
use Rattle.ame_protocol.specs.Engine.Parts.{Parts, heap_in}
use Rattle.ame_protocol.specs.Engine.Events.{started}
use Rattle.ame_protocol.specs.Visits.Opened.{opened}
use Rattle.ame_journal.specs.declared.entry.Entry.{Entry}
use Rattle.ame_pool.specs.Roster.{Roster}
use Rattle.ame_journal.specs.declared.certificate.Certificate.{Certificate}
use Rattle.ame_protocol.specs.declared.counters.Counters.{Counters}
use Rattle.ame_protocol.specs.declared.stop.Stop.{Stop}
use Rattle.ame_protocol.specs.Event.Counting.{nothing_counted}

-- A state has the parts (journal, memory, tasks of the seats, pool of members), the number of events of each kind, the stop that is kept,
-- if any, and the certificates of blocked members.
pub record EngineState : Type 0 where
  pub parts : Parts
  pub counters : Counters
  pub stop : Option Stop
  pub certificates : List Certificate

-- Returns the state of a program that has just started. The program is member 0, and each seat is idle.
abbrev pub started_state : Tree → Signature → Limits → EngineState
started_state program signature limits = record { parts = started program signature limits 0; counters = nothing_counted; stop = None; certificates = [] }

-- Returns the state of a program that is opened from a base. Nothing is counted, and no stop is kept.
abbrev pub opened_state : Tree → Signature → Limits → List Entry → List (Cell Val) → Roster Tree → List ℤ → ℕ → EngineState
opened_state program signature limits base cells pool output next =
    record { parts = opened program signature limits base cells pool output next; counters = nothing_counted; stop = None; certificates = [] }

-- Returns the cell at a location.
abbrev pub cell : EngineState → ℕ → Cell Val
cell s l = cell_at (heap_in s.parts) l
