-- An engine as contracts see it.
use Rattle.std.specs.Prelude.{ℕ, ℤ, List, Option}
use Rattle.ame_journal.specs.declared.entry.Entry.{Entry}
use Rattle.ame_pool.specs.Roster.{Roster}
use Rattle.ame_rows.specs.MemoryView.{MemoryView}
use Rattle.ame_protocol.specs.declared.types.Limits.{Limits}
use Rattle.ame_protocol.specs.declared.types.Tried.{Tried}
use Rattle.ame_protocol.specs.declared.types.Task.{Task}
use Rattle.ame_journal.specs.declared.certificate.Certificate.{Certificate}
use Rattle.ame_protocol.specs.declared.stop.Stop.{Stop}
use Rattle.ame_protocol.specs.declared.counters.Counters.{Counters}

-- The code, the limits and the entries from which it was opened stay. The rest are the journal, the memory with its cells and the logs of
-- each seat, the task of each seat, the members with their machines, the output and its text as bytes, the next member's number, the number
-- of turns, the counts of each kind, the attempts that left no entry, the stop that is kept, and the certificates that each member is
-- blocked, if that is the stop.
pub record Core (C V M : Type 0) : Type 0 where
  pub code : C
  pub limits : Limits
  pub base : List Entry
  pub entries : List Entry
  pub memory : MemoryView V
  pub tasks : List Task
  pub pool : Roster M
  pub output : List ℤ
  pub text : List ℕ
  pub next : ℕ
  pub turns : ℕ
  pub counters : Counters
  pub tried : List Tried
  pub stop : Option Stop
  pub certificates : List Certificate
