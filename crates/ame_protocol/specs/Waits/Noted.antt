-- A seat's member has come to a condition that is false.
use Rattle.std.specs.Prelude.{ℕ, true, [], ◌∷◌, ◌++◌, None}
use Rattle.ame_journal.specs.declared.entry.Entry.{Entry}
use Rattle.ame_journal.specs.declared.entry.EntryKind.{EntryKind}
use Rattle.ame_pool.specs.Calls.{noted}
use Rattle.ame_machine.specs.Run.Local.{LocalState}
use Rattle.ame_rows.specs.MemoryView.{row_at}
use Rattle.ame_protocol.specs.Row.Waiting.{read_places}
use Rattle.ame_protocol.specs.declared.types.Attempt.{Attempt}
use Rattle.ame_protocol.specs.declared.types.UndoReason.{UndoReason}
use Rattle.ame_protocol.specs.declared.types.Task.{Task}
use Rattle.ame_protocol.specs.Engine.Parts.{Parts}
use Rattle.ame_protocol.specs.Engine.Events.{one_turn, with_task}

-- Returns the note of a row that came to such a condition after these steps.
abbrev pub stuck_entry : ℕ → ℕ → ℕ → LocalState → Entry
stuck_entry seat number steps p =
    record { kind = EntryKind.Stuck; seat = seat; number = number; steps = steps; fresh = p.fresh; answer = None }

-- The note joins the journal as the attempt's entry, the member watches the locations that its row read, and the row is to be undone.
abbrev pub has_noted : ℕ → Attempt → ℕ → LocalState → Parts → Parts
has_noted seat attempt steps p parts =
    one_turn (with_task seat (Task.Undoing (record attempt { logged = true }) UndoReason.Noted) (record parts {
      entries = parts.entries ++ stuck_entry seat attempt.tried.number steps p ∷ [];
      pool = noted attempt.tried.number (read_places (row_at parts.memory.rows seat).reads) parts.pool;
    }))
