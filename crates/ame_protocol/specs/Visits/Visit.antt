-- A visit of a member that is inside, and what it makes of an engine.
use Rattle.std.specs.Prelude.{◌≡◌, ◌<◌, ℕ, ◌+◌, ℤ, Bool, true, false, [], ◌∷◌, ◌++◌, length, Some}
use Rattle.ame_term.specs.Tree.{Val, Tree}
use Rattle.ame_term.specs.Frame.{Side}
use Rattle.ame_term.specs.Context.{focus, fill}
use Rattle.ame_term.specs.Act.{Act}
use Rattle.ame_term.specs.State.{closed_value}
use Rattle.ame_journal.specs.declared.entry.Entry.{Entry}
use Rattle.ame_journal.specs.declared.entry.EntryKind.{EntryKind}
use Rattle.ame_pool.specs.Calls.{exchanged, home}
use Rattle.ame_machine.specs.Run.Local.{LocalState, fed, refilled_in, local}
use Rattle.ame_rows.specs.MemoryView.{MemoryView}
use Rattle.ame_protocol.specs.Row.SeatRun.{IsAtAct}
use Rattle.ame_protocol.specs.declared.types.Task.{Task}
use Rattle.ame_protocol.specs.Engine.Parts.{Parts, term_at}
use Rattle.ame_protocol.specs.Engine.Events.{one_turn, with_task, has_stopped, with_newcomers}
use Rattle.ame_protocol.specs.Visits.ByAct.{IsGivenBy, memory_after}

-- the same place of a run, once the value there has taken the place of `unprotected`
abbrev pub closed_at : Val → LocalState → LocalState
closed_at v p = record p { term = fill p.term (Tree.Held v) }

-- the place after a call of a device that was given this answer
abbrev pub answered_at : ℤ → LocalState → LocalState
answered_at answer p = refilled_in p.term (Tree.Held (Val.Int answer), record p { answer = Some answer })

-- This number of steps of a member, from the term that the pool has of it, leads to a place.
abbrev pub StepsTo : Parts → ℕ → ℕ → LocalState → Type 0
StepsTo parts number n p = local Side.Unprotected (term_at parts.pool number) [] n ≡ Some p

-- A visit comes to a number of steps, a place of the member's run, whether the member is still inside, and a shared memory. It makes steps,
-- and then one act with the value that it is given, or the step by which it closes, or neither.
pub data IsVisit (parts : Parts) (number : ℕ) : ℕ → LocalState → Bool → MemoryView Val → Type 0 where
  stepped : (n : ℕ) (p : LocalState) → 0 < n → StepsTo parts number n p → IsVisit parts number n p true parts.memory
  acted : (n : ℕ) (p : LocalState) (act : Act) (v : Val) (made : Tree × LocalState) → StepsTo parts number n p
      → IsAtAct Side.Unprotected act p → IsGivenBy parts.memory act v → fed act Side.Unprotected v p ≡ Some made
      → IsVisit parts number (n + 1) (refilled_in p.term made) true (memory_after act parts.memory)
  closed : (n : ℕ) (p : LocalState) (v : Val) → StepsTo parts number n p → closed_value (focus p.term) ≡ Some v
      → IsVisit parts number (n + 1) (closed_at v p) false parts.memory

-- the entry of a visit that came to a place
abbrev pub free_entry : ℕ → ℕ → ℕ → LocalState → Entry
free_entry seat number steps p =
    record { kind = EntryKind.Free; seat = seat; number = number; steps = steps; fresh = p.fresh; answer = p.answer }

-- A seat's visit has come to a place, with a shared memory. An entry joins the journal, a print the output, and a new member the pool;
-- the member goes home with the term of the place, inside or not.
abbrev pub has_visited : ℕ → ℕ → ℕ → LocalState → Bool → MemoryView Val → Parts → Parts
has_visited seat number steps p inside memory parts = one_turn (with_task seat Task.Idle (record parts {
  memory = memory;
  pool = exchanged number p.term inside (with_newcomers parts.next p.spawns parts.pool);
  output = parts.output ++ p.prints;
  entries = parts.entries ++ free_entry seat number steps p ∷ [];
  next = parts.next + length p.spawns;
}))

-- A device refused the call of a visit: the member goes home as it was begun, and a stop is kept.
abbrev pub has_been_refused : ℕ → ℕ → Parts → Parts
has_been_refused seat number parts =
    has_stopped (one_turn (with_task seat Task.Idle (record parts { pool = home number false parts.pool })))
