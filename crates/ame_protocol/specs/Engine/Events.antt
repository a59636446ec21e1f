-- The parts of an engine after each event of a seat.
use Rattle.std.specs.Prelude.{ℕ, ◌+◌, Bool, true, false, List, [], ◌∷◌, ◌++◌, None, length, replicate, slice_set, if◌then◌else◌}
use Rattle.ame_term.specs.Signature.{Signature}
use Rattle.ame_term.specs.Tree.{Val, Tree}
use Rattle.ame_term.specs.declared.types.Loc.{Loc}
use Rattle.ame_term.specs.declared.types.Sort.{Sort}
use Rattle.ame_term.specs.declared.types.TyNo.{TyNo}
use Rattle.ame_journal.specs.declared.entry.Entry.{Entry}
use Rattle.ame_journal.specs.declared.entry.EntryKind.{EntryKind}
use Rattle.ame_pool.specs.Roster.{Roster}
use Rattle.ame_pool.specs.Calls.{newcomer, joined, held, home, exchanged, removed, parked, woken}
use Rattle.ame_pool.specs.Keeps.{is_inside_at}
use Rattle.ame_machine.specs.Run.Local.{LocalState}
use Rattle.ame_rows.specs.MemoryView.{MemoryView, no_log}
use Rattle.ame_rows.specs.Access.{written_by, allocated_by}
use Rattle.ame_rows.specs.LettingGo.{undone_last, released_all}
use Rattle.ame_protocol.specs.declared.types.Limits.{Limits}
use Rattle.ame_protocol.specs.declared.types.Tried.{Tried}
use Rattle.ame_protocol.specs.declared.types.Attempt.{Attempt}
use Rattle.ame_protocol.specs.declared.types.UndoReason.{UndoReason}
use Rattle.ame_protocol.specs.declared.types.Task.{Task}
use Rattle.ame_protocol.specs.Engine.Logged.{read_by}
use Rattle.ame_protocol.specs.Engine.Parts.{Parts, whole_journal}

-- one more turn
abbrev pub one_turn : Parts → Parts
one_turn parts = record parts { turns = parts.turns + 1 }

-- another memory
abbrev pub with_memory : MemoryView Val → Parts → Parts
with_memory memory parts = record parts { memory = memory }

-- another task of a seat
abbrev pub with_task : ℕ → Task → Parts → Parts
with_task seat task parts = record parts { tasks = slice_set parts.tasks seat task }

-- Start and begin

-- an engine that has just started: the program is member 0
abbrev pub started : Tree → Signature → Limits → ℕ → Parts
started program signature limits room = record {
  program = program;
  signature = signature;
  limits = limits;
  base = [];
  entries = [];
  memory = record { cells = []; rows = replicate limits.seats no_log };
  tasks = replicate limits.seats Task.Idle;
  pool = record { members = newcomer 0 program false ∷ []; order = 0 ∷ []; room = room };
  output = [];
  next = 1;
  turns = 0;
  tried = [];
  stopped = false;
}

-- an attempt of a member that begins after these entries
abbrev pub attempt_after : ℕ → List Entry → Attempt
attempt_after number entries = record { tried = record { number = number; at = length entries; steps = 0 }; logged = false }

-- an attempt of a member that begins now
abbrev pub fresh_attempt : ℕ → Parts → Attempt
fresh_attempt number parts = attempt_after number (whole_journal parts)

-- the task of a seat that begins a member, by whether the member is inside
abbrev pub begun_task : Bool → Attempt → Task
begun_task true attempt = Task.Free attempt
begun_task false attempt = Task.Running attempt

-- a seat begins a member
abbrev pub has_begun : ℕ → ℕ → Parts → Parts
has_begun seat number parts =
    let task = begun_task (is_inside_at parts.pool.members number) (fresh_attempt number parts) in
    one_turn (with_task seat task (record parts { pool = held number parts.pool }))

-- Reads, writes and allocations

abbrev pub has_read : ℕ → Loc → Parts → Parts
has_read seat l parts = one_turn (with_memory (read_by seat l parts.memory) parts)

abbrev pub has_written : ℕ → Loc → Val → Parts → Parts
has_written seat l v parts = one_turn (with_memory (written_by seat l v Val.Unit parts.memory) parts)

abbrev pub has_allocated : ℕ → Sort → TyNo → Val → Parts → Parts
has_allocated seat sort ty v parts = one_turn (with_memory (allocated_by seat sort ty v (Val.Loc (length parts.memory.cells)) parts.memory) parts)

-- Checks, and the way back

-- the attempt after a valid check
abbrev pub checked_attempt : ℕ → Attempt → Parts → Attempt
checked_attempt steps attempt parts = record attempt { tried = record attempt.tried { at = length (whole_journal parts); steps = steps } }

-- A check found the row valid, after this number of steps of its run.
abbrev pub has_checked : ℕ → ℕ → Attempt → Parts → Parts
has_checked seat steps attempt parts = one_turn (with_task seat (Task.Running (checked_attempt steps attempt parts)) parts)

-- a seat turns back: its write met another seat's cell, or one of its reads isn't valid
abbrev pub has_turned_back : ℕ → Attempt → Parts → Parts
has_turned_back seat attempt parts = one_turn (with_task seat (Task.Undoing attempt UndoReason.RolledBack) parts)

-- a stop is kept
abbrev pub has_stopped : Parts → Parts
has_stopped parts = record parts { stopped = true }

-- an undo counts while no stop is kept
abbrev pub undo_turn : Parts → Parts
undo_turn parts = if parts.stopped then parts else one_turn parts

-- the last entry is undone, and others are left
abbrev pub has_undone : ℕ → Attempt → UndoReason → Parts → Parts
has_undone seat attempt reason parts = undo_turn (with_task seat (Task.Undoing attempt reason) (with_memory (undone_last seat parts.memory) parts))

-- a member goes home, by the reason for which its row was undone
abbrev pub brought_home : UndoReason → ℕ → Roster Tree → Roster Tree
brought_home UndoReason.RolledBack number pool = home number true pool
brought_home UndoReason.Noted number pool = parked number pool
brought_home UndoReason.Stopped number pool = home number false pool

-- Returns the attempts without an entry, with this one if it has none.
abbrev pub with_try : Attempt → List Tried → List Tried
with_try attempt tried = if attempt.logged then tried else tried ++ attempt.tried ∷ []

-- nothing is left to undo, and the member goes home
abbrev pub has_gone_home : ℕ → Attempt → UndoReason → Parts → Parts
has_gone_home seat attempt reason parts =
    undo_turn (with_task seat Task.Idle (record parts {
      memory = undone_last seat parts.memory;
      pool = brought_home reason attempt.tried.number parts.pool;
      tried = with_try attempt parts.tried;
    }))

-- Commits

-- the members that watch these locations are woken, one location after another
abbrev pub woken_for : {M : Type 0} → List ℕ → Roster M → Roster M
woken_for [] pool = pool
woken_for (l ∷ ls) pool = woken_for ls (woken l pool)

-- new members join, with the next numbers in order
abbrev pub with_newcomers : ℕ → List Tree → Roster Tree → Roster Tree
with_newcomers next [] pool = pool
with_newcomers next (body ∷ bodies) pool = with_newcomers (next + 1) bodies (joined (newcomer next body false) pool)

-- the entry of a row that has come to a place
abbrev pub ran_entry : ℕ → ℕ → ℕ → LocalState → Entry
ran_entry seat number steps p =
    record { kind = EntryKind.Ran; seat = seat; number = number; steps = steps; fresh = p.fresh; answer = None }

-- A seat's row is committed at a place of its run: its cells are released and those that watch these locations woken; the
-- prints join the output, an entry the journal, and the new members the pool.
abbrev pub with_commit : ℕ → ℕ → ℕ → LocalState → List ℕ → Parts → Parts
with_commit seat number steps p ls parts = record parts {
  memory = released_all seat parts.memory;
  pool = with_newcomers parts.next p.spawns (woken_for ls parts.pool);
  output = parts.output ++ p.prints;
  entries = parts.entries ++ ran_entry seat number steps p ∷ [];
  next = parts.next + length p.spawns;
}

-- its member has ended
abbrev pub has_ended : ℕ → ℕ → ℕ → LocalState → List ℕ → Parts → Parts
has_ended seat number steps p ls parts =
    let later = with_commit seat number steps p ls parts in
    one_turn (with_task seat Task.Idle (record later { pool = removed number later.pool }))

-- or has come to `unprotected`
abbrev pub has_left : ℕ → ℕ → ℕ → LocalState → List ℕ → Parts → Parts
has_left seat number steps p ls parts =
    let later = with_commit seat number steps p ls parts in
    one_turn (with_task seat Task.Idle (record later { pool = exchanged number p.term true later.pool }))
