-- The obligations of an engine for each seat, by the seat's task.
use Rattle.std.specs.Prelude.{◌≡◌, ℕ, ◌*◌, ◌≤◌, Bool, true, false, All, Some, if◌then◌else◌}
use Rattle.ame_term.specs.Tree.{Tree}
use Rattle.ame_pool.specs.declared.member.Member.{Member}
use Rattle.ame_pool.specs.Calls.{IsAt, is_running, is_noted, inside_of}
use Rattle.ame_laws.specs.Typed.StoreTyping.{StoreTyping}
use Rattle.ame_rows.specs.MemoryView.{no_log, row_at}
use Rattle.ame_protocol.specs.Row.SeatRun.{IsSomewhere}
use Rattle.ame_protocol.specs.Row.Owes.{Owes}
use Rattle.ame_protocol.specs.Row.TypedHeap.{IsTypedUndo, IsTypedRun}
use Rattle.ame_protocol.specs.Row.Scoped.{IsScoped}
use Rattle.ame_protocol.specs.Row.Tries.{IsSoundTry}
use Rattle.ame_protocol.specs.declared.types.Tried.{Tried}
use Rattle.ame_protocol.specs.declared.types.Attempt.{Attempt}
use Rattle.ame_protocol.specs.declared.types.UndoReason.{UndoReason}
use Rattle.ame_protocol.specs.declared.types.Task.{Task}
use Rattle.ame_protocol.specs.Engine.Parts.{Parts, whole_journal, heap_in, run_in}

-- a member is busy, and noted as stuck or not
abbrev pub is_busy_as : Bool → Member Tree → Bool
is_busy_as noted member = if noted then is_noted member else is_running member

-- whether a row that is undone for this reason has a noted member
abbrev pub is_noted_for : UndoReason → Bool
is_noted_for UndoReason.RolledBack = false
is_noted_for UndoReason.Noted = true
is_noted_for UndoReason.Stopped = false

-- a try that leaves no entry is sound
abbrev pub IsSoundIn : Parts → Tried → Type 0
IsSoundIn parts tried = IsSoundTry parts.program (whole_journal parts) tried.number tried.at tried.steps

-- a seat has a member at work: it is busy, the try is sound, and its steps are few
pub record HasAtWork (parts : Parts) (noted : Bool) (attempt : Attempt) : Type 0 where
  pub busy : IsAt (is_busy_as noted) attempt.tried.number parts.pool
  pub sound : IsSoundIn parts attempt.tried
  pub few : attempt.tried.steps ≤ parts.limits.slice * parts.turns

module _ (parts : Parts) (types : StoreTyping) (seat : ℕ) where
  -- Protected code is run: the member isn't inside, and its run stands somewhere, owes what it owes, is typed by all cells and,
  -- while its reads are valid, by what it reaches.
  pub record RunsProtected (attempt : Attempt) : Type 0 where
    pub work : HasAtWork parts false attempt
    pub outside : inside_of attempt.tried.number parts.pool ≡ Some false
    pub somewhere : IsSomewhere (run_in parts seat attempt.tried.number)
    pub owes : Owes (heap_in parts) seat (run_in parts seat attempt.tried.number)
    pub typed : IsTypedRun parts.signature types (run_in parts seat attempt.tried.number)
    pub scoped : IsScoped parts.signature types (heap_in parts) seat (run_in parts seat attempt.tried.number)

  -- unprotected code is run, which nothing is logged of: the member is inside
  pub record Visits (attempt : Attempt) : Type 0 where
    pub work : HasAtWork parts false attempt
    pub inside : inside_of attempt.tried.number parts.pool ≡ Some true
    pub clear : row_at parts.memory.rows seat ≡ no_log

  -- protected code is undone: what is left to undo is typed
  pub record Undoes (attempt : Attempt) (reason : UndoReason) : Type 0 where
    pub work : HasAtWork parts (is_noted_for reason) attempt
    pub outside : inside_of attempt.tried.number parts.pool ≡ Some false
    pub undos : All (IsTypedUndo parts.signature types) (row_at parts.memory.rows seat).undos

  -- so it is by the task
  abbrev pub MeetsTask : Task → Type 0
  MeetsTask Task.Idle = row_at parts.memory.rows seat ≡ no_log
  MeetsTask (Task.Running attempt) = RunsProtected attempt
  MeetsTask (Task.Free attempt) = Visits attempt
  MeetsTask (Task.Undoing attempt reason) = Undoes attempt reason
