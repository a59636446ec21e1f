-- The ways in which the row of a seat is undone.
use Rattle.std.specs.Prelude.{ℕ, Bool, true, false}
use Rattle.ame_pool.specs.declared.member.Member.{Member}
use Rattle.ame_pool.specs.Roster.{Roster}
use Rattle.ame_pool.specs.Calls.{is_running, is_noted, home, parked}
use Rattle.ame_protocol.specs.declared.types.UndoReason.{UndoReason}
use Rattle.ame_protocol.specs.declared.types.Task.{Task}

-- Returns whether a seat undoes a row.
abbrev pub is_undoing : Task → Bool
is_undoing (Task.Undoing attempt reason) = true
is_undoing _ = false

-- Returns why the work of a seat is undone: the reason for which it turned back or is noted, or otherwise that a stop is kept.
abbrev pub reason_to_undo : Task → UndoReason
reason_to_undo (Task.Undoing attempt reason) = reason
reason_to_undo _ = UndoReason.Stopped

module _ {M : Type 0} where
  -- Returns whether a member is busy and goes home for this reason.
  abbrev pub is_busy_for : UndoReason → Member M → Bool
  is_busy_for UndoReason.RolledBack = is_running
  is_busy_for UndoReason.Noted = is_noted
  is_busy_for UndoReason.Stopped = is_running

  -- Returns the pool after the member has gone home for this reason.
  abbrev pub home_for : UndoReason → ℕ → Roster M → Roster M
  home_for UndoReason.RolledBack number pool = home number true pool
  home_for UndoReason.Noted number pool = parked number pool
  home_for UndoReason.Stopped number pool = home number false pool
