-- Members that wait.
use Rattle.std.specs.Prelude.{◌≡◌, ℕ, ◌==◌, ◌&&◌, Bool, true, false, cond, List, [], ◌∷◌, Option, Some, None, option_and_then}
use Rattle.ame_term.specs.Tree.{Tree}
use Rattle.ame_journal.specs.declared.entry.Entry.{Entry}
use Rattle.ame_journal.specs.declared.entry.EntryKind.{EntryKind}
use Rattle.ame_journal.specs.Replay.{or_else}
use Rattle.ame_pool.specs.declared.member.MemberStanding.{MemberStanding}
use Rattle.ame_pool.specs.Members.{find}
use Rattle.ame_pool.specs.Roster.{Roster}
use Rattle.ame_pool.specs.Calls.{machine_of}
use Rattle.ame_machine.specs.Run.Local.{LocalState}
use Rattle.ame_protocol.specs.Row.SeatRun.{SeatRun}
use Rattle.ame_protocol.specs.Row.Waiting.{IsWaiting}
use Rattle.ame_protocol.specs.declared.types.Task.{Task}
use Rattle.ame_protocol.specs.Engine.Parts.{Parts, whole_journal, heap_in, task_at, member_of}

-- the locations for which a member waits, if it waits: it is parked, or was noted and is untouched since
abbrev pub watch_list : MemberStanding → Option (List ℕ)
watch_list MemberStanding.Ready = None
watch_list (MemberStanding.Busy None) = None
watch_list (MemberStanding.Busy (Some watch)) = cond watch.touched None (Some watch.locs)
watch_list (MemberStanding.Parked locs) = Some locs

-- the same of the member with a number
abbrev pub watched_by : ℕ → Roster Tree → Option (List ℕ)
watched_by number pool = option_and_then (λ member. watch_list member.standing) (find number pool.members)

-- whether entries of a kind note that a member came to a condition that is false
abbrev pub is_stuck : EntryKind → Bool
is_stuck EntryKind.Ran = false
is_stuck EntryKind.Free = false
is_stuck EntryKind.Stuck = true
is_stuck EntryKind.Cut = false
is_stuck EntryKind.Tall = false

-- the last such note of a member
abbrev pub last_stuck : ℕ → List Entry → Option Entry
last_stuck number [] = None
last_stuck number (entry ∷ entries) =
    or_else (last_stuck number entries) (cond (is_stuck entry.kind && (entry.number == number)) (Some entry) None)

-- no seat but this one has the member at work, if any has
abbrev pub MayHave : List Task → ℕ → ℕ → Type 0
MayHave tasks seat number = (other : ℕ) → member_of (task_at tasks other) ≡ Some number → other ≡ seat

-- A member's last note records a run from the member's term that failed at a condition, with the note's steps and fresh locations. The run
-- still waits for the watched locations, seen from the seat that has the member, or from any seat if no seat has it.
pub record HasFailed (parts : Parts) (number : ℕ) (watched : List ℕ) : Type 0 where
  pub note : Entry
  pub last : last_stuck number (whole_journal parts) ≡ Some note
  pub run : SeatRun
  pub start : machine_of number parts.pool ≡ Some run.start
  pub place : LocalState
  pub fresh : note.fresh ≡ place.fresh
  pub waits : (seat : ℕ) → MayHave parts.tasks seat number → IsWaiting (heap_in parts) seat watched run note.steps place

-- so it is of each member that waits
pub record AreWaiting (parts : Parts) : Type 0 where
  pub failed : (number : ℕ) (watched : List ℕ) → watched_by number parts.pool ≡ Some watched → HasFailed parts number watched
