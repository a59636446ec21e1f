-- The number of rollbacks of members, and why rows are undone.
use Rattle.std.specs.Prelude.{◌≡◌, ℕ, ◌+◌, ◌*◌, ◌<◌, ◌≤◌, true, List, length, All, IsSomeAnd, option_map, unwrap_or}
use Rattle.std.specs.List.{sum_by}
use Rattle.ame_term.specs.Tree.{Tree}
use Rattle.ame_pool.specs.declared.member.Member.{Member}
use Rattle.ame_pool.specs.Members.{find}
use Rattle.ame_pool.specs.Roster.{Roster}
use Rattle.ame_pool.specs.Standings.{max_rollbacks}
use Rattle.ame_protocol.specs.declared.types.UndoReason.{UndoReason}
use Rattle.ame_protocol.specs.declared.types.Task.{Task}
use Rattle.ame_protocol.specs.Engine.Parts.{Parts, task_at}
use Rattle.ame_protocol.specs.Bounds.Seats.{over_seats}

-- how often all members together were rolled back, each since its last entry
abbrev pub rollbacks_in : List (Member Tree) → ℕ
rollbacks_in members = sum_by (λ m. m.rollbacks) members

-- how often the member with a number was, if there is one
abbrev pub rollbacks_at : ℕ → Roster Tree → ℕ
rollbacks_at number pool = unwrap_or (option_map (λ m. m.rollbacks) (find number pool.members)) 0

module _ {M : Type 0} where
  -- it may be rolled back once more
  abbrev pub MayTurnBack : ℕ → Roster M → Type 0
  MayTurnBack number pool = IsSomeAnd (find number pool.members) (λ m. m.rollbacks < max_rollbacks)

  -- no member was rolled back more often than it may be
  abbrev pub IsWithinRollbacks : Roster M → Type 0
  IsWithinRollbacks pool = All (λ m. m.rollbacks ≤ max_rollbacks) pool.members

-- A row that is undone has its reason: its member may be rolled back once more, an entry was added for it, or a stop is kept.
abbrev pub HasReason : Parts → Task → Type 0
HasReason parts (Task.Undoing attempt UndoReason.RolledBack) = MayTurnBack attempt.tried.number parts.pool
HasReason parts (Task.Undoing attempt UndoReason.Noted) = attempt.logged ≡ true
HasReason parts (Task.Undoing attempt UndoReason.Stopped) = parts.stopped ≡ true
HasReason parts _ = Unit {0}

-- Returns one if a seat brings home a member that turned back and whose rollback isn't counted yet.
abbrev pub turning_back : Task → ℕ
turning_back (Task.Undoing attempt UndoReason.RolledBack) = 1
turning_back _ = 0

-- This number of answers turned members back. It is at most the sum of three: the most rollbacks of a member for each entry, the rollbacks
-- of the members since their last entries, and one for each seat that brings such a member home.
abbrev pub AreRefusedRarely : ℕ → Parts → Type 0
AreRefusedRarely refused parts =
    refused ≤ max_rollbacks * length parts.entries
    + (rollbacks_in parts.pool.members + over_seats parts.limits.seats (λ seat. turning_back (task_at parts.tasks seat)))
