-- The number of attempts of each member that left no entry.
use Rattle.std.specs.Prelude.{◌≡◌, ℕ, ◌+◌, ◌*◌, ◌≤◌, ◌==◌, false, List, [], length, Some}
use Rattle.std.specs.List.{count_by}
use Rattle.ame_journal.specs.declared.entry.Entry.{Entry}
use Rattle.ame_pool.specs.Standings.{max_rollbacks}
use Rattle.ame_protocol.specs.declared.types.Tried.{Tried}
use Rattle.ame_protocol.specs.declared.types.Task.{Task}
use Rattle.ame_protocol.specs.Engine.Parts.{Parts, task_at, member_of}
use Rattle.ame_protocol.specs.Bounds.Seats.{over_seats}
use Rattle.ame_protocol.specs.Bounds.Rollbacks.{rollbacks_at}

-- the tries of a member
abbrev pub tries_of : ℕ → List Tried → ℕ
tries_of number tried = count_by (λ t. t.number == number) tried

-- its entries
abbrev pub entries_of : ℕ → List Entry → ℕ
entries_of number entries = count_by (λ e. e.number == number) entries

-- how often a number is in a list
abbrev pub times : ℕ → List ℕ → ℕ
times number numbers = count_by (λ n. n == number) numbers

-- Returns one if a seat has a member at work.
abbrev pub at_work : Task → ℕ
at_work Task.Idle = 0
at_work _ = 1

-- The list has the late members, whose rows a stop emptied. The attempts of each member are at most its possible rollbacks for each of its
-- entries, its rollbacks since the last entry, and one more if it is late. No member is late before a stop, and none is listed twice. No
-- late member is at work, and there are at most as many of them as seats without work.
pub record AreTriesFew (late : List ℕ) (parts : Parts) : Type 0 where
  pub few : (i : ℕ) → tries_of i parts.tried ≤ max_rollbacks * entries_of i parts.entries + (rollbacks_at i parts.pool + times i late)
  pub calm : parts.stopped ≡ false → late ≡ []
  pub once : (i : ℕ) → times i late ≤ 1
  pub away : (seat i : ℕ) → member_of (task_at parts.tasks seat) ≡ Some i → times i late ≡ 0
  pub room : length late + over_seats parts.limits.seats (λ seat. at_work (task_at parts.tasks seat)) ≤ parts.limits.seats

-- The attempts of each member are at most its possible rollbacks for each of its entries and once more. A late member may have one attempt
-- more. There is at most one late member a seat.
pub record HasFewTries (seats : ℕ) (entries : List Entry) (tried : List Tried) : Type 0 where
  pub late : List ℕ
  pub seats_enough : length late ≤ seats
  pub apart : (i : ℕ) → times i late ≤ 1
  pub few : (i : ℕ) → tries_of i tried ≤ max_rollbacks * (entries_of i entries + 1) + times i late
