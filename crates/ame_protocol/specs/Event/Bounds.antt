-- Bounds that each engine keeps, and their consequences at its end.
use Rattle.std.specs.Prelude.{◌≡◌, ℕ, ◌+◌, ◌*◌, ◌≤◌, List, [], ◌++◌, true, length, All, Option, Some, None}
use Rattle.ame_term.specs.Tree.{Tree}
use Rattle.ame_journal.specs.declared.entry.Entry.{Entry}
use Rattle.ame_journal.specs.Replayed.{Replayed}
use Rattle.ame_pool.specs.Standings.{max_rollbacks}
use Rattle.ame_protocol.specs.Row.Tries.{IsSoundTry}
use Rattle.ame_protocol.specs.declared.types.Attempt.{Attempt}
use Rattle.ame_protocol.specs.declared.types.Limits.{Limits}
use Rattle.ame_protocol.specs.declared.types.Tried.{Tried}
use Rattle.ame_protocol.specs.Engine.Parts.{Parts, task_at, attempt_of}
use Rattle.ame_protocol.specs.Bounds.FewRollbacks.{HasFewRollbacks}
use Rattle.ame_protocol.specs.Bounds.Spent.{paid, HasPaidTurns}
use Rattle.ame_protocol.specs.Bounds.Tries.{HasFewTries}
use Rattle.ame_protocol.specs.Bounds.Untried.{IsUntried}
use Rattle.ame_protocol.specs.declared.counters.Counters.{Counters}
use Rattle.ame_protocol.specs.declared.stop.Stop.{Stop}

-- Returns the number of answers that turned a member back: another seat owned a cell, or a read wasn't valid.
abbrev pub refusals : Counters → ℕ
refusals counters = counters.conflicts + counters.invalids

-- The turns are paid, unless a device failed.
abbrev pub ArePaid : Option Stop → Parts → Type 0
ArePaid (Some (Stop.DeviceFault device)) parts = Unit {0}
ArePaid _ parts = HasPaidTurns parts

-- There is no attempt without an entry while no stop is kept, nor if the turns are used up.
abbrev pub IsUntriedUntil : Option Stop → Parts → Type 0
IsUntriedUntil None parts = IsUntried parts
IsUntriedUntil (Some Stop.Spent) parts = IsUntried parts
IsUntriedUntil _ parts = Unit {0}

-- Rollbacks and tries are few, the turns are paid, and with one seat there is no try.
pub record KeepsBounds (stop : Option Stop) (counters : Counters) (parts : Parts) : Type 0 where
  pub few : HasFewRollbacks (refusals counters) parts
  pub paid : ArePaid stop parts
  pub untried : parts.limits.seats ≡ 1 → IsUntriedUntil stop parts

-- If this stop is kept, no attempt is left without an entry: with one seat and the turns used up, an entry was added for each attempt at
-- work.
abbrev pub LeavesNoTry : Stop → Parts → Type 0
LeavesNoTry Stop.Spent parts =
    parts.limits.seats ≡ 1 → (seat : ℕ) (attempt : Attempt) → attempt_of (task_at parts.tasks seat) ≡ Some attempt → attempt.logged ≡ true
LeavesNoTry _ parts = Unit {0}

-- The bounds for a base, the entries that were added to it, and the attempts that left none, which lead to a state. The answers that turned
-- members back are at most eight for each member that there ever was and for each entry. Each member has few attempts without an entry, and
-- each of them was legal steps of a member from the state of the journal then. If the turns are used up, entries and attempts pay for them,
-- and with one seat there is no such attempt.
pub record HasBounds (program : Tree) (limits : Limits) (r : Replayed) (base entries : List Entry) (turns : ℕ) (counters : Counters)
    (tried : List Tried) (stop : Option Stop) : Type 0 where
  pub rollbacks : refusals counters ≤ max_rollbacks * (r.state.next + length entries)
  pub tries : HasFewTries limits.seats entries tried
  pub sound : All (λ t. IsSoundTry program (base ++ entries) t.number t.at t.steps) tried
  pub spent : stop ≡ Some Stop.Spent → turns ≤ paid limits.slice entries tried
  pub untried : limits.seats ≡ 1 → stop ≡ Some Stop.Spent → tried ≡ []
