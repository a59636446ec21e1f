-- The number of times that a member turns back.
use Rattle.std.specs.Prelude.{◌≡◌, ◌≢◌, ℕ, ◌≤◌, ◌==◌, ◌++◌, Bool, false, List, All, count_by}
use Rattle.ame_pool.specs.Standings.{max_rollbacks}
use Rattle.ame_protocol.specs.Event.Event.{Event}
use Rattle.ame_protocol.specs.Event.Runs.{entries_along}

-- Returns whether a seat with this member turns back.
abbrev pub turns_back : ℕ → Event → Bool
turns_back number (Event.TurnBack seat attempt why) = attempt.tried.number == number
turns_back number _ = false

-- No entry of a run is an entry of this member.
abbrev pub HasNoEntryOf : ℕ → List Event → Type 0
HasNoEntryOf number events = All (λ entry. entry.number ≢ number) (entries_along events)

-- Wherever a run has no entry of a member, that member turns back at most as often as one is rolled back before it begins alone.
abbrev pub TurnsBackSeldom : List Event → Type 0
TurnsBackSeldom events =
    (number : ℕ) (before between behind : List Event) → events ≡ before ++ (between ++ behind) → HasNoEntryOf number between
    → count_by (turns_back number) between ≤ max_rollbacks
