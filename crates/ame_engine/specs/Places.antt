-- The places that tries need.
use Rattle.std.specs.Prelude.{ℕ, ◌+◌, ◌≤◌, Bool, false, not, List, count_by}
use Rattle.ame_protocol.specs.declared.types.Task.{Task}

-- Returns whether a seat has an attempt at work that has no entry.
abbrev pub is_untold : Task → Bool
is_untold Task.Idle = false
is_untold (Task.Running attempt) = not attempt.logged
is_untold (Task.Free attempt) = not attempt.logged
is_untold (Task.Undoing attempt reason) = not attempt.logged

-- A list with these numbers of attempts and of places has a free place for each such seat.
abbrev pub HasPlacesFor : List Task → ℕ → ℕ → Type 0
HasPlacesFor tasks tries places = tries + count_by is_untold tasks ≤ places
