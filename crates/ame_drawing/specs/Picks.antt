-- The outcome of a pick.
use Rattle.std.specs.Prelude.{ℕ, ◌==◌, ◌&&◌, Bool, true, false, Option, Some, None}
use Rattle.ame_journal.specs.declared.entry.EntryKind.{EntryKind}
use Rattle.ame_drawing.specs.declared.pick.Did.{Did}
use Rattle.ame_drawing.specs.declared.pick.DrawnPick.{DrawnPick}

-- whether the seat has a member at work
abbrev pub is_work : Did → Bool
is_work Did.Idled = false
is_work _ = true

-- whether the member isn't at work any more
abbrev pub is_last : Did → Bool
is_last Did.Ended = true
is_last Did.Left = true
is_last Did.CameHome = true
is_last (Did.DeviceFailed device) = true
is_last Did.WentHome = true
is_last _ = false

-- the kind of the entry that it made, if it made one
abbrev pub kind_made : Did → Option EntryKind
kind_made Did.Ended = Some EntryKind.Ran
kind_made Did.Left = Some EntryKind.Ran
kind_made Did.CameHome = Some EntryKind.Free
kind_made Did.Noted = Some EntryKind.Stuck
kind_made Did.GrewTall = Some EntryKind.Tall
kind_made Did.Cut = Some EntryKind.Cut
kind_made _ = None

-- whether this seat has a member at work in the pick
abbrev pub is_work_of : ℕ → DrawnPick → Bool
is_work_of seat pick = pick.seat == seat && is_work pick.did

-- whether a pick writes to a location, or makes it
abbrev pub is_write : Did → Bool
is_write Did.Wrote = true
is_write Did.Allocated = true
is_write _ = false

abbrev pub is_place : ℕ → Option ℕ → Bool
is_place place None = false
is_place place (Some other) = other == place

abbrev pub is_write_to : ℕ → DrawnPick → Bool
is_write_to place pick = is_write pick.did && is_place place pick.place

abbrev pub is_read : Did → Bool
is_read Did.Read = true
is_read _ = false

-- whether a pick reads this location
abbrev pub is_read_of : ℕ → DrawnPick → Bool
is_read_of place pick = is_read pick.did && is_place place pick.place

-- whether what this seat owns ends with a pick
abbrev pub is_release_of : ℕ → DrawnPick → Bool
is_release_of seat pick = pick.seat == seat && is_last pick.did
