-- The picks of a run, as a picture shows them.
use Rattle.std.specs.Prelude.{ℕ, ◌+◌, ◌-◌, max, if◌then◌else◌, Bool, true, false, List, length, slice_get, Option, Some, None, unwrap_or}
use Rattle.ame_journal.specs.declared.entry.Entry.{Entry}
use Rattle.ame_journal.specs.declared.entry.EntryKind.{EntryKind}
use Rattle.ame_shell.specs.declared.work.Outcome.{Outcome}
use Rattle.ame_sim.specs.declared.made.Made.{Made}
use Rattle.ame_sim.specs.declared.picked.Picked.{Picked}
use Rattle.ame_drawing.specs.declared.pick.Did.{Did}
use Rattle.ame_drawing.specs.declared.pick.DrawnPick.{DrawnPick}

-- what a seat did, by the outcome of its turn; the last entry cut a member off, or it didn't
abbrev pub did_of : Bool → Outcome → Did
did_of cut Outcome.Began = Did.Began
did_of cut Outcome.Waited = Did.Idled
did_of cut Outcome.Stopped = Did.Idled
did_of cut Outcome.Read = Did.Read
did_of cut Outcome.Wrote = Did.Wrote
did_of cut (Outcome.Met owner) = Did.Met owner
did_of cut Outcome.Allocated = Did.Allocated
did_of cut Outcome.Checked = Did.Checked
did_of cut (Outcome.FoundInvalid bad) = Did.FoundInvalid
did_of cut Outcome.Ended = Did.Ended
did_of cut Outcome.Left = Did.Left
did_of cut (Outcome.Refused bad) = Did.FoundInvalid
did_of cut Outcome.Noted = Did.Noted
did_of cut (Outcome.NotNoted bad) = Did.FoundInvalid
did_of cut Outcome.GrewTall = Did.GrewTall
did_of cut (Outcome.NotTall bad) = Did.FoundInvalid
did_of cut Outcome.CameHome = Did.CameHome
did_of cut (Outcome.DeviceFailed device) = Did.DeviceFailed device
did_of cut Outcome.Spent = if cut then Did.Cut else Did.Spent
did_of cut Outcome.Undid = Did.Undid
did_of cut Outcome.WentHome = Did.WentHome
did_of cut Outcome.Lacked = Did.Idled

-- a pick with its outcome
abbrev pub shown : Bool → Made → DrawnPick
shown cut made = record { seat = made.seat; member = unwrap_or made.member 0; did = did_of cut made.outcome; place = made.place }

abbrev pub is_cut_kind : EntryKind → Bool
is_cut_kind EntryKind.Cut = true
is_cut_kind _ = false

abbrev pub is_cut_at : Option Entry → Bool
is_cut_at None = false
is_cut_at (Some entry) = is_cut_kind entry.kind

-- whether the last entry cut a member off
abbrev pub is_cut : List Entry → Bool
is_cut entries = is_cut_at (slice_get entries (length entries - 1))

-- how many seats there are, if there are at least n
abbrev pub seats_with : ℕ → Picked → ℕ
seats_with n pick = max n (pick.seat + 1)
