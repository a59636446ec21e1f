-- A member that is about to become a value nested too deeply.
use Rattle.std.specs.Prelude.{◌≡◌, ℕ, true, List, length, None}
use Rattle.ame_term.specs.State.{State}
use Rattle.ame_journal.specs.declared.entry.Entry.{Entry}
use Rattle.ame_journal.specs.declared.entry.EntryKind.{EntryKind}
use Rattle.ame_journal.specs.Labels.{made_by}
use Rattle.ame_journal.specs.Replay.{attempt}
use Rattle.ame_journal.specs.Replayed.{has_such, side_at, is_tall}
use Rattle.ame_runner.specs.declared.trial.TriedOut.{TriedOut}

-- the note of it: this number of steps of the member lead there, which make these locations, in order
abbrev pub tall_note : ℕ → ℕ → List ℕ → Entry
tall_note i n fresh = record { kind = EntryKind.Tall; seat = 0; number = i; steps = n; fresh = fresh; answer = None }

-- Such a note holds in a state: the fragment of the member, or its steps under `unprotected`, come to a form that would
-- become a value too high by one.
pub record IsTallIn (s : State) (entry : Entry) : Type 0 where
  pub note : entry ≡ tall_note entry.number entry.steps entry.fresh
  pub comes : has_such (is_tall (side_at entry.number s) entry.number) (attempt entry.number entry.steps entry.fresh s) ≡ true

-- the note of a fragment of member i that was tried out
abbrev pub IsTallOf : ℕ → TriedOut → Entry → Type 0
IsTallOf i a entry = entry ≡ tall_note i (length a.kinds.items) (made_by a.kinds.items)
