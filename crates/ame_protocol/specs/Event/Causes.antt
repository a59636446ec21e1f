-- Why an engine has stopped, and what it reports then.
use Rattle.std.specs.Prelude.{◌≡◌, ℕ, ◌⊎◌, Bool, true, false, List, [], ◌∷◌, ◌++◌, map, All, Option, Some, None}
use Rattle.ame_journal.specs.declared.entry.Entry.{Entry}
use Rattle.ame_journal.specs.declared.entry.EntryKind.{EntryKind}
use Rattle.ame_pool.specs.declared.oldest.Oldest.{Oldest}
use Rattle.ame_pool.specs.Begin.{oldest}
use Rattle.ame_protocol.specs.Engine.Parts.{Parts, whole_journal}
use Rattle.ame_protocol.specs.Waits.Waiting.{last_stuck}
use Rattle.ame_journal.specs.declared.certificate.Certificate.{Certificate}
use Rattle.ame_protocol.specs.declared.stop.Stop.{Stop}
use Rattle.ame_protocol.specs.Event.Faults.{LeadsToCall}

-- Certificates that members are blocked

-- Returns the note that a member came to a condition that is false, as a certificate.
abbrev pub certificate_of : ℕ → Entry → Certificate
certificate_of number note = record { number = number; steps = note.steps; fresh = note.fresh }

-- Returns the last such notes of members with these numbers.
abbrev pub certificates_of : List Entry → List ℕ → List Certificate
certificates_of journal [] = []
certificates_of journal (number ∷ numbers) = elim (last_stuck number journal) [
  | None ↦ certificates_of journal numbers
  | Some note ↦ certificate_of number note ∷ certificates_of journal numbers
]

-- Returns the certificates of all members, in order of their numbers.
abbrev pub certificates_in : Parts → List Certificate
certificates_in parts = certificates_of (whole_journal parts) (map (λ m. m.number) parts.pool.members)

-- The certificates are reported if all members are blocked.
abbrev pub certificates_for : Option Stop → Parts → List Certificate
certificates_for (Some Stop.Blocked) parts = certificates_in parts
certificates_for _ parts = []

-- Why it has stopped

-- Returns whether a stop comes from outside. An engine finds the other stops itself.
abbrev pub is_from_outside : Stop → Bool
is_from_outside Stop.NoMemory = true
is_from_outside Stop.WriteFault = true
is_from_outside _ = false

-- Returns whether only an event of a seat keeps this stop: the event of a value nested too deeply, or of a device that fails.
abbrev pub only_seats_keep : Stop → Bool
only_seats_keep (Stop.Tall number) = true
only_seats_keep (Stop.DeviceFault device) = true
only_seats_keep _ = false

-- Members are left, and the turns are used up.
pub record IsUsedUp (parts : Parts) : Type 0 where
  pub turns : parts.turns ≡ parts.limits.turns
  pub left : parts.pool.members ≡ [] → ⊥

-- The cause of a stop that an engine finds itself. For a device that failed, a member comes to its call by steps that its term alone
-- determines.
abbrev pub IsCause : Option Stop → Parts → Type 0
IsCause (Some Stop.Finished) parts = parts.pool.members ≡ []
IsCause (Some Stop.Blocked) parts = oldest parts.pool ≡ Oldest.Parked
IsCause (Some Stop.Spent) parts = IsUsedUp parts
IsCause (Some (Stop.DeviceFault device)) parts = LeadsToCall parts device
IsCause _ parts = Unit {0}

-- The last note

-- Returns whether an entry of this kind may come anywhere. The other kinds note the place of a member as the engine stopped.
abbrev pub is_ordinary : EntryKind → Bool
is_ordinary EntryKind.Ran = true
is_ordinary EntryKind.Free = true
is_ordinary EntryKind.Stuck = true
is_ordinary EntryKind.Cut = false
is_ordinary EntryKind.Tall = false

abbrev pub AreOrdinary : List Entry → Type 0
AreOrdinary entries = All (λ entry. is_ordinary entry.kind ≡ true) entries

-- The last entry is a note of this kind, and no other entry is a note.
pub record EndsWith (kind : EntryKind) (entries : List Entry) : Type 0 where
  pub earlier : List Entry
  pub note : Entry
  pub is : entries ≡ earlier ++ note ∷ []
  pub its : note.kind ≡ kind
  pub others : AreOrdinary earlier

-- The last entry notes that a member came to a value nested too deeply.
pub record IsTall (number : ℕ) (entries : List Entry) : Type 0 where
  pub ends : EndsWith EntryKind.Tall entries
  pub its : ends.note.number ≡ number

-- If a row was cut off, its note is the last entry. If a value would be nested too deeply, its note is the last entry.
abbrev pub NotesStop : Option Stop → List Entry → Type 0
NotesStop (Some Stop.Spent) entries = AreOrdinary entries ⊎ EndsWith EntryKind.Cut entries
NotesStop (Some (Stop.Tall number)) entries = IsTall number entries
NotesStop _ entries = AreOrdinary entries

-- A stop, if one is kept, has its cause; the certificates are those for it, and the entries note it.
pub record HasCause (stop : Option Stop) (certificates : List Certificate) (parts : Parts) : Type 0 where
  pub cause : IsCause stop parts
  pub told : certificates ≡ certificates_for stop parts
  pub ends : NotesStop stop parts.entries
