-- Between two notes that one member came to a false condition, some member commits.
use Rattle.std.specs.Prelude.{◌≡◌, ℕ, ◌<◌, ◌⊎◌, List, length, Some, IsSome, slice_get}
use Rattle.ame_journal.specs.declared.entry.Entry.{Entry}
use Rattle.ame_journal.specs.declared.entry.EntryKind.{EntryKind}
use Rattle.ame_protocol.specs.Engine.Parts.{Parts, whole_journal}
use Rattle.ame_protocol.specs.Waits.Waiting.{watched_by}

-- at a place of a journal stands an entry, which is of a kind
pub record HasEntryAt (journal : List Entry) (kind : EntryKind) (place : ℕ) (entry : Entry) : Type 0 where
  pub there : slice_get journal place ≡ Some entry
  pub its : entry.kind ≡ kind

-- between two places stands the entry of a commit
pub record HasRanBetween (journal : List Entry) (first later : ℕ) : Type 0 where
  pub place : ℕ
  pub behind : first < place
  pub before : place < later
  pub entry : Entry
  pub ran : HasEntryAt journal EntryKind.Ran place entry

-- so it is between each two notes of one member
abbrev pub IsNotedOnce : List Entry → Type 0
IsNotedOnce journal =
    (first later : ℕ) (note next : Entry) → first < later → HasEntryAt journal EntryKind.Stuck first note
    → HasEntryAt journal EntryKind.Stuck later next → note.number ≡ next.number → HasRanBetween journal first later

-- A note that no commit follows belongs to a member that still waits. So no member is noted twice without a commit between.
pub record AreNotedOnce (parts : Parts) : Type 0 where
  pub recent : (place : ℕ) (note : Entry) → HasEntryAt (whole_journal parts) EntryKind.Stuck place note
      → HasRanBetween (whole_journal parts) place (length (whole_journal parts)) ⊎ IsSome (watched_by note.number parts.pool)
  pub once : IsNotedOnce (whole_journal parts)
