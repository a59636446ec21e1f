-- Notes in the journal of a weak run.
use Rattle.std.specs.Prelude.{◌≡◌, ℕ, ◌<◌, Bool, true, false, List, ◌∷◌, Some, slice_get}
use Rattle.ame_journal.specs.declared.entry.Entry.{Entry}
use Rattle.ame_journal.specs.declared.entry.EntryKind.{EntryKind}
use Rattle.ame_protocol.specs.Waits.Once.{HasEntryAt}

-- whether an entry is that of a fragment that left or ended, or makes a location under `unprotected`
abbrev pub is_news : EntryKind → List ℕ → Bool
is_news EntryKind.Ran fresh = true
is_news EntryKind.Free (l ∷ fresh) = true
is_news kind fresh = false

-- such an entry stands between two places
pub record HasNewsBetween (journal : List Entry) (first later : ℕ) : Type 0 where
  pub place : ℕ
  pub behind : first < place
  pub before : place < later
  pub entry : Entry
  pub there : slice_get journal place ≡ Some entry
  pub is : is_news entry.kind entry.fresh ≡ true

-- so it is between any two notes of one member that say that it came to a condition that is false
abbrev pub AreNotedApart : List Entry → Type 0
AreNotedApart journal =
    (first later : ℕ) (note next : Entry) → first < later → HasEntryAt journal EntryKind.Stuck first note
    → HasEntryAt journal EntryKind.Stuck later next → note.number ≡ next.number → HasNewsBetween journal first later
