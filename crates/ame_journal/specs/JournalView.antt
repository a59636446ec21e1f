-- The view of a journal.
use Rattle.std.specs.Prelude.{ℕ, ℤ, ◌<◌, List, Option, IsNone, ⊤}
use Rattle.ame_journal.specs.declared.entry.Entry.{Entry}
use Rattle.ame_journal.specs.declared.entry.EntryKind.{EntryKind}

-- the entries, and the places that are free
pub record JournalView : Type 0 where
  pub entries : List Entry
  pub room : ℕ

-- an answer stands only in an entry of free steps
abbrev pub MayHold : EntryKind → Option ℤ → Type 0
MayHold EntryKind.Free answer = ⊤
MayHold _ answer = IsNone answer

-- an entry that a journal may have: its seat is one of 32
pub record IsFit (entry : Entry) : Type 0 where
  pub seat : entry.seat < 32
  pub answer : MayHold entry.kind entry.answer
