-- The picks that made the entries of a journal.
use Rattle.std.specs.Prelude.{ℕ, ◌+◌, List, [], ◌∷◌, ◌++◌, Option, Some, None}
use Rattle.ame_journal.specs.declared.entry.Entry.{Entry}
use Rattle.ame_journal.specs.declared.entry.EntryKind.{EntryKind}
use Rattle.ame_drawing.specs.declared.pick.DrawnPick.{DrawnPick}
use Rattle.ame_drawing.specs.declared.stamp.Stamp.{Stamp}
use Rattle.ame_drawing.specs.Picks.{kind_made}

-- the stamp of pick k, if it made an entry of some kind
abbrev pub stamp_of : ℕ → DrawnPick → Option EntryKind → List Stamp
stamp_of k pick None = []
stamp_of k pick (Some kind) = record { kind = kind; seat = pick.seat; member = pick.member; pick = k } ∷ []

-- the stamps of picks; the first is pick k
abbrev pub stamps : ℕ → List DrawnPick → List Stamp
stamps k [] = []
stamps k (pick ∷ picks) = stamp_of k pick (kind_made pick.did) ++ stamps (k + 1) picks

-- what an entry and its stamp have in common: kind, seat and member
pub record Maker : Type 0 where
  pub kind : EntryKind
  pub seat : ℕ
  pub member : ℕ

abbrev pub made_by_stamp : Stamp → Maker
made_by_stamp stamp = record { kind = stamp.kind; seat = stamp.seat; member = stamp.member }

abbrev pub made_by_entry : Entry → Maker
made_by_entry entry = record { kind = entry.kind; seat = entry.seat; member = entry.number }
