-- The rows of logs, as contracts see them.
use Rattle.std.specs.Prelude.{ℕ, ◌<◌, ◌≤◌, List, []}
use Rattle.ame_rows.specs.declared.notes.ReadNote.{ReadNote}
use Rattle.ame_rows.specs.declared.notes.Undo.{Undo}

-- the places that are free in each log that is kept
pub record Room : Type 0 where
  pub reads : ℕ
  pub undos : ℕ

-- what was read, what was given, and what to undo, each from the first on
pub record RoomyLog (V : Type 0) : Type 0 where
  pub reads : List ReadNote
  pub inputs : List V
  pub undos : List (Undo V)
  pub room : Room

-- there is a place in each log that is kept
pub record HasPlaces (room : Room) : Type 0 where
  pub for_read : 0 < room.reads
  pub for_undo : 0 < room.undos

-- no log lost a place
pub record Keeps (old new : Room) : Type 0 where
  pub for_reads : old.reads ≤ new.reads
  pub for_undos : old.undos ≤ new.undos

-- nothing was read, given or written
abbrev pub empty : {V : Type 0} → Room → RoomyLog V
empty room = record { reads = []; inputs = []; undos = []; room = room }
