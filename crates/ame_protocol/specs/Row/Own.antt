-- A row after an own event.
use Rattle.std.specs.Prelude.{[], ◌∷◌, ◌++◌}
use Rattle.ame_term.specs.Tree.{Val, Tree}
use Rattle.ame_term.specs.declared.types.Loc.{Loc}
use Rattle.ame_store.specs.declared.cell.Cell.{Cell}
use Rattle.ame_rows.specs.declared.notes.Undo.{Undo}
use Rattle.ame_protocol.specs.Row.SeatRun.{SeatRun}

-- given one more value
abbrev pub given_one : Val → SeatRun → SeatRun
given_one v run = record run { inputs = run.inputs ++ v ∷ [] }

-- given what is in place in a cell that the seat doesn't own, which is logged with the cell's number
abbrev pub given_outside : Loc → Cell Val → SeatRun → SeatRun
given_outside l cell run = record (given_one cell.value run) { reads = run.reads ++ record { loc = l; number = cell.number } ∷ [] }

-- given one more value, with one more entry to undo
abbrev pub given_undo : Val → Undo Val → SeatRun → SeatRun
given_undo v undo run = record (given_one v run) { undos = run.undos ++ undo ∷ [] }

-- begun with a term
abbrev pub begun_seat : Tree → SeatRun
begun_seat term = record { start = term; inputs = []; reads = []; undos = [] }
