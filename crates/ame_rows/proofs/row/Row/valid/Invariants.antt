-- The reads so far are valid.
use Rattle.std.proofs.Common.{take}
use Rattle.ame_rows.specs.Valid.{IsValid}
use Rattle.ame_rows.proofs.row.Row.valid.Given as goal

abbrev pub invariant-loop-note : goal.invariant-loop-note
invariant-loop-note g l = IsValid l.store l.seat (take l.note-index l.note-items)
