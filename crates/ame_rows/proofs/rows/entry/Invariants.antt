-- The entry is among those that are left, if there is one.
use Rattle.std.proofs.Common.{◌≡◌, drop}
use Rattle.ame_rows.specs.Entries.{entry_at}
use Rattle.ame_rows.proofs.rows.entry.Given as goal

abbrev pub invariant-loop-undo : goal.invariant-loop-undo
invariant-loop-undo g l = entry_at (drop l.undo-index l.undos) l.l.0 ≡ entry_at l.undos l.l.0
