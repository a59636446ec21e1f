-- The locations so far.
use Rattle.std.proofs.Common.{◌≡◌, map, take}
use Rattle.ame_rows.specs.Entries.{places}
use Rattle.ame_rows.proofs.rows.locations.Given as goal

abbrev pub invariant-loop-undo : goal.invariant-loop-undo
invariant-loop-undo g l = map (λ x. x.0) l.locs.items ≡ places (take l.undo-index l.undos)
