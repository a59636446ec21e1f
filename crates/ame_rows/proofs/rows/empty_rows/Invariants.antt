-- The rows so far are empty.
use Rattle.std.proofs.Common.{◌≡◌, map, replicate}
use Rattle.ame_rows.specs.MemoryView.{no_log, without_room}
use Rattle.ame_rows.proofs.rows.empty_rows.Given as goal

abbrev pub invariant-loop : goal.invariant-loop
invariant-loop g l = map without_room l.rows.items ≡ replicate l.counter no_log
