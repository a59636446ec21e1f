use Rattle.std.proofs.Common.{◌≡◌}
use Rattle.std.specs.Prelude.{replicate}
use Rattle.ame_worker.specs.Rows.{nothing_kept}
use Rattle.ame_worker.proofs.opening.empty_places.Given as goal

abbrev pub invariant-loop : goal.invariant-loop
invariant-loop g l = record {
  places : l.places.items ≡ replicate l.counter nothing_kept;
}
