-- The locations so far.
use Rattle.std.proofs.Common.{◌≡◌, map, take}
use Rattle.ame_protocol.specs.Row.Waiting.{read_places}
use Rattle.ame_engine.proofs.engine.block.read_locations.Given as goal

abbrev pub invariant-loop-read : goal.invariant-loop-read
invariant-loop-read l = map (λ x. x.0) l.locs.items ≡ read_places (take l.read-index l.reads)
