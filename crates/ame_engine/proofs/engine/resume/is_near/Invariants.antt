-- The locations so far are near.
use Rattle.std.proofs.Common.{◌<◌, All, take}
use Rattle.ame_protocol.specs.Engine.Simulates.{most_opened}
use Rattle.ame_engine.proofs.engine.resume.is_near.Given as goal

abbrev pub invariant-loop-l : goal.invariant-loop-l
invariant-loop-l l = All (λ z. z.0 < most_opened) (take l.l-index l.l-items)
