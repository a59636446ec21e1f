-- The entries so far are near.
use Rattle.std.proofs.Common.{◌≡◌, All, take}
use Rattle.ame_engine.specs.Resuming.{IsNear}
use Rattle.ame_engine.proofs.engine.resume.first_far.Given as goal

abbrev pub invariant-loop-entry : goal.invariant-loop-entry
invariant-loop-entry l = (l.place ≡ l.entry-index) × All IsNear (take l.entry-index l.base)
