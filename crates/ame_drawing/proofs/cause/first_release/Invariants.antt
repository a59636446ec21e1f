use Rattle.std.proofs.Common.{◌≡◌, take}
use Rattle.std.specs.List.{fold}
use Rattle.ame_drawing.specs.Causes.{first_with}
use Rattle.ame_drawing.proofs.cause.first_release.Given as goal

abbrev pub invariant-loop-span : goal.invariant-loop-span
invariant-loop-span l = l.first ≡ fold (first_with l.place l.since l.index) l.fn.known (take l.span-index l.spans)
