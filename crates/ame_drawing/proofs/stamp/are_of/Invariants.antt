use Rattle.std.proofs.Common.{◌≡◌, map, take}
use Rattle.ame_drawing.specs.Stamps.{made_by_stamp, made_by_entry}
use Rattle.ame_drawing.proofs.stamp.are_of.Given as goal

abbrev pub invariant-loop-index : goal.invariant-loop-index
invariant-loop-index l = map made_by_stamp (take l.index l.stamps) ≡ map made_by_entry (take l.index l.entries)
