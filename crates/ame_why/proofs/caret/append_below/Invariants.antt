use Rattle.std.proofs.Common.{◌≡◌, ◌++◌, take}
use Rattle.std.specs.List.{flat_map}
use Rattle.ame_why.specs.Excerpt.{below_byte}
use Rattle.ame_why.proofs.caret.append_below.Given as goal

abbrev pub invariant-loop-byte : goal.invariant-loop-byte
invariant-loop-byte l = l.page ≡ l.initial.page ++ flat_map below_byte (take l.byte-index l.bytes)
