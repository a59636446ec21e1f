use Rattle.std.proofs.Common.{◌≡◌, ◌++◌, map, take}
use Rattle.ame_why.specs.Excerpt.{shown_byte}
use Rattle.ame_why.proofs.caret.append_shown.Given as goal

abbrev pub invariant-loop-byte : goal.invariant-loop-byte
invariant-loop-byte l = l.page ≡ l.initial.page ++ map shown_byte (take l.byte-index l.bytes)
