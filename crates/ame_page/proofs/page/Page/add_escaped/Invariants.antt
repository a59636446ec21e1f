use Rattle.std.proofs.Common.{◌≡◌, ◌++◌, take}
use Rattle.ame_page.specs.Escapes.{escaped}
use Rattle.ame_page.proofs.page.Page.add_escaped.Given as goal

abbrev pub invariant-loop-byte : goal.invariant-loop-byte
invariant-loop-byte l = l.self ≡ l.initial.self ++ escaped (take l.byte-index l.text)
