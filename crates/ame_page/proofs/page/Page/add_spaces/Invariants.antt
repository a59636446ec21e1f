use Rattle.std.proofs.Common.{◌≡◌, ◌++◌, replicate}
use Rattle.ame_page.proofs.page.Page.add_spaces.Given as goal

abbrev pub invariant-loop : goal.invariant-loop
invariant-loop l = l.self ≡ l.initial.self ++ replicate l.counter 32
