use Rattle.std.proofs.Common.{◌≡◌, ◌++◌, replicate}
use Rattle.ame_views.proofs.begun.note_started.Given as goal

abbrev pub invariant-loop : goal.invariant-loop
invariant-loop l = l.starters.items ≡ l.initial.starters.items ++ replicate l.counter l.number
