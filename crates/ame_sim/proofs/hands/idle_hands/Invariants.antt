-- The hands so far are idle.
use Rattle.std.proofs.Common.{◌≡◌, replicate}
use Rattle.ame_shell.specs.declared.work.Work.TheVariants as work
use Rattle.ame_sim.proofs.hands.idle_hands.Given as goal

abbrev pub invariant-loop : goal.invariant-loop
invariant-loop g l = l.hands.items ≡ replicate l.counter work.Idle
