use Rattle.std.proofs.Common.{◌≡◌, ◌≤◌, false, length, replicate, ap, subst, arith}
use Rattle.ame_sim.specs.Waits.{may_be_picked}
use Rattle.ame_sim.proofs.WaitsLemmas.{none-wait}
use Rattle.ame_sim.proofs.waits.WaitFlags.go_on.Goals as goal

pub returns-else-len : goal.returns-else-len
returns-else-len c =
    let waits = c.self.inside.waits in
    let listed = ap length c.self.invariant.items in
    let all : length waits.items ≤ length (may_be_picked waits.items) = omega (arith, c.len.ensures, c.len-2.ensures, c.if-len.false, listed, c.self.inside.may.ok, waits.ok) in
    subst (λ w. w ≡ replicate (length w) false) c.self.view_is (none-wait 0 waits.items all)
