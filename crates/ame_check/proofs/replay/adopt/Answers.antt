use Rattle.std.proofs.Common.{◌≡◌, ◌+◌, sym, refl, subst, rules}
use Rattle.ame_check.proofs.MergeLemmas.{Adopting, adopting-more, adopting-ends}
use Rattle.ame_check.proofs.replay.adopt.Goals as goal

pub loop-member-preserved : goal.loop-member-preserved
loop-member-preserved g c = λ before inside good shows outside.
    let a = c.loop-member.invariant before inside good shows outside in
    let up : c.in_ok-later.later ≡ c.loop-member.number + 1 = search rules in
    subst (λ (z : _). Adopting g.M.Runner.meaning c.args._code.now inside before c.args.next (g.M.Runner.meaning.stage c.args._code.now c.args.machine.now) z c.in_ok-later.later c.take_spawn.new.self)
    (sym c.in_ok-insert.ensures.entries)
    (adopting-more g.M.Runner.meaning c.args._code.now inside before c.args.next (g.M.Runner.meaning.stage c.args._code.now c.args.machine.now) c.loop-member.members.entries c.loop-member.number
    c.loop-member.machine c.take_spawn.new.self c.in-Some.member outside a (c.in-Some.ensures.first c.args._code.now) (c.in-Some.ensures.taken c.args._code.now c.in-Some.member a.good refl)
    (c.take_spawn.ensures.machine c.args._code.now a.good) (c.take_spawn.ensures.rest c.args._code.now) c.in_ok-later.later up)

pub returns : goal.returns
returns g c = λ before inside good shows outside.
    let a = c.loop-member.invariant before inside good shows outside in
    adopting-ends g.M.Runner.meaning c.args._code.now inside before c.args.next (g.M.Runner.meaning.stage c.args._code.now c.args.machine.now) c.loop-member.members.entries c.loop-member.number
    c.loop-member.machine c.take_spawn.new.self a (c.in_default.ensures.first c.args._code.now) (c.take_spawn.ensures.machine c.args._code.now a.good) (c.take_spawn.ensures.rest c.args._code.now)
