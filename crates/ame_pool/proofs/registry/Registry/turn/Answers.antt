use Rattle.std.proofs.Common.{◌∙◌, cond, refl, sym, ap}
use Rattle.ame_pool.proofs.Words.{pushed, is_away}
use Rattle.ame_pool.proofs.StandingLemmas.{away_unready}
use Rattle.ame_pool.proofs.CountLemmas.{counts_in}
use Rattle.ame_pool.proofs.KeptLemmas.{opened, left_place, kept_turn}
use Rattle.ame_pool.proofs.registry.Registry.turn.Goals as goal

pub turn-turned-requires-clause-there : goal.turn-turned-requires-clause-there
turn-turned-requires-clause-there g c = rw (opened is_away c.args.number _ c.args.self.now c.self.view_is c.requires).found refl

pub turn-turned-requires-clause-counted : goal.turn-turned-requires-clause-counted
turn-turned-requires-clause-counted g c m found = counts_in c.self.inside.members.list c.self.inside.counts c.self.invariant.counted c.args.number m found

pub push-requires : goal.push-requires
push-requires g c =
    let o = opened is_away c.args.number _ c.args.self.now c.self.view_is c.requires in
    left_place c.self.invariant c.args.number o.member o.found (away_unready o.member o.passes)

pub invariant_of-self : goal.invariant_of-self
invariant_of-self g c =
    let o = opened is_away c.args.number _ c.args.self.now c.self.view_is c.requires in
    let t = c.turn-turned.result in
    kept_turn c.self.invariant c.args.number o.member o.found (away_unready o.member o.passes) c.args.to _ c.turn-turned.ensures.members
    t.left.is_readied c.turn-turned.ensures.readied t.inside c.turn-turned.ensures.inside _ (c.turn-turned.ensures.counts o.member o.found) _
    (c.push.ensures ∙ ap (λ b. cond b (pushed c.args.number t.inside c.self.inside.ready) c.self.inside.ready) (sym c.if-turned.true))

pub invariant_of-self-else-turned : goal.invariant_of-self-else-turned
invariant_of-self-else-turned g c =
    let o = opened is_away c.args.number _ c.args.self.now c.self.view_is c.requires in
    let t = c.turn-turned.result in
    kept_turn c.self.invariant c.args.number o.member o.found (away_unready o.member o.passes) c.args.to _ c.turn-turned.ensures.members
    t.left.is_readied c.turn-turned.ensures.readied t.inside c.turn-turned.ensures.inside _ (c.turn-turned.ensures.counts o.member o.found) _
    (ap (λ b. cond b (pushed c.args.number t.inside c.self.inside.ready) c.self.inside.ready) (sym c.if-turned.false))
