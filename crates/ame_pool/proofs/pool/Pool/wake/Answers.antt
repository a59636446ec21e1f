use Rattle.std.proofs.Common.{◌<◌, ◌∙◌, sym, ap, subst}
use Rattle.ame_pool.proofs.Words.{woken, IsWatched}
use Rattle.ame_pool.proofs.WakeLemmas.{to_stir, listed_watches, waking_all, waking_more, waking_fewer}
use Rattle.ame_pool.proofs.pool.Pool.wake.Goals as goal

pub stir-requires : goal.stir-requires
stir-requires g c = listed_watches c.args.l.0 (subst (λ s. IsWatched s c.self.inside.index) c.self.view_is c.self.invariant) c.in-Some.number c.in-Some.ensures.some

pub loop-number-smaller : goal.loop-number-smaller
loop-number-smaller g c =
    let h = subst (λ s. IsWatched s c.self.inside.index) c.self.view_is c.self.invariant in
    subst (λ x. to_stir c.args.l.0 x.members < to_stir c.args.l.0 c.loop-number.self.members) (sym c.stir.ensures)
    (waking_fewer c.args.l.0 h c.in-Some.number c.in-Some.ensures.some c.in-Some.ensures.least)

pub loop-number-preserved : goal.loop-number-preserved
loop-number-preserved g c =
    let h = subst (λ s. IsWatched s c.self.inside.index) c.self.view_is c.self.invariant in
    ap (woken c.args.l.0) c.stir.ensures ∙ waking_more c.args.l.0 h c.in-Some.number c.in-Some.ensures.some c.in-Some.ensures.least ∙ c.loop-number.invariant

pub returns : goal.returns
returns g c =
    waking_all c.args.l.0 (subst (λ s. IsWatched s c.self.inside.index) c.self.view_is c.self.invariant) c.in_default.ensures.none ∙ c.loop-number.invariant
