use Rattle.std.proofs.Common.{◌≡◌, true, false, refl}
use Rattle.ame_pool.proofs.Words.{lists}
use Rattle.ame_pool.proofs.IndexLemmas.{pair_low, pair_le, pair_le_at}
use Rattle.ame_pool.proofs.index.first.Goals as goal

pub returns-then-k-l-clause-least : goal.returns-then-k-l-clause-least
returns-then-k-l-clause-least c m h =
    let f = (c.range.ensures.in_range tt).2 (c.args.l.0, m) (pair_low c.args.l.0 m, tt) h in
    pair_le c.in-Some.field-0.now.0 c.in-Some.field-0.now.1 c.args.l.0 m c.if-k-l.true (rw c.in-Some.ensures.steps at f)

pub returns-else-k-l-clause-none : goal.returns-else-k-l-clause-none
returns-else-k-l-clause-none c m =
    elim (lists c.args.index.now c.args.l.0 m) as (λ b. lists c.args.index.now c.args.l.0 m ≡ b → b ≡ false) [
      | true ↦ λ h.
          let f = (c.range.ensures.in_range tt).2 (c.args.l.0, m) (pair_low c.args.l.0 m, tt) h in
          let low = (c.range.ensures.in_range tt).1 in
          absurd (c.if-k-l.false (pair_le_at c.in-Some.field-0.now.0 c.in-Some.field-0.now.1 c.args.l.0 m (rw c.in-Some.ensures.steps at low).0.0 (rw c.in-Some.ensures.steps at f)))
      | false ↦ λ h. refl
    ] refl

pub returns-in-None-clause-none : goal.returns-in-None-clause-none
returns-in-None-clause-none c m = (c.range.ensures.in_range tt).5 c.in-None.ensures.steps.0 (c.args.l.0, m) (pair_low c.args.l.0 m, tt)
