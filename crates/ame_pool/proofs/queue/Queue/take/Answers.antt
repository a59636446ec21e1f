use Rattle.std.proofs.Common.{◌≤◌, ◌==◌, ◌∙◌, length, refl, sym, ap, subst, arith}
use Rattle.ame_pool.proofs.Words.{QueueView, numbers_in, count_by}
use Rattle.ame_pool.proofs.QueueLemmas.{has_number, gap_made, absent, shorter}
use Rattle.ame_pool.proofs.queue.Queue.take.Goals as goal

pub invariant_of-self : goal.invariant_of-self
invariant_of-self c =
    let n = c.args.number in
    let items = c.self.inside.entries.items in
    let once = subst (λ (s : QueueView). count_by (λ k. k == n) s.list ≤ 1) (sym c.self.view_is) c.requires in
    let at = c.in-Some.ensures.some in
    let is = at.1 c.index_mut.result.now in
    let numbers = c.trim.ensures.list ∙ gap_made n items c.in-Some.place c.index_mut.result.now _ at.0 is refl once in
    record {
      starts = c.trim.ensures.starts;
      counted = omega (arith, c.self.invariant.counted, ap length numbers, shorter n (numbers_in items) (has_number n items c.in-Some.place c.index_mut.result.now at.0 is));
    }

pub returns-in-Some : goal.returns-in-Some
returns-in-Some c =
    let n = c.args.number in
    let items = c.self.inside.entries.items in
    let once = subst (λ (s : QueueView). count_by (λ k. k == n) s.list ≤ 1) (sym c.self.view_is) c.requires in
    let at = c.in-Some.ensures.some in
    let numbers = c.trim.ensures.list ∙ gap_made n items c.in-Some.place c.index_mut.result.now _ at.0 (at.1 c.index_mut.result.now) refl once in
    rw (← c.self.view_is, numbers, c.trim.ensures.capacity) refl

pub returns-in_default : goal.returns-in_default
returns-in_default c =
    let gone = absent c.args.number (numbers_in c.self.inside.entries.items) c.in_default.ensures.none in
    rw (← c.self.view_is, gone) refl
