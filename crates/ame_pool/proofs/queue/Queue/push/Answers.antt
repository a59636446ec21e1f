use Rattle.std.proofs.Common.{◌∙◌, [], ◌∷◌, length, refl, sym, ap, subst, arith}
use Rattle.ame_pool.proofs.Words.{numbers_in, StartsFull, length-append}
use Rattle.ame_pool.proofs.QueueLemmas.{pushed_starts, pushed_numbers}
use Rattle.ame_pool.proofs.queue.Queue.push.Goals as goal

pub invariant_of-self : goal.invariant_of-self
invariant_of-self c =
    let numbers = ap numbers_in c.push_back_reserved.ensures.items ∙ pushed_numbers c.free_place.new.entries.items _ c.args.number refl in
    record {
      starts = subst StartsFull (sym c.push_back_reserved.ensures.items) (pushed_starts c.free_place.new.entries.items _ c.free_place.ensures.starts refl);
      counted = omega (arith, c.self.invariant.counted, ap length numbers, ap length c.free_place.ensures.list, length-append (numbers_in c.free_place.new.entries.items) (c.args.number ∷ []));
    }

pub returns : goal.returns
returns c =
    let numbers = ap numbers_in c.push_back_reserved.ensures.items ∙ pushed_numbers c.free_place.new.entries.items _ c.args.number refl in
    rw (← c.self.view_is, numbers, c.push_back_reserved.ensures.capacity, c.free_place.ensures.list, c.free_place.ensures.capacity) refl
