use Rattle.std.proofs.Common.{◌≡◌, ◌+◌, ◌++◌, ◌∷◌, [], length, refl, sym, ap, subst, ◌∙◌, append_assoc, length-append, arith}
use Rattle.std.specs.Vec.Iter.{into_iter_items}
use Rattle.crossbeam_queue.specs.Passes.{view}
use Rattle.ame_baton.specs.Seats.{left_by}
use Rattle.ame_baton.specs.Rule.{IsFirst}
use Rattle.ame_baton.specs.Batons.{knows, IsReadySeat, AreReady}
use Rattle.ame_baton.proofs.Readiness.{ready_head, ready_tail, length_map, kept_more}
use Rattle.ame_baton.proofs.turn.Baton.join_all.Goals as goal

pub loop-seat-init : goal.loop-seat-init
loop-seat-init g c = let it = c.into_iter-seat-iterator in let gives = it.ensures.into_iter_gives in record {
  of = c.requires.of;
  first = c.requires.first;
  kept = ap (λ l. record (view c.args.pass.now) { ended = l }) c.requires.none_yet;
  all = refl;
  counted = gives.1 ∙ (c.args.rest.ok.0 ∙ ap length (sym gives.0));
  ready = subst (AreReady c.args.self.now 1) (sym gives.0) c.requires.rest;
}

pub join-requires-clause-next : goal.join-requires-clause-next
join-requires-clause-next g c = let at = c.loop-seat in let inv = at.invariant in
    let count : length (view at.pass).ended ≡ length at.yielded = ap (λ k. length k.ended) inv.kept ∙ length_map (λ s. left_by (knows s)) at.yielded in
    subst (λ n. IsReadySeat c.args.self.now (n + 1) c.in-Some.seat) (sym count)
    (ready_head c.args.self.now (length at.yielded + 1) c.in-Some.seat (into_iter_items c.next.new.self) (subst (AreReady c.args.self.now (length at.yielded + 1)) c.in-Some.ensures.steps.0 inv.ready))

pub loop-seat-preserved : goal.loop-seat-preserved
loop-seat-preserved g c = let at = c.loop-seat in let inv = at.invariant in let seat = c.in-Some.seat in let rest = into_iter_items c.next.new.self in
    let steps : into_iter_items at.seat-iterator ≡ seat ∷ rest = c.in-Some.ensures.steps.0 in let fewer = c.in-Some.ensures.steps.1 in
    let one_more : length at.yielded + 1 + 1 ≡ length (at.yielded ++ seat ∷ []) + 1 = omega (arith, length-append at.yielded (seat ∷ [])) in record {
      of = c.join.ensures.of;
      first = subst IsFirst (sym c.join.ensures.kept) (record { seated = inv.first.seated; numbered = inv.first.numbered; free = inv.first.free });
      kept = kept_more (view c.args.pass.now) (view at.pass) (view c.join.new.pass) (λ s. left_by (knows s)) at.yielded seat inv.kept c.join.ensures.kept;
      all = append_assoc at.yielded (seat ∷ []) rest ∙ (ap (λ w. at.yielded ++ w) (sym steps) ∙ inv.all);
      counted = omega (arith, ap length steps, fewer, inv.counted);
      ready = subst (λ n. AreReady c.args.self.now n rest) one_more (ready_tail c.args.self.now (length at.yielded + 1) seat rest (subst (AreReady c.args.self.now (length at.yielded + 1)) steps inv.ready));
    }
