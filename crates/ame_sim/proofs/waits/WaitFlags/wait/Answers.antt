use Rattle.std.proofs.Common.{◌≡◌, ◌<◌, false, length, take, get_or, sym, ap, ◌∙◌, subst, arith}
use Rattle.std.specs.List.{remove}
use Rattle.ame_sim.specs.Waits.{may_be_picked}
use Rattle.ame_sim.proofs.WaitsLemmas.{left-out, fewer-before}
use Rattle.ame_sim.proofs.waits.WaitFlags.wait.Goals as goal

pub remove-requires : goal.remove-requires
remove-requires c =
    let waits = c.self.inside.waits.items in
    let below : c.args.seat < length waits = subst (λ w. c.args.seat < length w) (sym c.self.view_is) c.requires in
    let free : get_or waits c.args.seat false ≡ false =
    ap (get_or waits c.args.seat) (sym c.if-not-index.true) ∙ sym c.index.ensures ∙ c.if-not-index.true in
    let place = c.free_among-place.ensures ∙ ap (λ w. length (may_be_picked (take c.args.seat w))) c.deref.ensures.value in
    let listed = ap length c.self.invariant.items in
    omega (arith, place, fewer-before 0 c.args.seat waits below free, listed, c.self.inside.may.ok)

pub invariant_of-self : goal.invariant_of-self
invariant_of-self c =
    let waits = c.self.inside.waits.items in
    let below : c.args.seat < length waits = subst (λ w. c.args.seat < length w) (sym c.self.view_is) c.requires in
    let free : get_or waits c.args.seat false ≡ false =
    ap (get_or waits c.args.seat) (sym c.if-not-index.true) ∙ sym c.index.ensures ∙ c.if-not-index.true in
    let place = c.free_among-place.ensures ∙ ap (λ w. length (may_be_picked (take c.args.seat w))) c.deref.ensures.value in
    let room = c.self.invariant.room in
    record {
      items = c.remove.ensures.items ∙ ap (λ l. remove l c.free_among-place.result) c.self.invariant.items ∙ ap (remove (may_be_picked waits)) place
          ∙ left-out 0 c.args.seat waits below free;
      room = omega (arith, room, c.remove.ensures.capacity);
      range = c.self.invariant.range;
    }
