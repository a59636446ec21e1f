use Rattle.std.proofs.Common.{◌&&◌, false, not, refl, sym, ap, subst, ◌∙◌}
use Rattle.ame_pool.proofs.Words.{Transition, is_busy, altered, Roster, lists, among, IsBetween, IsListedAfter, noted, noted_on, is_away, ◌||◌, append-nil}
use Rattle.ame_pool.proofs.StandingLemmas.{busy_away}
use Rattle.ame_pool.proofs.KeptLemmas.{at_weaker, turned_pool}
use Rattle.ame_pool.proofs.FindLemmas.{watched_noted, watched_refused}
use Rattle.ame_pool.proofs.pool.Pool.note.Goals as goal

pub invariant_of-self : goal.invariant_of-self
invariant_of-self g c =
    let n = c.args.number in
    let mid = c.watch.new.index in
    let between = subst (λ q. IsBetween n q c.self.inside.index mid) c.as_slice.ensures.value c.in-Err.ensures.err in
    let then = subst (λ q. IsListedAfter n (λ k. not (among k q && not (among k c.untouched.result.now)) && lists mid k n) mid c.unwatch.new.index)
    c.as_slice-in-Err.ensures.value c.unwatch.ensures in
    watched_refused c.self.invariant n c.member-member.result.now (sym c.member-member.ensures) c.untouched.result.now c.untouched.ensures
    c.args.locs.items between then

pub turn-requires : goal.turn-requires
turn-requires g c = at_weaker is_busy is_away busy_away c.args.number _ c.args.self.now c.self.view_is c.requires

pub invariant_of-self-2 : goal.invariant_of-self-2
invariant_of-self-2 g c =
    let n = c.args.number in
    let ix = c.self.inside.index in
    let mid = c.watch.new.index in
    let first = subst (λ q. IsListedAfter n (λ k. among k q || lists ix k n) ix mid) c.as_slice.ensures.value c.in_default.ensures.ok in
    let then = subst (λ q. IsListedAfter n (λ k. not (among k c.untouched-2.result.now && not (among k q)) && lists mid k n) mid c.unwatch-2.new.index)
    c.as_slice-2.ensures.value c.unwatch-2.ensures in
    rw c.turn.ensures (watched_noted c.self.invariant n c.member-member.result.now (sym c.member-member.ensures) c.untouched-2.result.now c.untouched-2.ensures
    (Transition.Watch c.from_vec.result) c.args.locs.items c.from_vec.ensures first then)

pub returns-clause-ok : goal.returns-clause-ok
returns-clause-ok g c =
    let s = c.args.self.now in
    c.turn.ensures ∙ turned_pool c.args.number (Transition.Watch c.from_vec.result) _ s c.self.view_is c.member-member.result.now (sym c.member-member.ensures) false refl
    ∙ ap (λ order. let r : Roster _ = record s { members = altered c.args.number (noted_on c.from_vec.result) s.members; order = order } in r) (append-nil s.order)
    ∙ ap (λ locs. noted c.args.number locs s) c.from_vec.ensures
