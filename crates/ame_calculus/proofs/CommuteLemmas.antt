-- Two entries that don't depend on each other, in either order.
use Rattle.std.proofs.Common.{◌≡◌, ◌≢◌, ℕ, zero, suc, ◌+◌, ◌<◌, ◌⊎◌, inl, inr, ℤ, true, false, List, [], ◌∷◌, ◌++◌, length, Option, Some, None, is_some, option_and_then, refl, sym, ap, ◌∙◌, subst, arith, append-nil}
use Rattle.std.specs.Prelude.{IsSome}
use Rattle.std.specs.List.{AllByRecursion}
use Rattle.std.proofs.lemmas.Option.{option_and_then_some}
use Rattle.ame_term.specs.Tree.{Val, Tree}
use Rattle.ame_term.specs.Frame.{Side, side_told}
use Rattle.ame_term.specs.Context.{focus}
use Rattle.ame_term.specs.Maps.{at}
use Rattle.ame_term.specs.State.{State, at_unprotected}
use Rattle.ame_laws.specs.Orderly.{IsOrderly}
use Rattle.ame_laws.proofs.MapLemmas.{found-alike}
use Rattle.ame_journal.specs.declared.entry.Entry.{Entry}
use Rattle.ame_journal.specs.Calls.{last_call}
use Rattle.ame_journal.specs.Replayed.{Replayed, has_such, is_inside}
use Rattle.ame_journal.specs.Replay.{or_else, replay_entry, replay_from}
use Rattle.ame_journal.specs.Totals.{is_note}
use Rattle.ame_journal.proofs.ReachedLemmas.{IsCalm}
use Rattle.ame_machine.specs.Run.AgreesWith.{AgreesWith, with_members, IsAfterRun}
use Rattle.ame_machine.specs.Run.Local.{LocalState, begun_with, one_step, goes}
use Rattle.ame_machine.specs.Run.Told.{TellsRun}
use Rattle.ame_weak.proofs.Follow.{calm-behind}
use Rattle.ame_weak.proofs.Laid.{HasSetMade, step-set}
use Rattle.ame_weak.proofs.LetGo.{same_state}
use Rattle.ame_weak.proofs.MemberLemmas.{same_or, joined-alike, joined-below}
use Rattle.ame_calculus.specs.Independent.{IsOfRun, LeavesAlone, AreIndependent, MaySwap}
use Rattle.ame_calculus.proofs.CallLemmas.{no-call, same-call}
use Rattle.ame_calculus.proofs.EffectLemmas.{below-next}
use Rattle.ame_calculus.proofs.EndingLemmas.{is_among, IsRedone, IsEnding, ending}

-- Stores

-- each location that a run made is set
goes-set : (side : Side) (term : Tree) (inputs : List Val) (n : ℕ) (p : LocalState) → goes side (begun_with term inputs) n ≡ Some p → HasSetMade p
goes-set side term inputs zero p e = let same : begun_with term inputs ≡ p = cc in subst HasSetMade same tt
goes-set side term inputs (suc n) p e =
    option_and_then_some (one_step side) (goes side (begun_with term inputs) n) p e (λ q first second. step-set side q p second (goes-set side term inputs n q first))

none-both : (a b : Option Val) → or_else a b ≡ None → (a ≡ None) × (b ≡ None)
none-both None b e = (refl, e)
none-both (Some x) b e = cc

-- a location that a run took or made isn't one that the other set
unset-where : (o : Option Val) → (IsSome o → ⊥) → o ≡ None
unset-where None never = refl
unset-where (Some x) never = absurd (never refl)

module _ (sets : List (ℕ × Val)) (store other : List (ℕ × Val)) where
  -- what was taken from a store is taken from one that differs only in what the other run set
  seen-agrees : (seen : List (ℕ × Val)) → ((l : ℕ) → IsSome (at sets l) → AllByRecursion (λ e. e.0 ≢ l) seen) → ((l : ℕ) → at sets l ≡ None → at store l ≡ at other l)
      → AllByRecursion (λ e. at store e.0 ≡ Some e.1) seen → AllByRecursion (λ e. at other e.0 ≡ Some e.1) seen
  seen-agrees [] apart same all = tt
  seen-agrees (e ∷ seen) apart same all = (
    sym (same e.0 (unset-where (at sets e.0) (λ there. (apart e.0 there).0 refl))) ∙ all.0,
    seen-agrees seen (λ l there. (apart l there).1) same all.1,
  )

  made-agrees : (own : List (ℕ × Val)) (made : List (ℕ × Option Val)) → ((l : ℕ) → IsSome (at sets l) → at own l ≡ None) → ((l : ℕ) → at sets l ≡ None → at store l ≡ at other l)
      → AllByRecursion (λ e. is_some (at own e.0) ≡ true) made → AllByRecursion (λ e. (at store e.0 ≡ None) × (e.1 ≡ None)) made
      → AllByRecursion (λ e. (at other e.0 ≡ None) × (e.1 ≡ None)) made
  made-agrees own [] apart same set all = tt
  made-agrees own (e ∷ made) apart same set all = (
    (sym (same e.0 (unset-where (at sets e.0) (λ there. let clash : false ≡ true = sym (ap is_some (apart e.0 there)) ∙ set.0 in cc))) ∙ all.0.0, all.0.1),
    made-agrees own made apart same set.1 all.1,
  )

-- a run that agrees with one store agrees with the other
agrees-too : (sets store other : List (ℕ × Val)) (p : LocalState) → ((l : ℕ) → IsSome (at sets l) → LeavesAlone l p) → ((l : ℕ) → at sets l ≡ None → at store l ≡ at other l)
    → HasSetMade p → AgreesWith store p → AgreesWith other p
agrees-too sets store other p apart same set a = record {
  seen = seen-agrees sets store other p.seen (λ l there. (apart l there).1) same a.seen;
  own = a.own;
  made = made-agrees sets store other p.sets p.made (λ l there. (apart l there).0) same set a.made;
}

-- the stores after both, in either order
both-stored : (o w below : Option Val) → (IsSome o → w ≡ None) → or_else o (or_else w below) ≡ or_else w (or_else o below)
both-stored None w below apart = refl
both-stored (Some x) w below apart = sym (ap (λ (z : Option Val). or_else z (Some x)) (apart refl))

-- A run of one member after another

-- the run is made in another state
moved : (r s : Replayed) (e : Entry) (side : Side) (n : ℕ) (p : LocalState) → TellsRun r e side n p → s.state.active ≡ None → at s.state.members e.number ≡ at r.state.members e.number
    → AgreesWith s.state.store p → TellsRun s e side n p
moved r s e side n p tells idle same agrees = record {
  idle = idle;
  stands = ap (λ (o : Option Tree). side_told (has_such (λ t. at_unprotected (focus t)) o)) same ∙ tells.stands;
  term = tells.term;
  member = same ∙ tells.member;
  inputs = tells.inputs;
  ran = tells.ran;
  agrees = agrees;
  fresh = tells.fresh;
  answer = tells.answer;
}

-- another member stays as it was
other-stays : (s : State) (i : ℕ) (p : LocalState) (t : State) (k : ℕ) → IsAfterRun s i p t → (k ≡ i → ⊥) → k < s.next → at t.members k ≡ at s.members k
other-stays s i p t k h apart below = h.others k apart ∙ joined-below s.members s.next p.spawns k below

-- The members after two runs, if one of them starts no fragments

module _ (r s t u v : State) (i j : ℕ) (p q : LocalState) (first : IsAfterRun r i p s) (second : IsAfterRun s j q t) (other : IsAfterRun r j q u) (last : IsAfterRun u i p v) where
  joined-none : (k : ℕ) → (k ≡ i → ⊥) → (k ≡ j → ⊥) → p.spawns ≡ [] → at v.members k ≡ at t.members k
  joined-none k a b none =
      let next : s.next ≡ r.next = first.next ∙ ap (λ (bs : List Tree). r.next + length bs) none ∙ rest in
      last.others k a ∙ ap (λ (bs : List Tree). at (with_members u.members u.next bs) k) none ∙ other.others k b
      ∙ sym (joined-alike s.members r.members r.next q.spawns k (first.others k a ∙ ap (λ (bs : List Tree). at (with_members r.members r.next bs) k) none))
      ∙ sym (ap (λ (n : ℕ). at (with_members s.members n q.spawns) k) next) ∙ sym (second.others k b)
    where
      rest : r.next + 0 ≡ r.next
      rest = omega arith

  outputs-none : p.prints ≡ [] → v.output ≡ t.output
  outputs-none none =
      last.output ∙ ap (λ (ns : List ℤ). u.output ++ ns) none ∙ append-nil u.output ∙ other.output
      ∙ ap (λ (ns : List ℤ). ns ++ q.prints) (sym (first.output ∙ ap (λ (ns : List ℤ). r.output ++ ns) none ∙ append-nil r.output)) ∙ sym second.output

  nexts : v.next ≡ t.next
  nexts =
      let a : s.next ≡ r.next + length p.spawns = first.next in
      let b : t.next ≡ s.next + length q.spawns = second.next in
      let c : u.next ≡ r.next + length q.spawns = other.next in
      let d : v.next ≡ u.next + length p.spawns = last.next in
      omega arith

-- the same with the two orders exchanged
module _ (r s t u v : State) (i j : ℕ) (p q : LocalState) (first : IsAfterRun r i p s) (second : IsAfterRun s j q t) (other : IsAfterRun r j q u) (last : IsAfterRun u i p v)
    (alone : AreIndependent p q) (apart : i ≡ j → ⊥) (in_first : i < r.next) (in_second : j < r.next) (mine mine_then : Option Tree)
    (at_first : at s.members i ≡ mine) (at_last : at v.members i ≡ mine) (at_other : at u.members j ≡ mine_then) (at_second : at t.members j ≡ mine_then)
    (idle : t.active ≡ None) (idle_then : v.active ≡ None) (ordered : IsOrderly t) (ordered_then : IsOrderly v) where
  members-same : (k : ℕ) → at v.members k ≡ at t.members k
  members-same k =
      same_or k i (at v.members k ≡ at t.members k)
      (λ e. subst (λ (n : ℕ). at v.members n ≡ at t.members n) (sym e)
      (at_last ∙ sym at_first ∙ sym (other-stays s j q t i second apart (let a : s.next ≡ r.next + length p.spawns = first.next in omega arith))))
      (λ not_i.
      same_or k j (at v.members k ≡ at t.members k)
      (λ e. subst (λ (n : ℕ). at v.members n ≡ at t.members n) (sym e)
      (other-stays u i p v j last (λ same. apart (sym same)) (let a : u.next ≡ r.next + length q.spawns = other.next in omega arith) ∙ at_other ∙ sym at_second))
      (λ not_j. by not_i not_j alone.starts))
    where
      by : (k ≡ i → ⊥) → (k ≡ j → ⊥) → (p.spawns ≡ []) ⊎ (q.spawns ≡ []) → at v.members k ≡ at t.members k
      by a b (inl none) = joined-none r s t u v i j p q first second other last k a b none
      by a b (inr none) = sym (joined-none r u v s t j i q p other last first second k b a none)

  stores-same : (l : ℕ) → at v.store l ≡ at t.store l
  stores-same l =
      last.stored l ∙ ap (or_else (at p.sets l)) (other.stored l) ∙ both-stored (at p.sets l) (at q.sets l) (at r.store l) (λ there. (alone.first l there).0)
      ∙ sym (second.stored l ∙ ap (or_else (at q.sets l)) (first.stored l))

  outputs-same : v.output ≡ t.output
  outputs-same = by alone.prints
    where
      by : (p.prints ≡ []) ⊎ (q.prints ≡ []) → v.output ≡ t.output
      by (inl none) = outputs-none r s t u v i j p q first second other last none
      by (inr none) = sym (outputs-none r u v s t j i q p other last first second none)

  pub states-same : v ≡ t
  states-same =
      same_state v t
      (found-alike v.store t.store ordered_then.store_rises ordered.store_rises stores-same)
      (found-alike v.members t.members ordered_then.members_rise ordered.members_rise members-same)
      (idle_then ∙ sym idle) outputs-same (nexts r s t u v i j p q first second other last)

-- Entries

one-replayed : (o : Option Replayed) (s t : Replayed) → o ≡ Some s → o ≡ Some t → s ≡ t
one-replayed o s t p q = let e : ◌≡◌ {A = Option Replayed} (Some s) (Some t) = sym p ∙ q in cc

entry-calm : (r s : Replayed) (e : Entry) → IsCalm r → replay_entry r e ≡ Some s → IsCalm s
entry-calm r s e calm replayed = calm-behind r s (e ∷ []) calm (ap (option_and_then (λ (z : Replayed). replay_from z [])) replayed)

-- the two entries in the other order
pub record AreSwapped (r s t : Replayed) (a b : Entry) : Type 0 where
  pub between : Replayed
  pub behind : Replayed
  pub first : replay_entry r b ≡ Some between
  pub second : replay_entry between a ≡ Some behind
  pub state : behind.state ≡ t.state
  pub inside : (k : ℕ) → is_inside behind k ≡ is_inside t k
  pub called : (k : ℕ) → last_call k b.number b.steps b.fresh b.answer r.state ++ last_call k a.number a.steps a.fresh a.answer between.state
      ≡ last_call k a.number a.steps a.fresh a.answer r.state ++ last_call k b.number b.steps b.fresh b.answer s.state

module _ (r s t : Replayed) (a b : Entry) (p q : LocalState) (calm : IsCalm r) (one : replay_entry r a ≡ Some s) (two : replay_entry s b ≡ Some t) (apart : a.number ≡ b.number → ⊥)
    (plain : is_note a.kind ≡ false) (plain_too : is_note b.kind ≡ false) (x : IsOfRun r a p) (y : IsOfRun s b q) (alone : AreIndependent p q) (there : IsSome (at r.state.members b.number)) where
  calm_s : IsCalm s
  calm_s = entry-calm r s a calm one

  calm_t : IsCalm t
  calm_t = entry-calm s t b calm_s two

  end_a : IsEnding r a p x.side x.steps
  end_a = ending r calm a p x s one plain

  end_b : IsEnding s b q y.side y.steps
  end_b = ending s calm_s b q y t two plain_too

  abbrev After : Replayed → Replayed → Entry → LocalState → Option Tree → (List ℕ → List ℕ) → Type 0
  After m n e run last go = IsAfterRun m.state e.number run n.state × (at n.state.members e.number ≡ last) × (n.inside ≡ go m.inside)

  done-is : (m n : Replayed) (e : Entry) (run : LocalState) (last : Option Tree) (go : List ℕ → List ℕ) → IsRedone m e run last go → replay_entry m e ≡ Some n → After m n e run last go
  done-is m n e run last go d is =
      let same = one-replayed (replay_entry m e) d.behind n d.replays is in
      subst (λ (z : Replayed). After m z e run last go) same (d.after_run, d.member, d.inside)

  first_after : After r s a p end_a.last end_a.go
  first_after = done-is r s a p end_a.last end_a.go (end_a.again r x.tells calm.orderly refl) one

  second_after : After s t b q end_b.last end_b.go
  second_after = done-is s t b q end_b.last end_b.go (end_b.again s y.tells calm_s.orderly refl) two

  in_a : a.number < r.state.next
  in_a = below-next r.state a.number calm.orderly (ap is_some x.tells.member)

  in_b : b.number < r.state.next
  in_b = below-next r.state b.number calm.orderly there

  -- the second entry first
  b_stays : at s.state.members b.number ≡ at r.state.members b.number
  b_stays = other-stays r.state a.number p s.state b.number first_after.0 (λ same. apart (sym same)) in_b

  tells_b : TellsRun r b y.side y.steps q
  tells_b =
      moved s r b y.side y.steps q y.tells calm.idle (sym b_stays)
      (agrees-too p.sets s.state.store r.state.store q alone.first
      (λ l none. first_after.0.stored l ∙ ap (λ (o : Option Val). or_else o (at r.state.store l)) none)
      (goes-set y.side y.tells.term y.tells.inputs y.steps q y.tells.ran) y.tells.agrees)

  done_b : IsRedone r b q end_b.last end_b.go
  done_b = end_b.again r tells_b calm.orderly (sym (ap (is_among b.number) first_after.2 ∙ end_a.change.others r.inside b.number apart))

  abbrev u : Replayed
  u = done_b.behind

  calm_u : IsCalm u
  calm_u = entry-calm r u b calm done_b.replays

  tells_a : TellsRun u a x.side x.steps p
  tells_a =
      moved r u a x.side x.steps p x.tells calm_u.idle (other-stays r.state b.number q u.state a.number done_b.after_run apart in_a)
      (agrees-too q.sets r.state.store u.state.store p alone.second
      (λ l none. sym (done_b.after_run.stored l ∙ ap (λ (o : Option Val). or_else o (at r.state.store l)) none))
      (goes-set x.side x.tells.term x.tells.inputs x.steps p x.tells.ran) x.tells.agrees)

  done_a : IsRedone u a p end_a.last end_a.go
  done_a = end_a.again u tells_a calm_u.orderly (ap (is_among a.number) done_b.inside ∙ end_b.change.others r.inside a.number (λ same. apart (sym same)))

  calm_v : IsCalm done_a.behind
  calm_v = entry-calm u done_a.behind a calm_u done_a.replays

  -- who is inside
  inside-same : (k : ℕ) → is_among k (end_a.go (end_b.go r.inside)) ≡ is_among k (end_b.go (end_a.go r.inside))
  inside-same k =
      same_or a.number k (is_among k (end_a.go (end_b.go r.inside)) ≡ is_among k (end_b.go (end_a.go r.inside)))
      (λ e. subst (λ (n : ℕ). is_among n (end_a.go (end_b.go r.inside)) ≡ is_among n (end_b.go (end_a.go r.inside))) e
      (end_a.change.own (end_b.go r.inside) r.inside (end_b.change.others r.inside a.number (λ same. apart (sym same)))
      ∙ sym (end_b.change.others (end_a.go r.inside) a.number (λ same. apart (sym same)))))
      (λ not_a.
      same_or b.number k (is_among k (end_a.go (end_b.go r.inside)) ≡ is_among k (end_b.go (end_a.go r.inside)))
      (λ e. subst (λ (n : ℕ). is_among n (end_a.go (end_b.go r.inside)) ≡ is_among n (end_b.go (end_a.go r.inside))) e
      (end_a.change.others (end_b.go r.inside) b.number apart
      ∙ end_b.change.own r.inside (end_a.go r.inside) (sym (end_a.change.others r.inside b.number apart))))
      (λ not_b.
      end_a.change.others (end_b.go r.inside) k not_a ∙ end_b.change.others r.inside k not_b
      ∙ sym (end_b.change.others (end_a.go r.inside) k not_b ∙ end_a.change.others r.inside k not_a)))

  -- which calls they make
  calls-same : (k : ℕ) → last_call k b.number b.steps b.fresh b.answer r.state ++ last_call k a.number a.steps a.fresh a.answer u.state
      ≡ last_call k a.number a.steps a.fresh a.answer r.state ++ last_call k b.number b.steps b.fresh b.answer s.state
  calls-same k =
      ap (λ ls. last_call k b.number b.steps b.fresh b.answer r.state ++ ls) (same-call k r a p x u.state tells_a.idle (other-stays r.state b.number q u.state a.number done_b.after_run apart in_a) tells_a.agrees)
      ∙ ap (λ ls. ls ++ last_call k a.number a.steps a.fresh a.answer r.state) (same-call k s b q y r.state tells_b.idle (sym b_stays) tells_b.agrees)
      ∙ by alone.calls
    where
      by : (p.answer ≡ None) ⊎ (q.answer ≡ None) → last_call k b.number b.steps b.fresh b.answer s.state ++ last_call k a.number a.steps a.fresh a.answer r.state
          ≡ last_call k a.number a.steps a.fresh a.answer r.state ++ last_call k b.number b.steps b.fresh b.answer s.state
      by (inl none) =
          let quiet : last_call k a.number a.steps a.fresh a.answer r.state ≡ [] =
          ap (λ (o : Option ℤ). last_call k a.number a.steps a.fresh o r.state) (x.tells.answer ∙ none) ∙ no-call k a.number a.steps a.fresh r.state in
          ap (λ ls. last_call k b.number b.steps b.fresh b.answer s.state ++ ls) quiet ∙ append-nil (last_call k b.number b.steps b.fresh b.answer s.state)
          ∙ sym (ap (λ ls. ls ++ last_call k b.number b.steps b.fresh b.answer s.state) quiet)
      by (inr none) =
          let quiet : last_call k b.number b.steps b.fresh b.answer s.state ≡ [] =
          ap (λ (o : Option ℤ). last_call k b.number b.steps b.fresh o s.state) (y.tells.answer ∙ none) ∙ no-call k b.number b.steps b.fresh s.state in
          ap (λ ls. ls ++ last_call k a.number a.steps a.fresh a.answer r.state) quiet
          ∙ sym (ap (λ ls. last_call k a.number a.steps a.fresh a.answer r.state ++ ls) quiet ∙ append-nil (last_call k a.number a.steps a.fresh a.answer r.state))

  pub swapped : AreSwapped r s t a b
  swapped = record {
    between = u;
    behind = done_a.behind;
    first = done_b.replays;
    second = done_a.replays;
    state =
        states-same r.state s.state t.state u.state done_a.behind.state a.number b.number p q first_after.0 second_after.0 done_b.after_run done_a.after_run alone apart in_a in_b
        end_a.last end_b.last first_after.1 done_a.member done_b.member second_after.1 calm_t.idle calm_v.idle calm_t.orderly calm_v.orderly;
    called = calls-same;
    inside = λ k.
        ap (is_among k) (done_a.inside ∙ ap end_a.go done_b.inside) ∙ inside-same k ∙ sym (ap (is_among k) (second_after.2 ∙ ap end_b.go first_after.2));
  }

pub may-swap : (r s t : Replayed) (a b : Entry) → IsCalm r → MaySwap r a b → replay_entry r a ≡ Some s → replay_entry s b ≡ Some t → AreSwapped r s t a b
may-swap r s t a b calm m one two =
    let same : s ≡ m.between = one-replayed (replay_entry r a) s m.between one m.replays in
    subst (λ (z : Replayed). AreSwapped r z t a b) (sym same)
    (swapped r m.between t a b m.p m.q calm m.replays (ap (λ (z : Replayed). replay_entry z b) (sym same) ∙ two) m.apart m.first_plain m.second_plain m.first m.second m.alone m.there)
