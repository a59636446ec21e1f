-- A weak run within the bounds has a journal that passes no form that would become a value that is too high.
use Rattle.std.proofs.Common.{◌≡◌, ℕ, ◌+◌, ◌==◌, ◌⊎◌, inl, inr, ℤ, Bool, true, false, List, [], ◌∷◌, ◌++◌, append-nil, Option, Some, None, is_none, option_map, option_and_then, if◌then◌else◌, refl, sym, ap, ◌∙◌, subst, arith, eq-eqb}
use Rattle.std.specs.Prelude.{◌&&◌, not}
use Rattle.std.specs.List.{list_any}
use Rattle.ame_term.specs.Tree.{Tree}
use Rattle.ame_term.specs.Signature.{Signature}
use Rattle.ame_term.specs.Frame.{Side}
use Rattle.ame_term.specs.Context.{focus}
use Rattle.ame_term.specs.Act.{device_answer}
use Rattle.ame_term.specs.Height.{max_height}
use Rattle.ame_term.specs.Maps.{at}
use Rattle.ame_term.specs.State.{State, after, reduce, closed}
use Rattle.ame_term.specs.declared.semantics.StepKind.{StepKind}
use Rattle.ame_term.specs.declared.semantics.Label.{Label}
use Rattle.ame_journal.specs.declared.entry.Entry.{Entry}
use Rattle.ame_journal.specs.Labels.{fresh_of}
use Rattle.ame_journal.specs.Replayed.{Replayed, begun_at, is_at_unprotected, leaving, has_such, side_at, coming_height, is_tall}
use Rattle.ame_journal.specs.Replay.{replay_from, replay, attempt_on}
use Rattle.ame_journal.proofs.ReplayLemmas.{replay_from-append}
use Rattle.ame_journal.proofs.StepLemmas.{performed-keeps, free-reduced, close-is, leave-is, end-is}
use Rattle.ame_machine.specs.Run.Local.{begun_with}
use Rattle.ame_machine.specs.Run.Told.{IsTooHigh}
use Rattle.ame_machine.specs.Move.{GoesLow}
use Rattle.ame_check.specs.Entries.{MeetsTall}
use Rattle.ame_strong.specs.Pool.{active_tree}
use Rattle.ame_strong.proofs.PoolLemmas.{at-pool_idle, at-pool_other}
use Rattle.ame_weak.specs.Weak.{Weak, holding_none, moved, held_step, with_held_released, is_resting, may_free, weak_after}
use Rattle.ame_weak.specs.Straight.{Place, arrival, ran, freed, came, entries_of_label, past}
use Rattle.ame_weak.specs.Bounds.{IsTermWithinBounds, IsWithinBounds}
use Rattle.ame_weak.proofs.EntryLemmas.{with_inside, free-stands, close-stands, free-replayed, close-replayed}
use Rattle.ame_weak.proofs.HeldSteps.{if-gave, map-gave}
use Rattle.ame_weak.proofs.FreeSteps.{IsBelow, free-below, close-below}
use Rattle.ame_weak.proofs.WayLemmas.{IsUnderWay, number-below}
use Rattle.ame_weak.proofs.Follow.{IsFollowed, follow-label}
use Rattle.ame_certified.specs.Low.{IsLowJournal}
use Rattle.ame_certified.proofs.JudgedLemmas.{one-low}
use Rattle.ame_certified.proofs.WayLemmas.{WayIsLow, way-none, way-of, low-of, low-more, within-low}
use Rattle.ame_certified.proofs.FreedLemmas.{freed-low, closed-calm}

both-true : (a b : Bool) → (a && b) ≡ true → (a ≡ true) × (b ≡ true)
both-true true b e = (refl, e)
both-true false b e = cc

-- who rests while another member is active is another one
rests-other : (o : Option ℕ) (i j : ℕ) → o ≡ Some i → is_resting o j ≡ true → j ≡ i → ⊥
rests-other o i j is rests same =
    let told : not (i == j) ≡ true = ap (λ (z : Option ℕ). is_resting z j) (sym is) ∙ rests in
    let one : (i == j) ≡ true = eq-eqb i j (sym same) in
    let clash : false ≡ true = ap not (sym one) ∙ told in
    cc

-- who is active stays
free-active : (j : ℕ) (kind : StepKind) (s t : State) → after s (Label.Free j kind) ≡ Some t → t.active ≡ s.active
free-active j kind s t e =
    let x = free-reduced kind j s t e in
    ap (λ (z : State). z.active) (sym x.is) ∙ (performed-keeps kind x.act s x.result x.made).keeps.active

close-active : (j : ℕ) (s t : State) → after s (Label.Close j) ≡ Some t → t.active ≡ s.active
close-active j s t e = ap (λ (z : State). z.active) (close-is j s t e).1

-- A fragment under way

module _ (signature : Signature) (s : State) (i n : ℕ) (fresh : List ℕ) (w : Weak) (u : IsUnderWay signature s i n fresh w) (low : WayIsLow s i n fresh) where
  goes-low : GoesLow Side.Protected (begun_with u.term u.inputs) n
  goes-low = low-of s i u.term u.inputs u.member u.idle u.calm n u.place u.ran u.agrees (subst (WayIsLow s i n) (sym u.made) low)

  step-calm : IsTermWithinBounds (active_tree w.state) → IsTooHigh Side.Protected u.place → ⊥
  step-calm within high =
      let there : active_tree w.state ≡ Some u.place.term = ap (λ (o : Option ℕ). option_and_then (at w.state.members) o) u.laid.active ∙ u.stands in
      within-low Side.Protected (active_tree w.state) within (ap (has_such (λ (t : Tree). coming_height Side.Protected (focus t) == max_height + 1)) there ∙ high)

  pub stepped-way : (kind : StepKind) → IsTermWithinBounds (active_tree w.state) → WayIsLow s i (n + 1) (fresh ++ fresh_of kind)
  stepped-way kind within =
      let more = low-more s i u.term u.inputs u.member u.idle u.calm n u.place u.ran u.agrees goes-low (step-calm within) in
      subst (λ (xs : List ℕ). WayIsLow s i (n + 1) (xs ++ fresh_of kind)) u.made
      (way-of s i u.term u.inputs u.member u.idle u.calm n u.place u.ran u.agrees (n + 1) (fresh_of kind) (omega arith) more)

  -- after a step of another member
  other-way : (y t : State) → IsBelow s i u.place w y t → WayIsLow t i n fresh
  other-way y t k =
      subst (WayIsLow t i n) (append-nil u.place.fresh ∙ u.made)
      (way-of t i u.term u.inputs (k.stays ∙ u.member) (k.active ∙ u.idle) u.calm n u.place u.ran k.agrees n [] (omega arith) goes-low)

-- The labels so far

-- Their journal leads to r and passes no such form, and the weak state is over r; nor does the fragment under way, if one is.
pub record IsLowSo (signature : Signature) (program : Tree) (journal : List Entry) (r : Replayed) (p : Place) (w : Weak) : Type 0 where
  pub follows : IsFollowed signature r p w
  pub replayed : replay program journal ≡ Some r
  pub low : IsLowJournal program journal
  pub way : IsUnderWay signature r.state p.number p.steps p.fresh w → WayIsLow r.state p.number p.steps p.fresh

-- nothing is active, and so no fragment is under way
pub resting-way : (signature : Signature) (s t : State) (i n : ℕ) (fresh : List ℕ) (w : Weak) → w.state.active ≡ None → IsUnderWay signature s i n fresh w → WayIsLow t i n fresh
resting-way signature s t i n fresh w idle u =
    let clash : ◌≡◌ {A = Option ℕ} (Some i) None = sym u.laid.active ∙ idle in absurd (cc)

-- another state that is the same
same-way : (s t : State) (i n : ℕ) (fresh : List ℕ) → s ≡ t → WayIsLow s i n fresh → WayIsLow t i n fresh
same-way s t i n fresh same low = subst (λ (z : State). WayIsLow z i n fresh) same low

module _ (signature : Signature) (program : Tree) (journal : List Entry) (r : Replayed) (p : Place) (w v : Weak) (h : IsLowSo signature program journal r p w) where
  -- what one more label comes to
  abbrev Next : Label → Type 0
  Next label = (behind : Replayed) × IsLowSo signature program (journal ++ entries_of_label p label) behind (past p label) v

  next : (label : Label) → weak_after w label ≡ Some v → IsLowJournal program (journal ++ entries_of_label p label)
      → ((behind : Replayed) → replay_from r (entries_of_label p label) ≡ Some behind → IsUnderWay signature behind.state (past p label).number (past p label).steps (past p label).fresh v
      → WayIsLow behind.state (past p label).number (past p label).steps (past p label).fresh) → Next label
  next label e low way =
      let a = follow-label signature r p w v label h.follows e in (
        a.behind,
        record {
          follows = a.follows;
          replayed =
              replay_from-append (begun_at program) journal (entries_of_label p label)
              ∙ ap (option_and_then (λ (t : Replayed). replay_from t (entries_of_label p label))) h.replayed ∙ a.replays;
          low = low;
          way = way a.behind a.replays;
        },
      )

  no-more : IsLowJournal program (journal ++ [])
  no-more = subst (IsLowJournal program) (sym (append-nil journal)) h.low

  -- the state stays if no entry is added
  still : (behind : Replayed) → replay_from r [] ≡ Some behind → r.state ≡ behind.state
  still behind e = let same : r ≡ behind = cc in ap (λ (z : Replayed). z.state) same

  idle : r.state.active ≡ None
  idle = h.follows.calm.idle

  activated-low : (i : ℕ) → weak_after w (Label.Activate i) ≡ Some v → Next (Label.Activate i)
  activated-low i e = next (Label.Activate i) e no-more (λ behind replays u. way-none behind.state i [])

  -- A fragment under way

  module _ (u : IsUnderWay signature r.state p.number p.steps p.fresh w) where
    -- its entry
    ran-met : MeetsTall r (ran p.number p.steps p.fresh) → ⊥
    ran-met m =
        let on : side_at p.number r.state ≡ Side.Protected = m.side in
        h.way u m.made m.used m.rest m.there m.below m.front
        (ap (λ (side : Side). attempt_on side p.number m.made m.used r.state) (sym on) ∙ m.leads)
        (ap (λ (side : Side). is_tall side p.number m.there) (sym on) ∙ m.tall)

    ran-low : IsLowJournal program (journal ++ ran p.number p.steps p.fresh ∷ [])
    ran-low = one-low program journal (ran p.number p.steps p.fresh) r h.replayed h.low ran-met

    left-low : weak_after w Label.Leave ≡ Some v → Next Label.Leave
    unfolding weak_after
    left-low e =
        let m = map-gave (λ (s : State). with_held_released (moved w s)) (after w.state Label.Leave) v e in
        let gone : m.0.active ≡ None = ap (λ (z : State). z.active) (leave-is p.number w.state m.0 u.laid.active m.1).1 in
        next Label.Leave e ran-low (λ behind replays x. resting-way signature behind.state behind.state p.number p.steps p.fresh v (ap (λ (z : Weak). z.state.active) (sym m.2) ∙ gone) x)

    ended-low : weak_after w Label.End ≡ Some v → Next Label.End
    unfolding weak_after
    ended-low e =
        let m = map-gave (λ (s : State). with_held_released (moved w s)) (after w.state Label.End) v e in
        let gone : m.0.active ≡ None = ap (λ (z : State). z.active) (end-is p.number w.state m.0 u.laid.active m.1) in
        next Label.End e ran-low (λ behind replays x. resting-way signature behind.state behind.state p.number p.steps p.fresh v (ap (λ (z : Weak). z.state.active) (sym m.2) ∙ gone) x)

  -- Unprotected code

  -- the entries of a member that stands under `unprotected`, and is at no such form
  entries-low : (j : ℕ) (fresh : List ℕ) (answer : Option ℤ) → is_at_unprotected j r.state ≡ true → (is_tall Side.Unprotected j r.state ≡ true → ⊥) → (behind : Replayed)
      → replay_from r (arrival p.inside j ++ freed j fresh answer ∷ []) ≡ Some behind → IsLowJournal program (journal ++ (arrival p.inside j ++ freed j fresh answer ∷ []))
  entries-low j fresh answer stands calm behind leads =
      freed-low program journal r h.replayed h.low j fresh answer stands calm (list_any (λ k. k == j) p.inside) behind leads

  free-low : (j : ℕ) (kind : StepKind) (t : State) → after r.state (Label.Free j kind) ≡ Some t → IsTermWithinBounds (at r.state.members j) → weak_after w (Label.Free j kind) ≡ Some v
      → (IsUnderWay signature t p.number p.steps p.fresh v → WayIsLow t p.number p.steps p.fresh) → Next (Label.Free j kind)
  free-low j kind t legal within e way =
      let a = follow-label signature r p w v (Label.Free j kind) h.follows e in
      next (Label.Free j kind) e
      (entries-low j (fresh_of kind) (device_answer kind) (free-stands j kind r.state t legal) (within-low Side.Unprotected (at r.state.members j) within) a.behind a.replays)
      (λ behind replays.
      let there = ap (λ (xs : List ℕ). replay_from r (arrival xs j ++ freed j (fresh_of kind) (device_answer kind) ∷ [])) h.follows.inside ∙ free-replayed r j t kind legal in
      let both : Some (with_inside t (came r.inside j)) ≡ Some behind = sym there ∙ replays in
      let one : with_inside t (came r.inside j) ≡ behind = cc in
      let same : t ≡ behind.state = ap (λ (z : Replayed). z.state) one in
      subst (λ (z : State). IsUnderWay signature z p.number p.steps p.fresh v → WayIsLow z p.number p.steps p.fresh) same way)

  close-low : (j : ℕ) (t : State) → after r.state (Label.Close j) ≡ Some t → (is_tall Side.Unprotected j r.state ≡ true → ⊥) → weak_after w (Label.Close j) ≡ Some v
      → (IsUnderWay signature t p.number p.steps p.fresh v → WayIsLow t p.number p.steps p.fresh) → Next (Label.Close j)
  close-low j t legal calm e way =
      let a = follow-label signature r p w v (Label.Close j) h.follows e in
      next (Label.Close j) e
      (entries-low j [] None (close-stands j r.state t legal) calm a.behind a.replays)
      (λ behind replays.
      let there = ap (λ (xs : List ℕ). replay_from r (arrival xs j ++ freed j [] None ∷ [])) h.follows.inside ∙ close-replayed r j t legal in
      let both : Some (leaving (with_inside r.state (came r.inside j)) j t) ≡ Some behind = sym there ∙ replays in
      let one : leaving (with_inside r.state (came r.inside j)) j t ≡ behind = cc in
      let same : t ≡ behind.state = ap (λ (z : Replayed). z.state) one in
      subst (λ (z : State). IsUnderWay signature z p.number p.steps p.fresh v → WayIsLow z p.number p.steps p.fresh) same way)

  -- While nothing is active

  module _ (rests : w ≡ holding_none r.state) where
    idle-there : w.state.active ≡ None
    idle-there = ap (λ (z : Weak). z.state.active) rests ∙ idle

    no-active : {X : Type 0} (go : ℕ → Option X) (x : X) → option_and_then go w.state.active ≡ Some x → ⊥
    no-active go x e = let clash : ◌≡◌ None (Some x) = sym (ap (option_and_then go) idle-there) ∙ e in cc

    rest-low : (label : Label) → weak_after w label ≡ Some v → IsWithinBounds w label → Next label
    unfolding weak_after after
    rest-low (Label.Activate i) e within = activated-low i e
    rest-low (Label.Step kind) e within = absurd (no-active (λ i. held_step kind i w) v e)
    rest-low Label.Leave e within =
        let m = map-gave (λ (s : State). with_held_released (moved w s)) (after w.state Label.Leave) v e in absurd (no-active _ m.0 m.1)
    rest-low Label.End e within =
        let m = map-gave (λ (s : State). with_held_released (moved w s)) (after w.state Label.End) v e in absurd (no-active _ m.0 m.1)
    rest-low (Label.Free j kind) e within =
        let b = if-gave (is_resting w.state.active j && may_free w.state.active kind) (option_map (moved w) (reduce Side.Unprotected kind j w.state)) v e in
        let m = map-gave (moved w) (reduce Side.Unprotected kind j w.state) v b.1 in
        let below = ap (λ (z : Weak). reduce Side.Unprotected kind j z.state) (sym rests) ∙ m.1 in
        let legal : after r.state (Label.Free j kind) ≡ Some m.0 =
        ap (λ (o : Option ℕ). if is_none o then reduce Side.Unprotected kind j r.state else None) idle ∙ below in
        let gone : v.state.active ≡ None = ap (λ (z : Weak). z.state.active) (sym m.2) ∙ free-active j kind r.state m.0 legal ∙ idle in
        let small = subst IsTermWithinBounds (at-pool_idle w.state j idle-there ∙ ap (λ (z : Weak). at z.state.members j) rests) within in
        free-low j kind m.0 legal small e (resting-way signature m.0 m.0 p.number p.steps p.fresh v gone)
    rest-low (Label.Close j) e within =
        let b = if-gave (is_resting w.state.active j) (option_map (moved w) (closed j w.state)) v e in
        let m = map-gave (moved w) (closed j w.state) v b.1 in
        let below = ap (λ (z : Weak). closed j z.state) (sym rests) ∙ m.1 in
        let legal : after r.state (Label.Close j) ≡ Some m.0 = ap (λ (o : Option ℕ). if is_none o then closed j r.state else None) idle ∙ below in
        let gone : v.state.active ≡ None = ap (λ (z : Weak). z.state.active) (sym m.2) ∙ close-active j r.state m.0 legal ∙ idle in
        close-low j m.0 legal (closed-calm j r.state m.0 below) e (resting-way signature m.0 m.0 p.number p.steps p.fresh v gone)

  -- While a fragment is active

  module _ (u : IsUnderWay signature r.state p.number p.steps p.fresh w) where
    way-low : (label : Label) → weak_after w label ≡ Some v → IsWithinBounds w label → Next label
    unfolding weak_after after
    way-low (Label.Activate i) e within = activated-low i e
    way-low (Label.Step kind) e within =
        next (Label.Step kind) e no-more (λ behind replays x. same-way r.state behind.state p.number (p.steps + 1) (p.fresh ++ fresh_of kind) (still behind replays) (stepped-way signature r.state p.number p.steps p.fresh w u (h.way u) kind within))
    way-low Label.Leave e within = left-low u e
    way-low Label.End e within = ended-low u e
    way-low (Label.Free j kind) e within =
        let b = if-gave (is_resting w.state.active j && may_free w.state.active kind) (option_map (moved w) (reduce Side.Unprotected kind j w.state)) v e in
        let both = both-true (is_resting w.state.active j) (may_free w.state.active kind) b.0 in
        let m = map-gave (moved w) (reduce Side.Unprotected kind j w.state) v b.1 in
        let other = rests-other w.state.active p.number j u.laid.active both.0 in
        let may : may_free (Some p.number) kind ≡ true = ap (λ (o : Option ℕ). may_free o kind) (sym u.laid.active) ∙ both.1 in
        let k = free-below signature u.cells r.state p.number u.place w u.typed u.laid u.agrees u.set (λ l content is. u.untouched l content is)
        (number-below signature r.state p.number p.steps p.fresh w u) j kind m.0 other may m.1 in
        let legal : after r.state (Label.Free j kind) ≡ Some k.0 = ap (λ (o : Option ℕ). if is_none o then reduce Side.Unprotected kind j r.state else None) idle ∙ k.1 in
        let small = subst IsTermWithinBounds (at-pool_other w.state p.number j u.laid.active (λ same. other (sym same)) ∙ u.laid.others j other) within in
        free-low j kind k.0 legal small e (λ x. other-way signature r.state p.number p.steps p.fresh w u (h.way u) m.0 k.0 k.2)
    way-low (Label.Close j) e within =
        let b = if-gave (is_resting w.state.active j) (option_map (moved w) (closed j w.state)) v e in
        let m = map-gave (moved w) (closed j w.state) v b.1 in
        let other = rests-other w.state.active p.number j u.laid.active b.0 in
        let k = close-below signature u.cells r.state p.number u.place w u.typed u.laid u.agrees u.set (λ l content is. u.untouched l content is)
        (number-below signature r.state p.number p.steps p.fresh w u) j m.0 other m.1 in
        let legal : after r.state (Label.Close j) ≡ Some k.0 = ap (λ (o : Option ℕ). if is_none o then closed j r.state else None) idle ∙ k.1 in
        close-low j k.0 legal (closed-calm j r.state k.0 k.1) e (λ x. other-way signature r.state p.number p.steps p.fresh w u (h.way u) m.0 k.0 k.2)

  pub label-low : (label : Label) → weak_after w label ≡ Some v → IsWithinBounds w label → Next label
  label-low label e within = by h.follows.stands
    where
      by : (w ≡ holding_none r.state) ⊎ IsUnderWay signature r.state p.number p.steps p.fresh w → Next label
      by (inl rests) = rest-low rests label e within
      by (inr u) = way-low u label e within
