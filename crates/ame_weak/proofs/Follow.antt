-- The journal of a weak run, label by label.
use Rattle.std.proofs.Common.{◌≡◌, ℕ, ◌==◌, ◌++◌, ◌⊎◌, inl, inr, Bool, true, false, not, List, [], ◌∷◌, filter, Option, Some, None, is_none, option_map, option_and_then, if◌then◌else◌, refl, sym, ap, ◌∙◌, subst, arith}
use Rattle.std.specs.Prelude.{◌&&◌}
use Rattle.ame_term.specs.Tree.{Tree}
use Rattle.ame_term.specs.Signature.{Signature}
use Rattle.ame_term.specs.Frame.{Side, side_told}
use Rattle.ame_term.specs.Context.{focus}
use Rattle.ame_term.specs.Act.{device_answer}
use Rattle.ame_term.specs.Maps.{at, without}
use Rattle.ame_term.specs.State.{State, after, reduce, closed, activated, departed, ended, at_value, at_unprotected}
use Rattle.ame_term.specs.declared.semantics.StepKind.{StepKind}
use Rattle.ame_term.specs.declared.semantics.Label.{Label}
use Rattle.ame_laws.specs.Typed.StoreTyping.{StoreTyping}
use Rattle.ame_laws.specs.Typed.TypedState.{IsTyped}
use Rattle.ame_laws.proofs.MapLemmas.{at-without_same, at-without_other, rise-without}
use Rattle.ame_laws.proofs.Typed.Preserved.{preserved_along}
use Rattle.ame_journal.specs.declared.entry.Entry.{Entry}
use Rattle.ame_journal.specs.Replayed.{Replayed, is_inside, has_such, entering, staying, leaving}
use Rattle.ame_journal.specs.Replay.{redex_act, replay_from}
use Rattle.ame_journal.specs.Labels.{fresh_of}
use Rattle.ame_journal.specs.Calls.{call_at, label_call, device_calls_from}
use Rattle.ame_journal.proofs.StepLemmas.{leave-is, end-is}
use Rattle.ame_journal.proofs.LabelLemmas.{unfold-all, unfolds_all-run}
use Rattle.ame_journal.proofs.ReachedLemmas.{IsCalm, calm-all}
use Rattle.ame_machine.specs.Run.Told.{TellsRun}
use Rattle.ame_machine.proofs.Run.EntryLemmas.{run-left, run-ended}
use Rattle.ame_weak.specs.Weak.{Weak, holding_none, moved, holds_nothing, held_step, with_held_released, is_resting, may_free, weak_after}
use Rattle.ame_weak.specs.Straight.{Place, ran, freed, arrival, came, entries_of_label, past}
use Rattle.ame_weak.proofs.HeldSteps.{if-gave, map-gave}
use Rattle.ame_weak.proofs.LetGo.{let_go-is}
use Rattle.ame_weak.proofs.WayLemmas.{IsUnderWay, way-begun, number-below, way-step, way-free, way-close}
use Rattle.ame_weak.proofs.EntryLemmas.{with_inside, replay-next, free-replayed, close-replayed, free-called, close-called, ran-calls}

-- The entries of the labels so far lead to r. With nothing active, the weak state is its state; otherwise it is
-- under way over it.
pub record IsFollowed (signature : Signature) (r : Replayed) (p : Place) (w : Weak) : Type 0 where
  pub calm : IsCalm r
  pub cells : StoreTyping
  pub typed : IsTyped signature cells r.state
  pub inside : p.inside ≡ r.inside
  pub stands : (w ≡ holding_none r.state) ⊎ IsUnderWay signature r.state p.number p.steps p.fresh w

-- and with one more label
pub record IsNext (signature : Signature) (r : Replayed) (p : Place) (w : Weak) (label : Label) (v : Weak) : Type 0 where
  pub behind : Replayed
  pub replays : replay_from r (entries_of_label p label) ≡ Some behind
  pub called : (k : ℕ) → device_calls_from k r (entries_of_label p label) ≡ label_call k w.state label
  pub follows : IsFollowed signature behind (past p label) v

itself : (n : ℕ) → (n == n) ≡ true
itself n = grind arith

both-true : (a b : Bool) → (a && b) ≡ true → (a ≡ true) × (b ≡ true)
both-true true b e = (refl, e)
both-true false b e = cc

-- a member that rests while another is active is not that one
rests-other : (o : Option ℕ) (i j : ℕ) → o ≡ Some i → is_resting o j ≡ true → j ≡ i → ⊥
rests-other o i j is rests same =
    let told : not (i == j) ≡ true = ap (λ (z : Option ℕ). is_resting z j) (sym is) ∙ rests in
    let one : (i == j) ≡ true = subst (λ (k : ℕ). (i == k) ≡ true) (sym same) (itself i) in
    let clash : false ≡ true = ap not (sym one) ∙ told in
    cc

pub calm-behind : (r t : Replayed) (entries : List Entry) → IsCalm r → replay_from r entries ≡ Some t → IsCalm t
calm-behind r t entries calm e = let all = unfold-all r entries t e in calm-all r entries all.0 t all.1 calm

module _ (signature : Signature) (r : Replayed) (p : Place) (calm : IsCalm r) (cells : StoreTyping) (typed : IsTyped signature cells r.state) (inside : p.inside ≡ r.inside) where
  built : (w : Weak) (label : Label) (v : Weak) (t : Replayed) → replay_from r (entries_of_label p label) ≡ Some t
      → ((k : ℕ) → device_calls_from k r (entries_of_label p label) ≡ label_call k w.state label) → (past p label).inside ≡ t.inside
      → (v ≡ holding_none t.state) ⊎ IsUnderWay signature t.state (past p label).number (past p label).steps (past p label).fresh v → IsNext signature r p w label v
  built w label v t replays called in_then stands =
      let all = unfold-all r (entries_of_label p label) t replays in
      let later = preserved_along signature all.0 cells r.state t.state typed (unfolds_all-run r (entries_of_label p label) all.0 t all.1) in
      record {
        behind = t;
        replays = replays;
        called = called;
        follows = record {
          calm = calm-behind r t (entries_of_label p label) calm replays;
          cells = later.0;
          typed = later.2;
          inside = in_then;
          stands = stands;
        };
      }

  -- a label of unprotected code
  freed-next : (w : Weak) (j : ℕ) (kind : StepKind) (v : Weak) (t : State) → after r.state (Label.Free j kind) ≡ Some t → at r.state.members j ≡ at w.state.members j
      → (v ≡ holding_none t) ⊎ IsUnderWay signature t p.number p.steps p.fresh v → IsNext signature r p w (Label.Free j kind) v
  freed-next w j kind v t legal same stands =
      built w (Label.Free j kind) v (with_inside t (came r.inside j))
      (ap (λ (xs : List ℕ). replay_from r (arrival xs j ++ freed j (fresh_of kind) (device_answer kind) ∷ [])) inside ∙ free-replayed r j t kind legal)
      (λ k.
      ap (λ (xs : List ℕ). device_calls_from k r (arrival xs j ++ freed j (fresh_of kind) (device_answer kind) ∷ [])) inside
      ∙ free-called k r j kind t legal
      ∙ ap (λ (o : Option Tree). call_at k (device_answer kind) (option_and_then (λ (term : Tree). redex_act (focus term)) o)) same)
      (ap (λ (xs : List ℕ). came xs j) inside) stands

  closed-next : (w : Weak) (j : ℕ) (v : Weak) (t : State) → after r.state (Label.Close j) ≡ Some t
      → (v ≡ holding_none t) ⊎ IsUnderWay signature t p.number p.steps p.fresh v → IsNext signature r p w (Label.Close j) v
  closed-next w j v t legal stands =
      built w (Label.Close j) v (leaving (with_inside r.state (came r.inside j)) j t)
      (ap (λ (xs : List ℕ). replay_from r (arrival xs j ++ freed j [] None ∷ [])) inside ∙ close-replayed r j t legal)
      (λ k. ap (λ (xs : List ℕ). device_calls_from k r (arrival xs j ++ freed j [] None ∷ [])) inside ∙ close-called k r j t legal)
      (ap (λ (xs : List ℕ). filter (λ k. not (k == j)) (came xs j)) inside) stands

  -- While nothing is active

  no-active : (go : ℕ → State → Option State) (t : State) → option_and_then (λ i. go i r.state) r.state.active ≡ Some t → ⊥
  no-active go t e =
      let clash : ◌≡◌ {A = Option State} None (Some t) = sym (ap (λ (o : Option ℕ). option_and_then (λ i. go i r.state) o) calm.idle) ∙ e in
      cc

  at-rest : (label : Label) (v : Weak) → weak_after (holding_none r.state) label ≡ Some v → IsNext signature r p (holding_none r.state) label v
  unfolding weak_after after
  at-rest (Label.Activate i) v e =
      let m = map-gave (moved (holding_none r.state)) (after r.state (Label.Activate i)) v e in
      built (holding_none r.state) (Label.Activate i) v r refl (λ k. refl) inside
      (inr (subst (IsUnderWay signature r.state i 0 []) m.2 (way-begun signature cells r.state i m.0 typed calm.idle calm.orderly m.1)))
  at-rest (Label.Step kind) v e =
      absurd (let clash : ◌≡◌ {A = Option Weak} None (Some v) =
      sym (ap (λ (o : Option ℕ). option_and_then (λ i. held_step kind i (holding_none r.state)) o) calm.idle) ∙ e in
      cc)
  at-rest Label.Leave v e =
      let m = map-gave (λ (s : State). with_held_released (moved (holding_none r.state) s)) (after r.state Label.Leave) v e in
      absurd (no-active departed m.0 m.1)
  at-rest Label.End v e =
      let m = map-gave (λ (s : State). with_held_released (moved (holding_none r.state) s)) (after r.state Label.End) v e in
      absurd (no-active ended m.0 m.1)
  at-rest (Label.Free j kind) v e =
      let b = if-gave (is_resting r.state.active j && may_free r.state.active kind) (option_map (moved (holding_none r.state)) (reduce Side.Unprotected kind j r.state)) v e in
      let m = map-gave (moved (holding_none r.state)) (reduce Side.Unprotected kind j r.state) v b.1 in
      let legal : after r.state (Label.Free j kind) ≡ Some m.0 =
      ap (λ (o : Option ℕ). if is_none o then reduce Side.Unprotected kind j r.state else None) calm.idle ∙ m.1 in
      freed-next (holding_none r.state) j kind v m.0 legal refl (inl (sym m.2))
  at-rest (Label.Close j) v e =
      let b = if-gave (is_resting r.state.active j) (option_map (moved (holding_none r.state)) (closed j r.state)) v e in
      let m = map-gave (moved (holding_none r.state)) (closed j r.state) v b.1 in
      let legal : after r.state (Label.Close j) ≡ Some m.0 = ap (λ (o : Option ℕ). if is_none o then closed j r.state else None) calm.idle ∙ m.1 in
      closed-next (holding_none r.state) j v m.0 legal (inl (sym m.2))

  -- While a fragment is active

  module _ (w : Weak) (u : IsUnderWay signature r.state p.number p.steps p.fresh w) where
    tells : TellsRun r (ran p.number p.steps p.fresh) Side.Protected p.steps u.place
    tells = record {
      idle = u.idle;
      stands = ap side_told (ap (has_such (λ (term : Tree). at_unprotected (focus term))) u.member ∙ u.calm);
      term = u.term;
      member = u.member;
      inputs = u.inputs;
      ran = u.ran;
      agrees = u.agrees;
      fresh = sym u.made;
      answer = sym u.quiet;
    }

    outside : is_inside r p.number ≡ false
    outside = by (is_inside r p.number) refl
      where
        by : (b : Bool) → is_inside r p.number ≡ b → b ≡ false
        by false is = refl
        by true is =
            let clash : true ≡ false = sym (calm.standing p.number is) ∙ ap (has_such (λ (term : Tree). at_unprotected (focus term))) u.member ∙ u.calm in
            cc

    value-stands : (b : Bool) (x y : State) → (if b then Some x else None) ≡ Some y → b ≡ true
    value-stands true x y e = refl
    value-stands false x y e = cc

    -- a member that ends is a value
    ends-at : (y : State) → after w.state Label.End ≡ Some y → at_value (focus u.place.term) ≡ true
    unfolding after
    ends-at y e =
        let there : ended p.number w.state ≡ Some y = ap (λ (o : Option ℕ). option_and_then (λ (i : ℕ). ended i w.state) o) (sym u.laid.active) ∙ e in
        let at_term =
        ap (option_and_then (λ (z : Tree). if at_value (focus z) then Some (record w.state { members = without w.state.members p.number; active = None }) else None)) (sym u.stands)
        ∙ there in
        value-stands (at_value (focus u.place.term)) (record w.state { members = without w.state.members p.number; active = None }) y at_term

    left-next : (y : State) → after w.state Label.Leave ≡ Some y → (v : Weak) → with_held_released (moved w y) ≡ v → IsNext signature r p w Label.Leave v
    left-next y e v is =
        let gone = leave-is p.number w.state y u.laid.active e in
        let stands : at_unprotected (focus u.place.term) ≡ true = sym (ap (has_such (λ (term : Tree). at_unprotected (focus term))) u.stands) ∙ gone.0 in
        let x = run-left r (ran p.number p.steps p.fresh) p.steps u.place tells refl refl outside stands in
        let replays : replay_from r (entries_of_label p Label.Leave) ≡ Some (entering r p.number x.0) = replay-next r (entering r p.number x.0) (entering r p.number x.0) (ran p.number p.steps p.fresh) [] x.1 refl in
        let ordered = (calm-behind r (entering r p.number x.0) (entries_of_label p Label.Leave) calm replays).orderly in
        let same =
        let_go-is r.state p.number u.place w x.0 w.state.members u.laid u.orderly u.orderly.members_rise (λ k apart. refl) (u.stands ∙ sym x.3)
        (number-below signature r.state p.number p.steps p.fresh w u) x.2 x.4 ordered in
        built w Label.Leave v (entering r p.number x.0) replays (λ k. ran-calls k r p.number p.steps p.fresh)
        (ap (λ (xs : List ℕ). p.number ∷ xs) inside)
        (inl (sym is ∙ ap (λ (s : State). with_held_released (moved w s)) gone.1 ∙ same))

    ended-next : (y : State) → after w.state Label.End ≡ Some y → (v : Weak) → with_held_released (moved w y) ≡ v → IsNext signature r p w Label.End v
    ended-next y e v is =
        let gone = end-is p.number w.state y u.laid.active e in
        let x = run-ended r (ran p.number p.steps p.fresh) p.steps u.place tells refl refl outside calm.orderly (ends-at y e) in
        let replays : replay_from r (entries_of_label p Label.End) ≡ Some (staying r x.0) = replay-next r (staying r x.0) (staying r x.0) (ran p.number p.steps p.fresh) [] x.1 refl in
        let ordered = (calm-behind r (staying r x.0) (entries_of_label p Label.End) calm replays).orderly in
        let same =
        let_go-is r.state p.number u.place w x.0 (without w.state.members p.number) u.laid u.orderly (rise-without w.state.members p.number u.orderly.members_rise)
        (λ k apart. at-without_other w.state.members p.number k (λ eq. apart (sym eq)))
        (at-without_same w.state.members p.number u.orderly.members_rise ∙ sym x.3)
        (number-below signature r.state p.number p.steps p.fresh w u) x.2 x.4 ordered in
        built w Label.End v (staying r x.0) replays (λ k. ran-calls k r p.number p.steps p.fresh)
        inside
        (inl (sym is ∙ ap (λ (s : State). with_held_released (moved w s)) gone ∙ same))

    under-way : (label : Label) (v : Weak) → weak_after w label ≡ Some v → IsNext signature r p w label v
    unfolding weak_after after
    under-way (Label.Activate i) v e =
        let b = if-gave (holds_nothing w) (option_map (moved w) (after w.state (Label.Activate i))) v e in
        let m = map-gave (moved w) (after w.state (Label.Activate i)) v b.1 in
        absurd (let clash : ◌≡◌ {A = Option State} None (Some m.0) =
        ap (λ (o : Option ℕ). if is_none o then activated i w.state else None) (sym u.laid.active) ∙ m.1 in
        cc)
    under-way (Label.Step kind) v e =
        let made : held_step kind p.number w ≡ Some v = ap (λ (o : Option ℕ). option_and_then (λ (i : ℕ). held_step kind i w) o) (sym u.laid.active) ∙ e in
        built w (Label.Step kind) v r refl (λ k. refl) inside (inr (way-step signature r.state p.number p.steps p.fresh w u kind v made))
    under-way Label.Leave v e = let m = map-gave (λ (s : State). with_held_released (moved w s)) (after w.state Label.Leave) v e in left-next m.0 m.1 v m.2
    under-way Label.End v e = let m = map-gave (λ (s : State). with_held_released (moved w s)) (after w.state Label.End) v e in ended-next m.0 m.1 v m.2
    under-way (Label.Free j kind) v e =
        let b = if-gave (is_resting w.state.active j && may_free w.state.active kind) (option_map (moved w) (reduce Side.Unprotected kind j w.state)) v e in
        let both = both-true (is_resting w.state.active j) (may_free w.state.active kind) b.0 in
        let m = map-gave (moved w) (reduce Side.Unprotected kind j w.state) v b.1 in
        let other = rests-other w.state.active p.number j u.laid.active both.0 in
        let may : may_free (Some p.number) kind ≡ true = ap (λ (o : Option ℕ). may_free o kind) (sym u.laid.active) ∙ both.1 in
        let x = way-free signature r.state p.number p.steps p.fresh w u j kind m.0 other may m.1 in
        freed-next w j kind v x.0 x.1 (sym (u.laid.others j other)) (inr (subst (IsUnderWay signature x.0 p.number p.steps p.fresh) m.2 x.2))
    under-way (Label.Close j) v e =
        let b = if-gave (is_resting w.state.active j) (option_map (moved w) (closed j w.state)) v e in
        let m = map-gave (moved w) (closed j w.state) v b.1 in
        let x = way-close signature r.state p.number p.steps p.fresh w u j m.0 (rests-other w.state.active p.number j u.laid.active b.0) m.1 in
        closed-next w j v x.0 x.1 (inr (subst (IsUnderWay signature x.0 p.number p.steps p.fresh) m.2 x.2))

-- one more label
pub follow-label : (signature : Signature) (r : Replayed) (p : Place) (w v : Weak) (label : Label) → IsFollowed signature r p w → weak_after w label ≡ Some v → IsNext signature r p w label v
follow-label signature r p w v label f e = by f.stands
  where
    by : (w ≡ holding_none r.state) ⊎ IsUnderWay signature r.state p.number p.steps p.fresh w → IsNext signature r p w label v
    by (inl is) =
        subst (λ (z : Weak). IsNext signature r p z label v) (sym is)
        (at-rest signature r p f.calm f.cells f.typed f.inside label v (ap (λ (z : Weak). weak_after z label) (sym is) ∙ e))
    by (inr u) = under-way signature r p f.calm f.cells f.typed f.inside w u label v e
