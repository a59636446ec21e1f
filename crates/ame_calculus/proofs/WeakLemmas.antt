-- Each strong run is a weak one, by the same labels: the strong state is the weak one with all that is held in effect.
use Rattle.std.proofs.Common.{◌≡◌, ℕ, ◌++◌, ℤ, Bool, true, List, [], ◌∷◌, Option, Some, None, is_some, is_none, option_map, option_and_then, if◌then◌else◌, refl, sym, ap, ◌∙◌, subst}
use Rattle.std.specs.Prelude.{◌&&◌}
use Rattle.std.proofs.lemmas.Option.{option_and_then_some}
use Rattle.ame_term.specs.Tree.{Typ, Tree}
use Rattle.ame_term.specs.Frame.{Side}
use Rattle.ame_term.specs.Context.{Focus, focus, fill}
use Rattle.ame_term.specs.Act.{Act, act_of, makes}
use Rattle.ame_term.specs.Maps.{at, change, without}
use Rattle.ame_term.specs.Numbered.{IsNumbered}
use Rattle.ame_term.specs.SourceTerm.{IsSourceTerm}
use Rattle.ame_term.specs.State.{State, start, after, run, reduce, closed, activated, departed, ended, at_value, at_unprotected}
use Rattle.ame_term.specs.Typing.{Accepts}
use Rattle.ame_term.specs.declared.semantics.StepKind.{StepKind}
use Rattle.ame_term.specs.declared.semantics.Label.{Label}
use Rattle.ame_laws.specs.Orderly.{IsOrderly}
use Rattle.ame_laws.proofs.OrderlyLemmas.{after-goes, start-orderly, changes}
use Rattle.ame_journal.specs.Calls.{label_call, of_next, calls_along}
use Rattle.ame_journal.specs.Replay.{redex_act}
use Rattle.ame_journal.specs.Replayed.{begun_at}
use Rattle.ame_journal.proofs.CallLemmas.{calls-unfolded}
use Rattle.ame_journal.proofs.LabelLemmas.{unfold-all, unfolds_all-run}
use Rattle.ame_journal.proofs.StepLemmas.{reduced}
use Rattle.ame_weak.specs.Straight.{straight}
use Rattle.ame_weak.specs.Weak.{Weak, holding_none, moved, held_performed, held_at, held_rewritten, held_step, with_held_released, is_resting, may_free, weak_start, weak_after, weak_run, weak_calls}
use Rattle.ame_weak.proofs.HeldSteps.{if-gave, held-orderly}
use Rattle.ame_weak.proofs.StraightLemmas.{weak_runs_straighten, weak_calls_are_told}
use Rattle.ame_calculus.proofs.EffectLemmas.{in_effect, IsHeld, none-held, idle-is, idle-effect, below-next, active-same, joined-changed, joined-removed, effect-orderly, acted-too}

-- A label of the strong state is one of the weak state, and comes to the same.
pub record IsWeakToo (w : Weak) (label : Label) (t : State) : Type 0 where
  pub behind : Weak
  pub goes : weak_after w label ≡ Some behind
  pub effect : in_effect behind ≡ t
  pub held : IsHeld behind

none-is : (o : Option ℕ) → is_none o ≡ true → o ≡ None
none-is None e = refl
none-is (Some n) e = cc

-- While nothing is active

none-holds : (s : State) → IsOrderly s → IsHeld (holding_none s)
none-holds s o = record { orderly = o; no_prints = λ idle. refl; no_spawns = λ idle. refl }

may-rest : (kind : StepKind) → may_free None kind ≡ true
may-rest kind = refl

module _ (s : State) (idle : s.active ≡ None) (orderly : IsOrderly s) where
  no-active : {X : Type 0} (go : ℕ → Option X) (x : X) → option_and_then go s.active ≡ Some x → ⊥
  no-active {X} go x e = let clash : ◌≡◌ {A = Option X} None (Some x) = sym (ap (option_and_then go) idle) ∙ e in cc

  rests-too : (label : Label) (t : State) → after s label ≡ Some t → weak_after (holding_none s) label ≡ Some (holding_none t) → IsWeakToo (holding_none s) label t
  rests-too label t e goes = record { behind = holding_none t; goes = goes; effect = none-held t; held = none-holds t ((after-goes s label t e).orderly orderly) }

  rest-too : (label : Label) (t : State) → after s label ≡ Some t → IsWeakToo (holding_none s) label t
  unfolding weak_after after
  rest-too (Label.Activate i) t e = rests-too (Label.Activate i) t e (ap (option_map (moved (holding_none s))) e)
  rest-too (Label.Step kind) t e = absurd (no-active (λ i. reduce Side.Protected kind i s) t e)
  rest-too Label.Leave t e = absurd (no-active (λ i. departed i s) t e)
  rest-too Label.End t e = absurd (no-active (λ i. ended i s) t e)
  rest-too (Label.Free i kind) t e =
      let made = (if-gave (is_none s.active) (reduce Side.Unprotected kind i s) t e).1 in
      rests-too (Label.Free i kind) t e
      (ap (λ (o : Option ℕ). if is_resting o i && may_free o kind then option_map (moved (holding_none s)) (reduce Side.Unprotected kind i s) else None) idle
      ∙ ap (λ (b : Bool). if b then option_map (moved (holding_none s)) (reduce Side.Unprotected kind i s) else None) (may-rest kind)
      ∙ ap (option_map (moved (holding_none s))) made)
  rest-too (Label.Close i) t e =
      let made = (if-gave (is_none s.active) (closed i s) t e).1 in
      rests-too (Label.Close i) t e
      (ap (λ (o : Option ℕ). if is_resting o i then option_map (moved (holding_none s)) (closed i s) else None) idle
      ∙ ap (option_map (moved (holding_none s))) made)

-- While a member is active

module _ (w : Weak) (h : IsHeld w) where
  idle-too : (label : Label) (t : State) → w.state.active ≡ None → after (in_effect w) label ≡ Some t → IsWeakToo w label t
  idle-too label t idle e =
      subst (λ (z : Weak). IsWeakToo z label t) (sym (idle-is w h idle))
      (rest-too w.state idle h.orderly label t (ap (λ (z : State). after z label) (sym (idle-effect w h idle)) ∙ e))

  no-rest : {P : Type 0} (s : State) (i : ℕ) → s.active ≡ Some i → s.active ≡ None → P
  no-rest s i is idle = let clash : ◌≡◌ {A = Option ℕ} (Some i) None = sym is ∙ idle in absurd (cc)

  step-too : (kind : StepKind) (t : State) → after (in_effect w) (Label.Step kind) ≡ Some t → IsWeakToo w (Label.Step kind) t
  unfolding weak_after after
  step-too kind t e =
      option_and_then_some (λ (i : ℕ). reduce Side.Protected kind i (in_effect w)) w.state.active t e (λ i is e1.
      let r = reduced Side.Protected kind i (in_effect w) t e1 in
      let acts_so : ◌≡◌ {A = Option Act} (Some (act_of r.redex)) (Some r.act) =
      sym (ap (option_and_then (λ (z : Tree). redex_act (focus z))) r.is_member ∙ ap redex_act r.stands) ∙ r.is_act in
      let act_is : act_of r.redex ≡ r.act = cc in
      let x = acted-too w kind r.act r.result r.made in
      let part = fill r.term r.result.0 in
      let u = x.behind in
      let v = moved u (record u.state { members = change u.state.members i part }) in
      let orderly : IsOrderly u.state = held-orderly kind r.act w (r.result.0, u) x.performs h.orderly in
      let there : is_some (at u.state.members i) ≡ true = ap (λ (ms : List (ℕ × Tree)). is_some (at ms i)) x.members ∙ h.orderly.active_there i is in
      let active : u.state.active ≡ Some i = x.active ∙ is in
      record {
        behind = v;
        goes =
            ap (λ (o : Option ℕ). option_and_then (λ j. held_step kind j w) o) is
            ∙ ap (option_and_then (λ (z : Tree). option_map (held_rewritten i z) (held_at kind (focus z) w))) (sym (active-same w i h is) ∙ r.is_member)
            ∙ ap (λ (f : Focus). option_map (held_rewritten i r.term) (held_at kind f w)) r.stands
            ∙ ap (λ (b : Bool). option_map (held_rewritten i r.term) (if b then held_performed kind (act_of r.redex) w else None)) (ap (makes Side.Protected kind) act_is ∙ r.can)
            ∙ ap (λ (a : Act). option_map (held_rewritten i r.term) (held_performed kind a w)) act_is
            ∙ ap (option_map (held_rewritten i r.term)) x.performs;
        effect =
            ap (λ (ms : List (ℕ × Tree)). record (in_effect u) { members = ms })
            (joined-changed u.state.members u.state.next u.spawns i orderly.members_rise (below-next u.state i orderly there) part there)
            ∙ ap (λ (z : State). record z { members = change z.members i part }) x.effect ∙ r.is;
        held = record {
          orderly = (changes u.state i part).orderly orderly;
          no_prints = λ idle. no-rest u.state i active idle;
          no_spawns = λ idle. no-rest u.state i active idle;
        };
      })

  -- what is held is let go
  let-go-too : (label : Label) (u : State) (t : State) → weak_after w label ≡ Some (with_held_released (moved w u)) → IsOrderly u → in_effect (moved w u) ≡ t → IsWeakToo w label t
  let-go-too label u t goes orderly effect = record {
    behind = with_held_released (moved w u);
    goes = goes;
    effect = none-held (in_effect (moved w u)) ∙ effect;
    held = none-holds (in_effect (moved w u)) (effect-orderly (moved w u) orderly);
  }

  leave-too : (t : State) → after (in_effect w) Label.Leave ≡ Some t → IsWeakToo w Label.Leave t
  unfolding weak_after after
  leave-too t e =
      option_and_then_some (λ (i : ℕ). departed i (in_effect w)) w.state.active t e (λ i is e1.
      option_and_then_some (λ (term : Tree). if at_unprotected (focus term) then Some (record (in_effect w) { active = None }) else None) (at (in_effect w).members i) t e1 (λ term found e2.
      let stands = if-gave (at_unprotected (focus term)) (Some (record (in_effect w) { active = None })) t e2 in
      let same : record (in_effect w) { active = None } ≡ t = cc in
      let u = record w.state { active = None } in
      let below : after w.state Label.Leave ≡ Some u =
      ap (λ (o : Option ℕ). option_and_then (λ (j : ℕ). departed j w.state) o) is
      ∙ ap (option_and_then (λ (z : Tree). if at_unprotected (focus z) then Some (record w.state { active = None }) else None)) (sym (active-same w i h is) ∙ found)
      ∙ ap (λ (b : Bool). if b then Some (record w.state { active = None }) else None) stands.0 in
      let-go-too Label.Leave u t (ap (option_map (λ (s : State). with_held_released (moved w s))) below) ((after-goes w.state Label.Leave u below).orderly h.orderly) same))

  end-too : (t : State) → after (in_effect w) Label.End ≡ Some t → IsWeakToo w Label.End t
  unfolding weak_after after
  end-too t e =
      option_and_then_some (λ (i : ℕ). ended i (in_effect w)) w.state.active t e (λ i is e1.
      option_and_then_some (λ (term : Tree). if at_value (focus term) then Some (record (in_effect w) { members = without (in_effect w).members i; active = None }) else None)
      (at (in_effect w).members i) t e1 (λ term found e2.
      let stands = if-gave (at_value (focus term)) (Some (record (in_effect w) { members = without (in_effect w).members i; active = None })) t e2 in
      let same : record (in_effect w) { members = without (in_effect w).members i; active = None } ≡ t = cc in
      let u = record w.state { members = without w.state.members i; active = None } in
      let below : after w.state Label.End ≡ Some u =
      ap (λ (o : Option ℕ). option_and_then (λ (j : ℕ). ended j w.state) o) is
      ∙ ap (option_and_then (λ (z : Tree). if at_value (focus z) then Some (record w.state { members = without w.state.members i; active = None }) else None)) (sym (active-same w i h is) ∙ found)
      ∙ ap (λ (b : Bool). if b then Some (record w.state { members = without w.state.members i; active = None }) else None) stands.0 in
      let removed : in_effect (moved w u) ≡ record (in_effect w) { members = without (in_effect w).members i; active = None } =
      ap (λ (ms : List (ℕ × Tree)). record (in_effect w) { members = ms; active = None })
      (joined-removed w.state.members w.state.next w.spawns i h.orderly.members_rise (below-next w.state i h.orderly (h.orderly.active_there i is))) in
      let-go-too Label.End u t (ap (option_map (λ (s : State). with_held_released (moved w s))) below) ((after-goes w.state Label.End u below).orderly h.orderly) (removed ∙ same)))

  pub label-too : (label : Label) (t : State) → after (in_effect w) label ≡ Some t → IsWeakToo w label t
  unfolding after
  label-too (Label.Activate i) t e = idle-too (Label.Activate i) t (none-is w.state.active (if-gave (is_none w.state.active) (activated i (in_effect w)) t e).0) e
  label-too (Label.Step kind) t e = step-too kind t e
  label-too Label.Leave t e = leave-too t e
  label-too Label.End t e = end-too t e
  label-too (Label.Free i kind) t e =
      idle-too (Label.Free i kind) t (none-is w.state.active (if-gave (is_none w.state.active) (reduce Side.Unprotected kind i (in_effect w)) t e).0) e
  label-too (Label.Close i) t e = idle-too (Label.Close i) t (none-is w.state.active (if-gave (is_none w.state.active) (closed i (in_effect w)) t e).0) e

  -- it makes the same call
  call-same : (k : ℕ) (label : Label) (t : State) → after (in_effect w) label ≡ Some t → label_call k w.state label ≡ label_call k (in_effect w) label
  unfolding after
  call-same k (Label.Free i kind) t e =
      ap (λ (z : State). label_call k z (Label.Free i kind))
      (sym (idle-effect w h (none-is w.state.active (if-gave (is_none w.state.active) (reduce Side.Unprotected kind i (in_effect w)) t e).0)))
  call-same k (Label.Activate i) t e = refl
  call-same k (Label.Step kind) t e = refl
  call-same k Label.Leave t e = refl
  call-same k Label.End t e = refl
  call-same k (Label.Close i) t e = refl

-- Runs

pub record IsWeakRunToo (w : Weak) (labels : List Label) (t : State) : Type 0 where
  pub behind : Weak
  pub goes : weak_run w labels ≡ Some behind
  pub effect : in_effect behind ≡ t
  pub held : IsHeld behind
  pub called : (k : ℕ) → weak_calls k w labels ≡ calls_along k (in_effect w) labels

pub run-too : (w : Weak) (labels : List Label) (t : State) → IsHeld w → run (in_effect w) labels ≡ Some t → IsWeakRunToo w labels t
run-too w [] t h e = let same : in_effect w ≡ t = cc in record { behind = w; goes = refl; effect = same; held = h; called = λ k. refl }
run-too w (label ∷ labels) t h e =
    option_and_then_some (λ (u : State). run u labels) (after (in_effect w) label) t e (λ u first rest.
    let x = label-too w h label u first in
    let y = run-too x.behind labels t x.held (ap (λ (z : State). run z labels) x.effect ∙ rest) in
    record {
      behind = y.behind;
      goes = ap (option_and_then (λ (v : Weak). weak_run v labels)) x.goes ∙ y.goes;
      effect = y.effect;
      held = y.held;
      called = λ k.
          ap (λ (o : Option Weak). label_call k w.state label ++ of_next (λ v. weak_calls k v labels) o) x.goes
          ∙ ap (λ xs. label_call k w.state label ++ xs) (y.called k ∙ ap (λ (z : State). calls_along k z labels) x.effect)
          ∙ ap (λ xs. xs ++ calls_along k u labels) (call-same w h k label u first)
          ∙ ap (λ (o : Option State). label_call k (in_effect w) label ++ of_next (λ z. calls_along k z labels) o) (sym first);
    })

-- a strong run, with all that is held in effect
pub strong-is-weak-now : (program : Tree) (labels : List Label) (s : State) → run (start program) labels ≡ Some s → (w : Weak) × (weak_run (weak_start program) labels ≡ Some w) × (in_effect w ≡ s)
strong-is-weak-now program labels s e =
    let x = run-too (weak_start program) labels s (none-holds (start program) (start-orderly program)) (ap (λ (z : State). run z labels) (none-held (start program)) ∙ e) in
    (x.behind, x.goes, x.effect)

-- a strong run that ends at rest
pub strong-is-weak : (program : Tree) (labels : List Label) (s : State) → run (start program) labels ≡ Some s → s.active ≡ None
    → (weak_run (weak_start program) labels ≡ Some (holding_none s)) × ((k : ℕ) → weak_calls k (weak_start program) labels ≡ calls_along k (start program) labels)
strong-is-weak program labels s e idle =
    let begun = none-held (start program) in
    let x = run-too (weak_start program) labels s (none-holds (start program) (start-orderly program)) (ap (λ (z : State). run z labels) begun ∙ e) in
    let rests : x.behind.state.active ≡ None = ap (λ (z : State). z.active) x.effect ∙ idle in
    let same : x.behind.state ≡ s = sym (idle-effect x.behind x.held rests) ∙ x.effect in (
      x.goes ∙ ap Some (idle-is x.behind x.held rests ∙ ap holding_none same),
      λ k. x.called k ∙ ap (λ (z : State). calls_along k z labels) begun,
    )

-- An accepted program shows the same in strong and in weak runs.
module _ (devices : ℕ) (places : List ℕ) (program : Tree) (refs : List Typ) (accepts : Accepts devices places program refs) (source : IsSourceTerm program) (numbered : IsNumbered 0 program)
    (s : State) (calls : ℕ → List (ℤ × ℤ)) where
  -- a strong run that makes these calls, and a weak one
  abbrev Strong : Type 0
  Strong = (labels : List Label) × (run (start program) labels ≡ Some s) × ((k : ℕ) → calls_along k (start program) labels ≡ calls k)

  abbrev Weakly : Type 0
  Weakly = (labels : List Label) × (weak_run (weak_start program) labels ≡ Some (holding_none s)) × ((k : ℕ) → weak_calls k (weak_start program) labels ≡ calls k)

  pub shown-weakly : s.active ≡ None → Strong → Weakly
  shown-weakly idle x =
      let w = strong-is-weak program x.0 s x.1 idle in
      (x.0, w.0, λ k. w.1 k ∙ x.2 k)

  pub shown-strongly : s.active ≡ None → Weakly → Strong
  shown-strongly idle x =
      let r = weak_runs_straighten devices places program refs accepts source numbered x.0 (holding_none s) x.1 idle in
      let all = unfold-all (begun_at program) (straight x.0) r.0 r.1 in
      let same : r.0.state ≡ s = sym (ap (λ (w : Weak). w.state) r.2) in (
        all.0,
        unfolds_all-run (begun_at program) (straight x.0) all.0 r.0 all.1 ∙ ap Some same,
        λ k.
            sym (calls-unfolded k (begun_at program) (straight x.0) all.0 r.0 all.1)
            ∙ weak_calls_are_told devices places program refs accepts source numbered k x.0 (holding_none s) x.1 ∙ x.2 k,
      )
