-- A fragment that was tried on a copy could run here.
use Rattle.std.proofs.Common.{◌≡◌, ℕ, suc, ◌+◌, ◌==◌, ◌++◌, inr, Bool, true, false, List, [], ◌∷◌, length, map, Option, Some, None, is_some}
use Rattle.std.proofs.Common.{if◌then◌else◌, refl, sym, ap, ◌∙◌, subst, arith, append-nil, append_assoc}
use Rattle.std.proofs.lemmas.Option.{option_and_then_some}
use Rattle.ame_term.specs.Tree.{Typ, Tree}
use Rattle.ame_term.specs.Signature.{Signature, listed}
use Rattle.ame_term.specs.Context.{Focus, focus}
use Rattle.ame_term.specs.Height.{max_height}
use Rattle.ame_term.specs.Maps.{at}
use Rattle.ame_term.specs.SourceTerm.{IsSourceTerm}
use Rattle.ame_term.specs.Numbered.{IsNumbered}
use Rattle.ame_term.specs.State.{State, after, at_unprotected}
use Rattle.ame_term.specs.Typing.{Accepts}
use Rattle.ame_term.specs.declared.semantics.StepKind.{StepKind}
use Rattle.ame_term.specs.declared.semantics.Label.{Label}
use Rattle.ame_journal.specs.Labels.{fresh_of, made_by}
use Rattle.ame_term.specs.Frame.{Side, side_told}
use Rattle.ame_journal.specs.declared.entry.Entry.{Entry}
use Rattle.ame_journal.specs.Replayed.{Replayed, begun_at, has_such, is_false_condition, is_failing, is_at_unprotected, side_at, coming_height, is_tall}
use Rattle.ame_journal.specs.Replay.{fragment, fails_after, attempt_on, attempt}
use Rattle.ame_journal.proofs.UnderWayLemmas.{UnderWay-runs}
use Rattle.ame_journal.proofs.UnfoldLemmas.{fragment-back}
use Rattle.ame_machine.proofs.Run.ReplayLemmas.{active_run}
use Rattle.ame_strong.specs.Next.{next_of}
use Rattle.ame_strong.specs.declared.next_label.Next.TheVariants as next
use Rattle.ame_strong.proofs.ToldLemmas.{tells}
use Rattle.ame_weak.specs.Weak.{Weak, holding_none, moved, weak_start, weak_after, weak_run}
use Rattle.ame_weak.specs.Straight.{Place, outset}
use Rattle.ame_weak.specs.Bounds.{AreWithinBounds, is_growing_tall}
use Rattle.ame_weak.specs.Tries.{HoldsIn}
use Rattle.ame_weak.specs.declared.tries.Try.{Try}
use Rattle.ame_weak.proofs.HeldSteps.{map-gave}
use Rattle.ame_weak.proofs.LabelLemmas.{step-active}
use Rattle.ame_weak.proofs.LowValues.{labels_low, start_low, active_tall, resting_tall}
use Rattle.ame_weak.proofs.WayLemmas.{IsUnderWay, way-begun, way-step}
use Rattle.ame_weak.proofs.TypedRuns.{way-typed}
use Rattle.ame_weak.proofs.Follow.{IsFollowed}
use Rattle.ame_weak.proofs.StraightLemmas.{past_all, follow-labels, ends-strong, begun-followed}
use Rattle.ame_journal.specs.Labels.{fragment_labels}
use Rattle.ame_runner.specs.Tall.{tall_note, IsTallIn, IsTallOf}
use Rattle.ame_runner.specs.Within.{AreMadeWithin, IsTriedWithin, IsReachedWithin}
use Rattle.ame_runner.specs.Trial.{IsTrial, StandsAs, IsTriedOut, is_failure, IsTryOf}
use Rattle.ame_runner.specs.declared.trial.AttemptEnd.{AttemptEnd}
use Rattle.ame_runner.specs.declared.trial.TriedOut.{TriedOut}

module _ (signature : Signature) where
  -- the steps of a fragment, one after the other
  way-on : (s : State) (i n : ℕ) (fresh : List ℕ) (v u : Weak) (kinds : List StepKind)
      → IsUnderWay signature s i n fresh v → weak_run v (map Label.Step kinds) ≡ Some u
      → IsUnderWay signature s i (n + length kinds) (fresh ++ made_by kinds) u
  way-on s i n fresh v u [] way e =
      let same : v ≡ u = cc in
      let count : n ≡ n + 0 = omega arith in
      subst (λ (m : ℕ). IsUnderWay signature s i m (fresh ++ []) u) count
      (subst (λ (ls : List ℕ). IsUnderWay signature s i n ls u) (sym (append-nil fresh)) (subst (IsUnderWay signature s i n fresh) same way))
  way-on s i n fresh v u (kind ∷ kinds) way e =
      option_and_then_some _ _ _ e (λ x first rest.
      let one = way-step signature s i n fresh v way kind x (sym (step-active v kind i way.laid.active) ∙ first) in
      let all = way-on s i (n + 1) (fresh ++ fresh_of kind) x u kinds one rest in
      let count : n + 1 + length kinds ≡ n + suc (length kinds) = omega arith in
      subst (λ (m : ℕ). IsUnderWay signature s i m (fresh ++ made_by (kind ∷ kinds)) u) count
      (subst (λ (ls : List ℕ). IsUnderWay signature s i (n + 1 + length kinds) ls u) (append_assoc fresh (fresh_of kind) (made_by kinds)) all))

  module _ (r : Replayed) (p : Place) (w : Weak) (f : IsFollowed signature r p w) (idle : w.state.active ≡ None) where
    activated : (i : ℕ) (v : Weak) → weak_after w (Label.Activate i) ≡ Some v → IsUnderWay signature w.state i 0 [] v
    unfolding weak_after
    activated i v e =
        let is = ends-strong signature r p w f idle in
        let here : weak_after (holding_none r.state) (Label.Activate i) ≡ Some v = subst (λ (z : Weak). weak_after z (Label.Activate i) ≡ Some v) is e in
        let m = map-gave (moved (holding_none r.state)) (after r.state (Label.Activate i)) v here in
        subst (λ (s : State). IsUnderWay signature s i 0 [] v) (sym (ap (λ (z : Weak). z.state) is))
        (subst (IsUnderWay signature r.state i 0 []) m.2 (way-begun signature f.cells r.state i m.0 f.typed f.calm.idle f.calm.orderly m.1))

    way-of : (i first : ℕ) (v : Weak) (kinds : List StepKind) (above : ℕ) → IsTrial w i first v kinds above
        → IsUnderWay signature w.state i (length kinds) (made_by kinds) v
    way-of i first v kinds above t =
        option_and_then_some _ _ _ t.leads (λ x begins rest.
        let count : 0 + length kinds ≡ length kinds = omega arith in
        subst (λ (m : ℕ). IsUnderWay signature w.state i m (made_by kinds) v) count (way-on w.state i 0 [] x v kinds (activated i x begins) rest))

  module _ (s : State) (i n : ℕ) (fresh : List ℕ) (w : Weak) (u : IsUnderWay signature s i n fresh w) where
    way-fragment : (t : State) × (fragment i n fresh s ≡ Some t) × (at t.members i ≡ at w.state.members i)
    way-fragment =
        let a = active_run s i u.term u.inputs u.member u.idle u.calm n u.place u.ran u.agrees in (
          a.behind,
          subst (λ (ls : List ℕ). fragment i n ls s ≡ Some a.behind) u.made
              (fragment-back i a.way.kinds n u.place.fresh s a.behind a.way.are (UnderWay-runs s i n u.place.fresh a.behind a.way)).0,
          a.member ∙ sym u.stands,
        )

    way-fails : next_of w.state None ≡ next.Stuck → fails_after s i n fresh ≡ true
    way-fails stuck =
        let f = way-fragment in
        let typed = way-typed signature s i n fresh w u in
        let told = tells w.state signature typed.0 typed.1 None (next_of w.state None) refl in
        let stands = (told.present i u.place.term u.laid.active u.stands).waits.0 stuck in
        ap (has_such (is_failing i)) f.1 ∙ ap (has_such (λ (term : Tree). is_false_condition (focus term))) (f.2 ∙ u.stands) ∙ ap is_false_condition stands

    -- the member stands in protected code
    way-side : side_at i s ≡ Side.Protected
    way-side = ap side_told (ap (has_such (λ (term : Tree). at_unprotected (focus term))) u.member ∙ u.calm)

    way-tall : is_tall Side.Protected i w.state ≡ true → has_such (is_tall (side_at i s) i) (attempt i n fresh s) ≡ true
    way-tall tall =
        let f = way-fragment in
        subst (λ (side : Side). has_such (is_tall side i) (attempt_on side i n fresh s) ≡ true) (sym way-side)
        (ap (has_such (is_tall Side.Protected i)) f.1
        ∙ ap (has_such (λ (term : Tree). coming_height Side.Protected (focus term) == max_height + 1)) f.2 ∙ tall)

    way-holds : (b : Bool) → (b ≡ true → next_of w.state None ≡ next.Stuck) → (if b then fails_after s i n fresh else is_some (fragment i n fresh s)) ≡ true
    way-holds true stuck = way-fails (stuck refl)
    way-holds false stuck = ap is_some way-fragment.1

stuck-where : (o : AttemptEnd) (v : Weak) → StandsAs o v → is_failure o ≡ true → next_of v.state None ≡ next.Stuck
stuck-where AttemptEnd.Fails v stands e = stands
stuck-where AttemptEnd.Leaves v stands e = absurd (cc)
stuck-where AttemptEnd.Ends v stands e = absurd (cc)
stuck-where AttemptEnd.Tall v stands e = absurd (cc)
stuck-where AttemptEnd.Cut v stands e = absurd (cc)

module _ (devices : ℕ) (places : List ℕ) (program : Tree) (refs : List Typ) (accepts : Accepts devices places program refs) (source : IsSourceTerm program) (numbered : IsNumbered 0 program) where
  pub tried_fragments_hold : (labels : List Label) (w : Weak) (i first turns : ℕ) (a : TriedOut) (t : Try)
      → weak_run (weak_start program) labels ≡ Some w → w.state.active ≡ None
      → IsTriedOut w i first turns a → IsTryOf i a t → HoldsIn w t
  tried_fragments_hold labels w i first turns a t e idle tried is =
      let g = follow-labels (listed devices refs) (begun_at program) outset (weak_start program) w labels (begun-followed devices places program refs accepts source numbered) e in
      let way = way-of (listed devices refs) g.behind (past_all outset labels) w g.follows idle i first tried.behind a.kinds.items a.above tried.is in
      let holds = way-holds (listed devices refs) w.state i (length a.kinds.items) (made_by a.kinds.items) tried.behind way t.failing
      (λ failing. stuck-where a.outcome tried.behind tried.comes (sym is.failing ∙ failing)) in (
        idle,
        ap (λ (k : ℕ). if t.failing then fails_after w.state k t.certificate.steps t.certificate.fresh else is_some (fragment k t.certificate.steps t.certificate.fresh w.state)) is.number
            ∙ ap (λ (k : ℕ). if t.failing then fails_after w.state i k t.certificate.fresh else is_some (fragment i k t.certificate.fresh w.state)) is.steps
            ∙ ap (λ (ls : List ℕ). if t.failing then fails_after w.state i (length a.kinds.items) ls else is_some (fragment i (length a.kinds.items) ls w.state)) is.fresh
            ∙ holds,
      )

  -- a fragment that came to a value that would be too high comes to it here, as its note says
  pub tried_grow_tall : (labels : List Label) (w : Weak) (i first turns : ℕ) (a : TriedOut) (entry : Entry) → weak_run (weak_start program) labels ≡ Some w
      → AreWithinBounds (weak_start program) labels → w.state.active ≡ None → IsTriedOut w i first turns a
      → a.outcome ≡ AttemptEnd.Tall → IsTallOf i a entry → IsTallIn w.state entry
  tried_grow_tall labels w i first turns a entry e within idle tried outcome is =
      let g = follow-labels (listed devices refs) (begun_at program) outset (weak_start program) w labels (begun-followed devices places program refs accepts source numbered) e in
      let way = way-of (listed devices refs) g.behind (past_all outset labels) w g.follows idle i first tried.behind a.kinds.items a.above tried.is in
      let low = labels_low w tried.behind (fragment_labels i a.kinds.items) tried.is.leads tried.is.within (labels_low (weak_start program) w labels e within (start_low program source)) in
      let grows : is_growing_tall tried.behind None ≡ true = subst (λ (o : AttemptEnd). StandsAs o tried.behind) outcome tried.comes in
      let high = active_tall tried.behind i low way.laid.active grows in
      subst (IsTallIn w.state) (sym is)
      (record { note = refl; comes = way-tall (listed devices refs) w.state i (length a.kinds.items) (made_by a.kinds.items) tried.behind way high })

-- Steps within the bounds

module _ (w : Weak) (i first turns : ℕ) (a : TriedOut) (tried : IsTriedOut w i first turns a) where
  made-within : AreMadeWithin w i (length a.kinds.items) (made_by a.kinds.items)
  made-within = record { kinds = a.kinds.items; reached = tried.behind; leads = tried.is.leads; within = tried.is.within; steps = refl; made = refl }

  pub tried-within : (t : Try) → IsTryOf i a t → IsTriedWithin w t
  tried-within t is =
      subst (λ (k : ℕ). AreMadeWithin w k t.certificate.steps t.certificate.fresh) (sym is.number)
      (subst (λ (n : ℕ). AreMadeWithin w i n t.certificate.fresh) (sym is.steps)
      (subst (AreMadeWithin w i (length a.kinds.items)) (sym is.fresh) made-within))

  pub tall-within : (entry : Entry) → IsTallOf i a entry → IsReachedWithin w entry
  tall-within entry is = inr (subst (λ (e : Entry). AreMadeWithin w e.number e.steps e.fresh) (sym is) made-within)

-- a member that is about to become such a value on the unprotected side stands there
tall-stands : (i : ℕ) (s : State) → is_tall Side.Unprotected i s ≡ true → is_at_unprotected i s ≡ true
tall-stands i s high = by (at s.members i) high
  where
    stands : (f : Focus) → (coming_height Side.Unprotected f == max_height + 1) ≡ true → at_unprotected f ≡ true
    stands (Focus.AtValue v) high = cc
    stands (Focus.AtRedex Side.Unprotected redex) high = refl
    stands (Focus.AtRedex Side.Protected redex) high = cc

    by : (o : Option Tree) → has_such (λ (term : Tree). coming_height Side.Unprotected (focus term) == max_height + 1) o ≡ true
        → has_such (λ (term : Tree). at_unprotected (focus term)) o ≡ true
    by None high = cc
    by (Some term) high = stands (focus term) high

-- under `unprotected` its next step is that
pub resting_grows_tall : (program : Tree) (labels : List Label) (w : Weak) (i : ℕ) (entry : Entry)
    → IsSourceTerm program → weak_run (weak_start program) labels ≡ Some w
    → AreWithinBounds (weak_start program) labels → is_growing_tall w (Some i) ≡ true → entry ≡ tall_note i 0 [] → IsTallIn w.state entry
resting_grows_tall program labels w i entry source e within grows is =
    let high = resting_tall w i (labels_low (weak_start program) w labels e within (start_low program source)) grows in
    let side : side_at i w.state ≡ Side.Unprotected = ap side_told (tall-stands i w.state high) in
    subst (IsTallIn w.state) (sym is)
    (record { note = refl; comes = subst (λ (on : Side). has_such (is_tall on i) (attempt_on on i 0 [] w.state) ≡ true) (sym side) high })
