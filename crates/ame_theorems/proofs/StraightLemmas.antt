-- Each strong run that ends at rest has a journal, which unfolds into its labels.
use Rattle.std.proofs.Common.{◌≡◌, ℕ, ◌+◌, ◌==◌, ◌||◌, ◌++◌, Bool, true, false, not, filter, List, [], ◌∷◌, map, Option, Some, None, is_none, option_and_then, if◌then◌else◌, refl, sym, ap, ◌∙◌, subst, arith, append-nil, append_assoc, length-append}
use Rattle.std.specs.Prelude.{◌↔◌}
use Rattle.std.proofs.lemmas.Option.{option_and_then_some}
use Rattle.std.proofs.lemmas.List.Concat.{flat_map-append}
use Rattle.ame_term.specs.Tree.{Tree}
use Rattle.ame_term.specs.Frame.{Side}
use Rattle.ame_term.specs.Act.{device_answer}
use Rattle.ame_term.specs.State.{State, start, after, run, IsRun, activated, reduce, closed, departed, ended}
use Rattle.ame_term.specs.declared.semantics.StepKind.{StepKind}
use Rattle.ame_term.specs.declared.semantics.Label.{Label}
use Rattle.ame_journal.specs.declared.entry.Entry.{Entry}
use Rattle.ame_journal.specs.declared.entry.EntryKind.{EntryKind}
use Rattle.ame_journal.specs.Labels.{fresh_of, made_by, IsAnswered, AreSteps, fragment_labels, Unfolds, UnfoldsAll}
use Rattle.ame_journal.specs.Replayed.{Replayed, begun_at, is_inside, is_at_unprotected, entering, staying, leaving}
use Rattle.ame_journal.specs.Replay.{replay}
use Rattle.ame_journal.specs.Calls.{calls_along, device_calls}
use Rattle.ame_journal.proofs.CallLemmas.{calls-unfolded}
use Rattle.ame_journal.proofs.StepLemmas.{step-reduced, step-keeps, no_answer, activate-is, activated-resting}
use Rattle.ame_journal.proofs.LabelLemmas.{run-two, run-one, unfold-all, unfolds_all-run}
use Rattle.ame_journal.proofs.UnfoldLemmas.{all-back}
use Rattle.ame_journal.proofs.ReachedLemmas.{IsCalm, calm-entry, calm-all, calm-replayed}
use Rattle.ame_weak.proofs.EntryLemmas.{free-stands, close-stands}
use Rattle.ame_weak.specs.Straight.{Place, outset, ran, freed, arrival, arrival_where, came, came_where, entries_of_label, past, straight_from, straight}

-- Labels that aren't legal

no-state : {P : Type 0} (u : State) → ◌≡◌ {A = Option State} None (Some u) → P
no-state u e = absurd (cc)

-- while nothing is active
module _ (s u : State) (idle : s.active ≡ None) where
  step-at-rest : (kind : StepKind) → after s (Label.Step kind) ≡ Some u → ⊥
  unfolding after
  step-at-rest kind e = no-state u (ap (λ (o : Option ℕ). option_and_then (λ j. reduce Side.Protected kind j s) o) (sym idle) ∙ e)

  leave-at-rest : after s Label.Leave ≡ Some u → ⊥
  unfolding after
  leave-at-rest e = no-state u (ap (λ (o : Option ℕ). option_and_then (λ j. departed j s) o) (sym idle) ∙ e)

  end-at-rest : after s Label.End ≡ Some u → ⊥
  unfolding after
  end-at-rest e = no-state u (ap (λ (o : Option ℕ). option_and_then (λ j. ended j s) o) (sym idle) ∙ e)

-- while a member is active
module _ (s u : State) (i : ℕ) (busy : s.active ≡ Some i) where
  activate-busy : (j : ℕ) → after s (Label.Activate j) ≡ Some u → ⊥
  unfolding after
  activate-busy j e = no-state u (ap (λ (o : Option ℕ). if is_none o then activated j s else None) (sym busy) ∙ e)

  free-busy : (j : ℕ) (kind : StepKind) → after s (Label.Free j kind) ≡ Some u → ⊥
  unfolding after
  free-busy j kind e = no-state u (ap (λ (o : Option ℕ). if is_none o then reduce Side.Unprotected kind j s else None) (sym busy) ∙ e)

  close-busy : (j : ℕ) → after s (Label.Close j) ≡ Some u → ⊥
  unfolding after
  close-busy j e = no-state u (ap (λ (o : Option ℕ). if is_none o then closed j s else None) (sym busy) ∙ e)

-- A fragment with one more step

answered-more : (kinds : List StepKind) (kind : StepKind) → IsAnswered kinds None → device_answer kind ≡ None → IsAnswered (kinds ++ kind ∷ []) None
answered-more [] kind answered none = sym none
answered-more (k ∷ []) kind answered none = (sym answered, sym none)
answered-more (k ∷ next ∷ kinds) kind answered none = (answered.0, answered-more (next ∷ kinds) kind answered.1 none)

steps-more : (kinds : List StepKind) (kind : StepKind) (n : ℕ) (fresh : List ℕ) → AreSteps kinds n fresh None → device_answer kind ≡ None
    → AreSteps (kinds ++ kind ∷ []) (n + 1) (fresh ++ fresh_of kind) None
steps-more kinds kind n fresh are none = record {
  count = length-append kinds (kind ∷ []) ∙ ap (λ k. k + 1) are.count;
  made = flat_map-append fresh_of kinds (kind ∷ []) ∙ ap (λ xs. xs ++ made_by (kind ∷ [])) are.made ∙ ap (λ xs. fresh ++ xs) (append-nil (fresh_of kind));
  answered = answered-more kinds kind are.answered none;
}

map-more : (kinds : List StepKind) (kind : StepKind) (labels : List Label) → map Label.Step (kinds ++ kind ∷ []) ++ labels ≡ map Label.Step kinds ++ Label.Step kind ∷ labels
map-more [] kind labels = refl
map-more (k ∷ kinds) kind labels = ap (λ (ls : List Label). Label.Step k ∷ ls) (map-more kinds kind labels)

fragment-more : (i : ℕ) (kinds : List StepKind) (kind : StepKind) (labels : List Label)
    → fragment_labels i (kinds ++ kind ∷ []) ++ labels ≡ fragment_labels i kinds ++ Label.Step kind ∷ labels
fragment-more i kinds kind labels = ap (λ (ls : List Label). Label.Activate i ∷ ls) (map-more kinds kind labels)

-- The labels so far

-- The entries so far lead to the state; or a fragment is under way from their state, which has no entry yet. The labels are those without an entry.
data StandsBehind (r : Replayed) (p : Place) : State → List Label → Type 0 where
  rests : StandsBehind r p r.state []
  under_way : (s : State) (kinds : List StepKind) → is_inside r p.number ≡ false → AreSteps kinds p.steps p.fresh None
      → run r.state (fragment_labels p.number kinds) ≡ Some s → s.active ≡ Some p.number → StandsBehind r p s (fragment_labels p.number kinds)

-- with one more label
record Next (r : Replayed) (p : Place) (before : List Label) (label : Label) (t : State) : Type 0 where
  pub reached : Replayed
  pub later : List Label
  pub unfolds : (entries : List Entry) (labels : List Label) (u : Replayed) → UnfoldsAll reached entries (later ++ labels) u
      → UnfoldsAll r (entries_of_label p label ++ entries) (before ++ label ∷ labels) u
  pub calm : IsCalm reached
  pub inside : (past p label).inside ≡ reached.inside
  pub stands : StandsBehind reached (past p label) t later

-- one entry, then others
one-more : (r s t : Replayed) (entry : Entry) (entries : List Entry) (all labels more : List Label) → all ≡ labels ++ more
    → Unfolds r entry.number entry.kind entry.steps entry.fresh entry.answer labels s → UnfoldsAll s entries more t → UnfoldsAll r (entry ∷ entries) all t
one-more r s t entry entries all labels more same first rest =
    subst (λ (ls : List Label). UnfoldsAll r (entry ∷ entries) ls t) (sym same) (UnfoldsAll.next r s t entry entries labels more first rest)

-- Labels of unprotected code

itself : (n : ℕ) → (n == n) ≡ true
itself n = grind arith

now-inside : (r : Replayed) (i : ℕ) → is_inside (entering r i r.state) i ≡ true
now-inside r i = ap (λ (b : Bool). b || is_inside r i) (itself i)

-- the state after a member has come in
abbrev arrived : Replayed → ℕ → Bool → Replayed
arrived r i b = record { state = r.state; inside = came_where b r.inside i }

-- an entry of a member, which comes in before it if it isn't inside
module _ (r : Replayed) (i : ℕ) (entry : Entry) (label : Label) (to : Replayed → Replayed) (stands : is_at_unprotected i r.state ≡ true)
    (unfolds : (q : Replayed) → q.state ≡ r.state → is_inside q i ≡ true
    → Unfolds q entry.number entry.kind entry.steps entry.fresh entry.answer (label ∷ []) (to q)) where
  come-in : (b : Bool) → is_inside r i ≡ b → (entries : List Entry) (labels : List Label) (u : Replayed) → UnfoldsAll (to (arrived r i b)) entries labels u
      → UnfoldsAll r ((arrival_where b i ++ entry ∷ []) ++ entries) (label ∷ labels) u
  come-in true is entries labels u rest = UnfoldsAll.next r (to r) u entry entries (label ∷ []) labels (unfolds r refl is) rest
  come-in false is entries labels u rest =
      let q = entering r i r.state in
      UnfoldsAll.next r q u (ran i 0 []) (entry ∷ entries) [] (label ∷ labels) (Unfolds.arrives is stands)
      (UnfoldsAll.next q (to q) u entry entries (label ∷ []) labels (unfolds q refl (now-inside r i)) rest)

  come-calm : IsCalm r → IsCalm (to (arrived r i (is_inside r i)))
  come-calm calm =
      let last = to (arrived r i (is_inside r i)) in
      calm-all r ((arrival_where (is_inside r i) i ++ entry ∷ []) ++ []) (label ∷ []) last (come-in (is_inside r i) refl [] [] last (UnfoldsAll.done last)) calm

-- Each label

module _ (r : Replayed) (p : Place) (calm : IsCalm r) (inside : p.inside ≡ r.inside) where
  activates : (i : ℕ) (t : State) → after r.state (Label.Activate i) ≡ Some t → Next r p [] (Label.Activate i) t
  activates i t e = record {
    reached = r;
    later = fragment_labels i [];
    unfolds = λ entries labels u rest. rest;
    calm = calm;
    inside = inside;
    stands =
        StandsBehind.under_way t [] (by (is_inside r i) refl) (record { count = refl; made = refl; answered = refl }) (run-one r.state t (Label.Activate i) e)
        (ap (λ (s : State). s.active) (activate-is i r.state t e));
  }
    where
      by : (b : Bool) → is_inside r i ≡ b → is_inside r i ≡ false
      by false is = is
      by true is = let clash : true ≡ false = sym (calm.standing i is) ∙ activated-resting i r.state t e in cc

  frees : (i : ℕ) (kind : StepKind) (t : State) → after r.state (Label.Free i kind) ≡ Some t → Next r p [] (Label.Free i kind) t
  frees i kind t e =
      let entry = freed i (fresh_of kind) (device_answer kind) in
      let label = Label.Free i kind in
      let to : Replayed → Replayed = λ q. staying q t in
      let stands = free-stands i kind r.state t e in
      let unfolds : (q : Replayed) → q.state ≡ r.state → is_inside q i ≡ true → Unfolds q i EntryKind.Free 1 (fresh_of kind) (device_answer kind) (label ∷ []) (to q) =
      λ q same is.
      Unfolds.goes_on (kind ∷ []) 0 (fresh_of kind) (device_answer kind) t is (record { count = refl; made = append-nil (fresh_of kind); answered = refl })
      (run-one q.state t label (ap (λ (s : State). after s label) same ∙ e)) in
      record {
        reached = to (arrived r i (is_inside r i));
        later = [];
        unfolds = λ entries labels u rest.
            subst (λ (xs : List ℕ). UnfoldsAll r ((arrival xs i ++ entry ∷ []) ++ entries) (label ∷ labels) u) (sym inside)
            (come-in r i entry label to stands unfolds (is_inside r i) refl entries labels u rest);
        calm = come-calm r i entry label to stands unfolds calm;
        inside = ap (λ (xs : List ℕ). came xs i) inside;
        stands = StandsBehind.rests;
      }

  closes : (i : ℕ) (t : State) → after r.state (Label.Close i) ≡ Some t → Next r p [] (Label.Close i) t
  closes i t e =
      let entry = freed i [] None in
      let label = Label.Close i in
      let to : Replayed → Replayed = λ q. leaving q i t in
      let stands = close-stands i r.state t e in
      let unfolds : (q : Replayed) → q.state ≡ r.state → is_inside q i ≡ true → Unfolds q i EntryKind.Free 1 [] None (label ∷ []) (to q) =
      λ q same is.
      Unfolds.closes [] 0 [] t is (record { count = refl; made = refl; answered = refl }) (run-one q.state t label (ap (λ (s : State). after s label) same ∙ e)) in
      record {
        reached = to (arrived r i (is_inside r i));
        later = [];
        unfolds = λ entries labels u rest.
            subst (λ (xs : List ℕ). UnfoldsAll r ((arrival xs i ++ entry ∷ []) ++ entries) (label ∷ labels) u) (sym inside)
            (come-in r i entry label to stands unfolds (is_inside r i) refl entries labels u rest);
        calm = come-calm r i entry label to stands unfolds calm;
        inside = ap (λ (xs : List ℕ). filter (λ j. not (j == i)) (came xs i)) inside;
        stands = StandsBehind.rests;
      }

  module _ (s : State) (kinds : List StepKind) (outside : is_inside r p.number ≡ false) (are : AreSteps kinds p.steps p.fresh None)
      (runs : run r.state (fragment_labels p.number kinds) ≡ Some s) (busy : s.active ≡ Some p.number) where
    abbrev before : List Label
    before = fragment_labels p.number kinds

    steps-on : (kind : StepKind) (t : State) → after s (Label.Step kind) ≡ Some t → Next r p before (Label.Step kind) t
    steps-on kind t e =
        let step = step-reduced kind p.number s t busy e in
        let more = fragment-more p.number kinds kind in
        record {
          reached = r;
          later = fragment_labels p.number (kinds ++ kind ∷ []);
          unfolds = λ entries labels u rest. subst (λ (ls : List Label). UnfoldsAll r entries ls u) (more labels) rest;
          calm = calm;
          inside = inside;
          stands =
              StandsBehind.under_way t (kinds ++ kind ∷ []) outside (steps-more kinds kind p.steps p.fresh are (no_answer kind step.act step.can))
              (ap (run r.state) (sym (append-nil (fragment_labels p.number (kinds ++ kind ∷ []))) ∙ more [])
              ∙ run-two r.state s t before (Label.Step kind ∷ []) runs (run-one s t (Label.Step kind) e))
              ((step-keeps kind p.number s t busy e).active ∙ busy);
        }

    told-by : (label : Label) (t : State) (u : Replayed) → Unfolds r p.number EntryKind.Ran p.steps p.fresh None (before ++ label ∷ []) u
        → (entries : List Entry) (labels : List Label) (v : Replayed) → UnfoldsAll u entries labels v
        → UnfoldsAll r (ran p.number p.steps p.fresh ∷ entries) (before ++ label ∷ labels) v
    told-by label t u first entries labels v rest =
        one-more r u v (ran p.number p.steps p.fresh) entries (before ++ label ∷ labels) (before ++ label ∷ []) labels
        (sym (append_assoc before (label ∷ []) labels)) first rest

    leaves : (t : State) → after s Label.Leave ≡ Some t → Next r p before Label.Leave t
    leaves t e =
        let first : Unfolds r p.number EntryKind.Ran p.steps p.fresh None (before ++ Label.Leave ∷ []) (entering r p.number t) =
        Unfolds.leaves kinds p.steps p.fresh t outside are (run-two r.state s t before (Label.Leave ∷ []) runs (run-one s t Label.Leave e)) in
        record {
          reached = entering r p.number t;
          later = [];
          unfolds = told-by Label.Leave t (entering r p.number t) first;
          calm = calm-entry r p.number EntryKind.Ran p.steps p.fresh None (before ++ Label.Leave ∷ []) (entering r p.number t) first calm;
          inside = ap (λ (xs : List ℕ). p.number ∷ xs) inside;
          stands = StandsBehind.rests;
        }

    ends : (t : State) → after s Label.End ≡ Some t → Next r p before Label.End t
    ends t e =
        let first : Unfolds r p.number EntryKind.Ran p.steps p.fresh None (before ++ Label.End ∷ []) (staying r t) =
        Unfolds.ends kinds p.steps p.fresh t outside are (run-two r.state s t before (Label.End ∷ []) runs (run-one s t Label.End e)) in
        record {
          reached = staying r t;
          later = [];
          unfolds = told-by Label.End t (staying r t) first;
          calm = calm-entry r p.number EntryKind.Ran p.steps p.fresh None (before ++ Label.End ∷ []) (staying r t) first calm;
          inside = inside;
          stands = StandsBehind.rests;
        }

    busy-next : (label : Label) (t : State) → after s label ≡ Some t → Next r p before label t
    busy-next (Label.Activate j) t e = absurd (activate-busy s t p.number busy j e)
    busy-next (Label.Step kind) t e = steps-on kind t e
    busy-next Label.Leave t e = leaves t e
    busy-next Label.End t e = ends t e
    busy-next (Label.Free j kind) t e = absurd (free-busy s t p.number busy j kind e)
    busy-next (Label.Close j) t e = absurd (close-busy s t p.number busy j e)

  rest-next : (label : Label) (t : State) → after r.state label ≡ Some t → Next r p [] label t
  rest-next (Label.Activate i) t e = activates i t e
  rest-next (Label.Step kind) t e = absurd (step-at-rest r.state t calm.idle kind e)
  rest-next Label.Leave t e = absurd (leave-at-rest r.state t calm.idle e)
  rest-next Label.End t e = absurd (end-at-rest r.state t calm.idle e)
  rest-next (Label.Free i kind) t e = frees i kind t e
  rest-next (Label.Close i) t e = closes i t e

  one-label : (s t : State) (before : List Label) (label : Label) → StandsBehind r p s before → after s label ≡ Some t → Next r p before label t
  one-label _ t _ label StandsBehind.rests e = rest-next label t e
  one-label _ t _ label (StandsBehind.under_way s kinds outside are runs busy) e = busy-next s kinds outside are runs busy label t e

-- All labels

record Follows (r : Replayed) (p : Place) (before labels : List Label) (end : State) : Type 0 where
  pub reached : Replayed
  pub unfolds : UnfoldsAll r (straight_from p labels) (before ++ labels) reached
  pub is : reached.state ≡ end

at-the-end : (r : Replayed) (p : Place) (s end : State) (before : List Label) → StandsBehind r p s before → s ≡ end → end.active ≡ None → Follows r p before [] end
at-the-end r p _ end _ StandsBehind.rests same idle = record { reached = r; unfolds = UnfoldsAll.done r; is = same }
at-the-end r p _ end _ (StandsBehind.under_way s kinds outside are runs busy) same idle =
    absurd (let clash : ◌≡◌ {A = Option ℕ} (Some p.number) None = sym busy ∙ ap (λ (z : State). z.active) same ∙ idle in cc)

follow : (labels : List Label) (r : Replayed) (p : Place) (s end : State) (before : List Label) → IsCalm r → p.inside ≡ r.inside → StandsBehind r p s before
    → run s labels ≡ Some end → end.active ≡ None → Follows r p before labels end
follow [] r p s end before calm inside stands e idle = let same : s ≡ end = cc in at-the-end r p s end before stands same idle
follow (label ∷ labels) r p s end before calm inside stands e idle =
    option_and_then_some _ _ _ e (λ t first rest.
    let n = one-label r p calm inside s t before label stands first in
    let x = follow labels n.reached (past p label) t end n.later n.calm n.inside n.stands rest idle in
    record { reached = x.reached; unfolds = n.unfolds (straight_from (past p label) labels) labels x.reached x.unfolds; is = x.is })

pub has-journal : (program : Tree) (labels : List Label) (s : State) → IsRun program labels s → s.active ≡ None
    → (r : Replayed) × UnfoldsAll (begun_at program) (straight labels) labels r × (r.state ≡ s)
has-journal program labels s e idle =
    let begun = begun_at program in
    let x = follow labels begun outset begun.state s [] (calm-replayed program [] begun refl) refl StandsBehind.rests e idle in
    (x.reached, x.unfolds, x.is)

pub same-calls : (program : Tree) (labels : List Label) (s : State) (k : ℕ) → IsRun program labels s → s.active ≡ None
    → device_calls k program (straight labels) ≡ calls_along k (start program) labels
same-calls program labels s k e idle = let j = has-journal program labels s e idle in calls-unfolded k (begun_at program) (straight labels) labels j.0 j.1

pub is-run : (program : Tree) (entries : List Entry) (labels : List Label) (r : Replayed) → UnfoldsAll (begun_at program) entries labels r
    → IsRun program labels r.state × (r.state.active ≡ None)
is-run program entries labels r u =
    (unfolds_all-run (begun_at program) entries labels r u, (calm-replayed program entries r (all-back (begun_at program) entries labels r u)).idle)

pub same-states : (program : Tree) (s : State) → ((labels : List Label) × IsRun program labels s × (s.active ≡ None))
    ↔ ((entries : List Entry) × (r : Replayed) × (replay program entries ≡ Some r) × (r.state ≡ s))
same-states program s = (
  λ x. let j = has-journal program x.0 s x.1 x.2 in (straight x.0, j.0, all-back (begun_at program) (straight x.0) x.0 j.0 j.1, j.2),
  λ x.
      let u = unfold-all (begun_at program) x.0 x.1 x.2 in
      let h = is-run program x.0 u.0 x.1 u.1 in
      (u.0, subst (λ (t : State). IsRun program u.0 t) x.3 h.0, ap (λ (t : State). t.active) (sym x.3) ∙ h.1),
)
