-- A fragment under way: its beginning, its progress, and its entry, in any replayed state.
use Rattle.std.proofs.Common.{◌≡◌, ℕ, ◌+◌, ◌++◌, true, false, List, [], ◌∷◌, map, Some, None, option_and_then, refl, sym, ap, ◌∙◌, subst, arith, append-nil, append_assoc, length-append}
use Rattle.std.proofs.lemmas.List.Concat.{flat_map-append}
use Rattle.ame_term.specs.Frame.{Side, side_told}
use Rattle.ame_term.specs.Act.{device_answer}
use Rattle.ame_term.specs.State.{State, after, run}
use Rattle.ame_term.specs.declared.semantics.StepKind.{StepKind}
use Rattle.ame_term.specs.declared.semantics.Label.{Label}
use Rattle.ame_journal.specs.declared.entry.Entry.{Entry}
use Rattle.ame_journal.specs.declared.entry.EntryKind.{EntryKind}
use Rattle.ame_journal.specs.Replayed.{Replayed, is_inside, side_at, is_failing, is_tall, entering, staying}
use Rattle.ame_journal.specs.Labels.{fresh_of, made_by, IsAnswered, AreSteps, fragment_labels, attempt_labels, Unfolds}
use Rattle.ame_journal.specs.Replay.{replay_entry}
use Rattle.ame_journal.specs.UnderWay.{UnderWay}
use Rattle.ame_journal.proofs.StepLemmas.{step-keeps, step-reduced, activate-is, activated-resting, no_answer}
use Rattle.ame_journal.proofs.LabelLemmas.{run-two, run-one}
use Rattle.ame_journal.proofs.UnfoldLemmas.{entry-back}

-- with one more step, which calls no device
answered-more : (kinds : List StepKind) (kind : StepKind) → IsAnswered kinds None → device_answer kind ≡ None → IsAnswered (kinds ++ kind ∷ []) None
answered-more [] kind answered none = sym none
answered-more (k ∷ []) kind answered none = (sym answered, sym none)
answered-more (k ∷ next ∷ kinds) kind answered none = (answered.0, answered-more (next ∷ kinds) kind answered.1 none)

steps-more : (kinds : List StepKind) (kind : StepKind) (n : ℕ) (fresh : List ℕ) → AreSteps kinds n fresh None → device_answer kind ≡ None →
    AreSteps (kinds ++ kind ∷ []) (n + 1) (fresh ++ fresh_of kind) None
steps-more kinds kind n fresh are none = record {
  count = length-append kinds (kind ∷ []) ∙ ap (λ k. k + 1) are.count;
  made = flat_map-append fresh_of kinds (kind ∷ []) ∙ ap (λ xs. xs ++ made_by (kind ∷ [])) are.made ∙ ap (λ xs. fresh ++ xs) (append-nil (fresh_of kind));
  answered = answered-more kinds kind are.answered none;
}

map-more : (kinds : List StepKind) (kind : StepKind) → map Label.Step (kinds ++ kind ∷ []) ≡ map Label.Step kinds ++ Label.Step kind ∷ []
map-more [] kind = refl
map-more (k ∷ kinds) kind = ap (λ ls. Label.Step k ∷ ls) (map-more kinds kind)

module _ (s : State) where
  pub UnderWay-begun : (i : ℕ) (a : State) → after s (Label.Activate i) ≡ Some a → UnderWay s i 0 [] a
  UnderWay-begun i a e =
      let is = activate-is i s a e in
      record {
        begun = a;
        activates = e;
        kinds = [];
        are = record { count = refl; made = refl; answered = refl };
        made = refl;
        active = ap (λ t. t.active) is;
        printed = ([], ap (λ t. t.output) is ∙ sym (append-nil s.output));
        few = let same : a.next ≡ s.next = ap (λ t. t.next) is in omega arith;
      }

  pub UnderWay-step : (i n : ℕ) (fresh : List ℕ) (kind : StepKind) (t u : State) →
      UnderWay s i n fresh t → after t (Label.Step kind) ≡ Some u → UnderWay s i (n + 1) (fresh ++ fresh_of kind) u
  UnderWay-step i n fresh kind t u way e =
      let keeps = step-keeps kind i t u way.active e in
      let step = step-reduced kind i t u way.active e in
      record {
        begun = way.begun;
        activates = way.activates;
        kinds = way.kinds ++ kind ∷ [];
        are = steps-more way.kinds kind n fresh way.are (no_answer kind step.act step.can);
        made =
            ap (run way.begun) (map-more way.kinds kind)
            ∙ run-two way.begun t u (map Label.Step way.kinds) (Label.Step kind ∷ []) way.made (run-one t u (Label.Step kind) e);
        active = keeps.active ∙ way.active;
        printed = (way.printed.0 ++ keeps.output.0, keeps.output.1 ∙ ap (λ o. o ++ keeps.output.0) way.printed.1 ∙ append_assoc s.output way.printed.0 keeps.output.0);
        few = let one = keeps.next in let before = way.few in omega arith;
      }

  -- its labels are legal
  pub UnderWay-runs : (i n : ℕ) (fresh : List ℕ) (t : State) (way : UnderWay s i n fresh t) → run s (fragment_labels i way.kinds) ≡ Some t
  UnderWay-runs i n fresh t way = ap (λ o. option_and_then (λ v. run v (map Label.Step way.kinds)) o) way.activates ∙ way.made

-- An entry for the fragment, of one kind or another.
module _ (r : Replayed) (entry : Entry) (t : State) (way : UnderWay r.state entry.number entry.steps entry.fresh t) (answer : entry.answer ≡ None) where
  told : (kind : EntryKind) (labels : List Label) (u : Replayed) → entry.kind ≡ kind → Unfolds r entry.number kind entry.steps entry.fresh None labels u →
      replay_entry r entry ≡ Some u
  told kind labels u is unfolds =
      entry-back r entry labels u
      (subst (λ k. Unfolds r entry.number k entry.steps entry.fresh entry.answer labels u) (sym is)
      (subst (λ a. Unfolds r entry.number kind entry.steps entry.fresh a labels u) (sym answer) unfolds))

  runs : run r.state (fragment_labels entry.number way.kinds) ≡ Some t
  runs = UnderWay-runs r.state entry.number entry.steps entry.fresh t way

  runs-behind : (label : Label) (u : State) → after t label ≡ Some u → run r.state (fragment_labels entry.number way.kinds ++ label ∷ []) ≡ Some u
  runs-behind label u legal = run-two r.state t u (fragment_labels entry.number way.kinds) (label ∷ []) runs (run-one t u label legal)

  protected : side_at entry.number r.state ≡ Side.Protected
  protected = ap side_told (activated-resting entry.number r.state way.begun way.activates)

  attempts : run r.state (attempt_labels (side_at entry.number r.state) entry.number way.kinds) ≡ Some t
  attempts = ap (λ side. run r.state (attempt_labels side entry.number way.kinds)) protected ∙ runs

  -- it has ended
  pub replay-ended : entry.kind ≡ EntryKind.Ran → is_inside r entry.number ≡ false → (u : State) → after t Label.End ≡ Some u → replay_entry r entry ≡ Some (staying r u)
  replay-ended kind outside u ends =
      told EntryKind.Ran _ (staying r u) kind (Unfolds.ends way.kinds entry.steps entry.fresh u outside way.are (runs-behind Label.End u ends))

  -- it has come to `unprotected`
  pub replay-left : entry.kind ≡ EntryKind.Ran → is_inside r entry.number ≡ false → (u : State) → after t Label.Leave ≡ Some u →
      replay_entry r entry ≡ Some (entering r entry.number u)
  replay-left kind outside u leaves =
      told EntryKind.Ran _ (entering r entry.number u) kind (Unfolds.leaves way.kinds entry.steps entry.fresh u outside way.are (runs-behind Label.Leave u leaves))

  -- it has come to a condition that is false
  pub replay-stuck : entry.kind ≡ EntryKind.Stuck → is_failing entry.number t ≡ true → replay_entry r entry ≡ Some r
  replay-stuck kind fails = told EntryKind.Stuck [] r kind (Unfolds.fails way.kinds entry.steps entry.fresh t way.are runs fails)

  -- it was cut off
  pub replay-cut : entry.kind ≡ EntryKind.Cut → replay_entry r entry ≡ Some r
  replay-cut kind = told EntryKind.Cut [] r kind (Unfolds.is_cut way.kinds entry.steps entry.fresh t way.are attempts)

  -- it is about to become a value that is too high
  pub replay-tall : entry.kind ≡ EntryKind.Tall → is_tall Side.Protected entry.number t ≡ true → replay_entry r entry ≡ Some r
  replay-tall kind tall =
      told EntryKind.Tall [] r kind
      (Unfolds.grows way.kinds entry.steps entry.fresh t way.are attempts (ap (λ side. is_tall side entry.number t) protected ∙ tall))
