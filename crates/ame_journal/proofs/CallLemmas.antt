-- The calls that entries make are those of their labels.
use Rattle.std.proofs.Common.{◌≡◌, ℕ, zero, suc, ℤ, List, [], ◌∷◌, ◌++◌, map, length, Option, Some, None, option_and_then, refl, sym, ap, ◌∙◌, arith, append-nil, append_assoc, length-append}
use Rattle.std.proofs.lemmas.Option.{option_and_then_some}
use Rattle.std.proofs.lemmas.List.Concat.{flat_map-append}
use Rattle.ame_term.specs.Act.{device_answer}
use Rattle.ame_term.specs.State.{State, after, run}
use Rattle.ame_term.specs.declared.semantics.StepKind.{StepKind}
use Rattle.ame_term.specs.declared.semantics.Label.{Label}
use Rattle.ame_journal.specs.declared.entry.Entry.{Entry}
use Rattle.ame_journal.specs.declared.entry.EntryKind.{EntryKind}
use Rattle.ame_journal.specs.Replayed.{Replayed}
use Rattle.ame_journal.specs.Labels.{fresh_of, made_by, IsAnswered, AreSteps, fragment_labels, free_labels, Unfolds, UnfoldsAll}
use Rattle.ame_journal.specs.Replay.{member_act, replay_entry, replay_from}
use Rattle.ame_journal.specs.Calls.{call_at, label_call, of_next, calls_along, last_call, device_calls_from}
use Rattle.ame_journal.proofs.LabelLemmas.{unfolds-run}
use Rattle.ame_journal.proofs.UnfoldLemmas.{run-last, free-back, entry-back}

module _ (k : ℕ) where
  -- the calls along labels, and along those after them
  calls_along-append : (s t : State) (xs ys : List Label) → run s xs ≡ Some t → calls_along k s (xs ++ ys) ≡ calls_along k s xs ++ calls_along k t ys
  calls_along-append s t [] ys e = let same : s ≡ t = cc in ap (λ u. calls_along k u ys) same
  calls_along-append s t (x ∷ xs) ys e =
      option_and_then_some _ _ _ e (λ w legal rest.
      ap (λ o. label_call k s x ++ of_next (λ u. calls_along k u (xs ++ ys)) o) legal
      ∙ ap (λ l. label_call k s x ++ l) (calls_along-append w t xs ys rest)
      ∙ sym (append_assoc (label_call k s x) (calls_along k w xs) (calls_along k t ys))
      ∙ ap (λ o. (label_call k s x ++ of_next (λ u. calls_along k u xs) o) ++ calls_along k t ys) (sym legal))

  -- after nothing is said, nothing is said
  next-none : {X : Type 0} (go : X → List (ℤ × ℤ)) (o : Option X) → ((x : X) → go x ≡ []) → of_next go o ≡ []
  next-none go None none = refl
  next-none go (Some x) none = none x

  -- a fragment calls no device
  steps-quiet : (s : State) (kinds : List StepKind) → calls_along k s (map Label.Step kinds) ≡ []
  steps-quiet s [] = refl
  steps-quiet s (kind ∷ kinds) = next-none (λ t. calls_along k t (map Label.Step kinds)) (after s (Label.Step kind)) (λ t. steps-quiet t kinds)

  fragment-quiet : (s : State) (i : ℕ) (kinds : List StepKind) → calls_along k s (fragment_labels i kinds) ≡ []
  fragment-quiet s i kinds = next-none (λ t. calls_along k t (map Label.Step kinds)) (after s (Label.Activate i)) (λ t. steps-quiet t kinds)

  -- and no steps do that have no answer
  free-quiet : (s : State) (i : ℕ) (kinds : List StepKind) → IsAnswered kinds None → calls_along k s (free_labels i kinds) ≡ []
  free-quiet s i [] answered = refl
  free-quiet s i (kind ∷ []) answered =
      ap (λ o. call_at k o (member_act i s) ++ of_next (λ t. calls_along k t []) (after s (Label.Free i kind))) (sym answered)
      ∙ next-none (λ t. calls_along k t []) (after s (Label.Free i kind)) (λ t. refl)
  free-quiet s i (kind ∷ next ∷ kinds) answered =
      ap (λ o. call_at k o (member_act i s) ++ of_next (λ t. calls_along k t (free_labels i (next ∷ kinds))) (after s (Label.Free i kind))) answered.0
      ∙ next-none (λ t. calls_along k t (free_labels i (next ∷ kinds))) (after s (Label.Free i kind)) (λ t. free-quiet t i (next ∷ kinds) answered.1)

  -- quiet labels, and a last one that calls nothing
  last-quiet : (s u : State) (xs : List Label) (label : Label) → run s (xs ++ label ∷ []) ≡ Some u → calls_along k s xs ≡ [] → ((t : State) → label_call k t label ≡ []) →
      [] ≡ calls_along k s (xs ++ label ∷ [])
  last-quiet s u xs label e quiet none =
      let cut = run-last s u xs label e in
      sym (calls_along-append s cut.0 xs (label ∷ []) cut.1
      ∙ ap (λ l. l ++ calls_along k cut.0 (label ∷ [])) quiet
      ∙ ap (λ l. l ++ of_next (λ t. calls_along k t []) (after cut.0 label)) (none cut.0)
      ∙ next-none (λ t. calls_along k t []) (after cut.0 label) (λ t. refl))

  no-last : (i n : ℕ) (fresh : List ℕ) (s : State) → last_call k i n fresh None s ≡ []
  no-last i zero fresh s = refl
  no-last i (suc n) fresh s = refl

-- the step that calls, and those before it
record Called (kinds : List StepKind) (a : ℤ) : Type 0 where
  front : List StepKind
  kind : StepKind
  split : kinds ≡ front ++ kind ∷ []
  quiet : IsAnswered front None
  answers : device_answer kind ≡ Some a

quiet-more : (kind : StepKind) (front : List StepKind) → device_answer kind ≡ None → IsAnswered front None → IsAnswered (kind ∷ front) None
quiet-more kind [] none quiet = sym none
quiet-more kind (k ∷ front) none quiet = (none, quiet)

called : (kinds : List StepKind) (a : ℤ) → IsAnswered kinds (Some a) → Called kinds a
called [] a answered = cc
called (kind ∷ []) a answered = record { front = []; kind = kind; split = refl; quiet = refl; answers = sym answered }
called (kind ∷ next ∷ kinds) a answered =
    let rest = called (next ∷ kinds) a answered.1 in
    record {
      front = kind ∷ rest.front;
      kind = rest.kind;
      split = ap (λ l. kind ∷ l) rest.split;
      quiet = quiet-more kind rest.front answered.0 rest.quiet;
      answers = rest.answers;
    }

-- it makes no location
no_location_made : (kind : StepKind) (a : ℤ) → device_answer kind ≡ Some a → fresh_of kind ≡ []
no_location_made (StepKind.Device b) a e = refl
no_location_made StepKind.Local a e = cc
no_location_made _ a e = cc

labels-more : (i : ℕ) (front : List StepKind) (kind : StepKind) → free_labels i (front ++ kind ∷ []) ≡ free_labels i front ++ Label.Free i kind ∷ []
labels-more i [] kind = refl
labels-more i (k ∷ front) kind = ap (λ l. Label.Free i k ∷ l) (labels-more i front kind)

module _ (k : ℕ) (r : Replayed) (i n : ℕ) (fresh : List ℕ) where
  free-call : (answer : Option ℤ) (kinds : List StepKind) (s : State) → AreSteps kinds (suc n) fresh answer → run r.state (free_labels i kinds) ≡ Some s →
      last_call k i (suc n) fresh answer r.state ≡ calls_along k r.state (free_labels i kinds)
  free-call None kinds s are e = sym (free-quiet k r.state i kinds are.answered)
  free-call (Some a) kinds s are e =
      let c = called kinds a are.answered in
      let labels = ap (free_labels i) c.split ∙ labels-more i c.front c.kind in
      let cut = run-last r.state s (free_labels i c.front) (Label.Free i c.kind) (ap (run r.state) (sym labels) ∙ e) in
      let long = length-append c.front (c.kind ∷ []) in
      let whole : length kinds ≡ length (c.front ++ c.kind ∷ []) = ap length c.split in
      let counted = are.count in
      let count : length c.front ≡ n = omega arith in
      let made : made_by c.front ≡ fresh =
      sym (append-nil (made_by c.front))
      ∙ ap (λ l. made_by c.front ++ l) (sym (append-nil (fresh_of c.kind) ∙ no_location_made c.kind a c.answers))
      ∙ sym (flat_map-append fresh_of c.front (c.kind ∷ []))
      ∙ ap made_by (sym c.split) ∙ are.made in
      let here = free-back i c.front n fresh None r.state cut.0 (record { count = count; made = made; answered = c.quiet }) cut.1 in
      let last = call_at k (Some a) (member_act i cut.0) in
      ap (λ o. call_at k (Some a) (option_and_then (member_act i) o)) here
      ∙ sym (append-nil last)
      ∙ ap (λ l. last ++ l) (sym (next-none k (λ t. calls_along k t []) (after cut.0 (Label.Free i c.kind)) (λ t. refl)))
      ∙ ap (λ o. call_at k o (member_act i cut.0) ++ of_next (λ t. calls_along k t []) (after cut.0 (Label.Free i c.kind))) (sym c.answers)
      ∙ ap (λ l. l ++ calls_along k cut.0 (Label.Free i c.kind ∷ [])) (sym (free-quiet k r.state i c.front c.quiet))
      ∙ sym (calls_along-append k r.state cut.0 (free_labels i c.front) (Label.Free i c.kind ∷ []) cut.1)
      ∙ ap (calls_along k r.state) (sym labels)

entry-calls : (k : ℕ) (r : Replayed) (i : ℕ) (kind : EntryKind) (n : ℕ) (fresh : List ℕ) (answer : Option ℤ) (labels : List Label) (t : Replayed) →
    Unfolds r i kind n fresh answer labels t → last_call k i n fresh answer r.state ≡ calls_along k r.state labels
entry-calls k r i _ _ _ _ _ _ (Unfolds.leaves kinds n fresh s outside are runs) =
    no-last k i n fresh r.state ∙ last-quiet k r.state s (fragment_labels i kinds) Label.Leave runs (fragment-quiet k r.state i kinds) (λ t. refl)
entry-calls k r i _ _ _ _ _ _ (Unfolds.ends kinds n fresh s outside are runs) =
    no-last k i n fresh r.state ∙ last-quiet k r.state s (fragment_labels i kinds) Label.End runs (fragment-quiet k r.state i kinds) (λ t. refl)
entry-calls k r i _ _ _ _ _ _ (Unfolds.arrives outside at) = refl
entry-calls k r i _ _ _ _ _ _ (Unfolds.goes_on kinds n fresh answer s inside are runs) = free-call k r i n fresh answer kinds s are runs
entry-calls k r i _ _ _ _ _ _ (Unfolds.closes kinds n fresh s inside are runs) =
    last-quiet k r.state s (free_labels i kinds) (Label.Close i) runs (free-quiet k r.state i kinds are.answered) (λ t. refl)
entry-calls k r i _ _ _ _ _ _ (Unfolds.fails kinds n fresh s are runs fails) = no-last k i n fresh r.state
entry-calls k r i _ _ _ _ _ _ (Unfolds.is_cut kinds n fresh s are runs) = no-last k i n fresh r.state
entry-calls k r i _ _ _ _ _ _ (Unfolds.grows kinds n fresh s are runs tall) = no-last k i n fresh r.state

pub calls-unfolded : (k : ℕ) (r : Replayed) (entries : List Entry) (labels : List Label) (t : Replayed) → UnfoldsAll r entries labels t →
    device_calls_from k r entries ≡ calls_along k r.state labels
calls-unfolded k _ _ _ _ (UnfoldsAll.done r) = refl
calls-unfolded k _ _ _ _ (UnfoldsAll.next r s t entry entries labels more first others) =
    let here = entry-calls k r entry.number entry.kind entry.steps entry.fresh entry.answer labels s first in
    ap (λ l. l ++ of_next (λ u. device_calls_from k u entries) (replay_entry r entry)) here
    ∙ ap (λ o. calls_along k r.state labels ++ of_next (λ u. device_calls_from k u entries) o) (entry-back r entry labels s first)
    ∙ ap (λ l. calls_along k r.state labels ++ l) (calls-unfolded k s entries more t others)
    ∙ sym (calls_along-append k r.state s.state labels more (unfolds-run r entry.number entry.kind entry.steps entry.fresh entry.answer labels s first))

pub calls-appended : (k : ℕ) (r s : Replayed) (front rest : List Entry) → replay_from r front ≡ Some s →
    device_calls_from k r (front ++ rest) ≡ device_calls_from k r front ++ device_calls_from k s rest
calls-appended k r s [] rest e = let same : r ≡ s = cc in ap (λ v. device_calls_from k v rest) same
calls-appended k r s (entry ∷ front) rest e =
    option_and_then_some _ _ _ e (λ w first others.
    let here = last_call k entry.number entry.steps entry.fresh entry.answer r.state in
    ap (λ o. here ++ of_next (λ u. device_calls_from k u (front ++ rest)) o) first
    ∙ ap (λ l. here ++ l) (calls-appended k w s front rest others)
    ∙ sym (append_assoc here (device_calls_from k w front) (device_calls_from k s rest))
    ∙ ap (λ o. (here ++ of_next (λ u. device_calls_from k u front) o) ++ device_calls_from k s rest) (sym first))
