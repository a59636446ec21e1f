-- A journal that is replayed unfolds into labels. Each label is legal.
use Rattle.std.proofs.Common.{◌≡◌, ℕ, zero, suc, ◌==◌, ◌⊎◌, inl, inr, ℤ, Bool, true, false, List, [], ◌∷◌, ◌++◌, map, Option, Some, None, option_and_then, option_map, is_some, if◌then◌else◌, refl, sym, ap, ◌∙◌, subst, arith, eqb-true}
use Rattle.std.proofs.lemmas.Option.{option_and_then_some}
use Rattle.ame_term.specs.Frame.{Side}
use Rattle.ame_term.specs.State.{State, after, run}
use Rattle.ame_term.specs.declared.semantics.StepKind.{StepKind}
use Rattle.ame_term.specs.declared.semantics.Label.{Label}
use Rattle.ame_journal.specs.declared.entry.Entry.{Entry}
use Rattle.ame_journal.specs.declared.entry.EntryKind.{EntryKind}
use Rattle.ame_journal.specs.Replayed.{Replayed, has_such, entering, leaving, staying, is_at_unprotected, side_at, is_inside, is_failing, is_tall}
use Rattle.ame_journal.specs.Labels.{fresh_of, IsAnswered, AreSteps, fragment_labels, free_labels, attempt_labels, Unfolds, UnfoldsAll}
use Rattle.ame_journal.specs.Replay.{Supply, steps, fragment, attempt, attempt_on, left_or_ended, note_where, fails_after, locations, or_else, replay_ran, replay_closing, replay_free, replay_kind, replay_entry, replay_from}
use Rattle.ame_journal.proofs.SupplyLemmas.{Taken, taken}

-- Runs

pub run-append : (s : State) (xs ys : List Label) → run s (xs ++ ys) ≡ option_and_then (λ t. run t ys) (run s xs)
run-append s [] ys = refl
run-append s (x ∷ xs) ys = behind (after s x) (λ t. run-append t xs ys)
  where
    behind : (o : Option State) → ((t : State) → run t (xs ++ ys) ≡ option_and_then (λ u. run u ys) (run t xs)) →
        option_and_then (λ t. run t (xs ++ ys)) o ≡ option_and_then (λ u. run u ys) (option_and_then (λ t. run t xs) o)
    behind None go = refl
    behind (Some t) go = go t

pub run-two : (s t u : State) (xs ys : List Label) → run s xs ≡ Some t → run t ys ≡ Some u → run s (xs ++ ys) ≡ Some u
run-two s t u xs ys first second = run-append s xs ys ∙ ap (λ o. option_and_then (λ v. run v ys) o) first ∙ second

pub run-one : (t u : State) (label : Label) → after t label ≡ Some u → run t (label ∷ []) ≡ Some u
run-one t u label e = ap (λ o. option_and_then (λ v. run v []) o) e

-- Steps

one_step : (kind : StepKind) (n : ℕ) (fresh : List ℕ) (answer : Option ℤ) (left : Supply) (kinds : List StepKind) → Taken (n == 0) fresh answer kind left →
    AreSteps kinds n left.fresh left.answer → AreSteps (kind ∷ kinds) (suc n) fresh answer
one_step kind n fresh answer left [] t are =
    record {
      count = ap suc are.count;
      made = ap (λ ls. fresh_of kind ++ ls) are.made ∙ sym t.used;
      answered = elim t.kept [ inl k ↦ sym k.1 ∙ (are.answered ∙ sym k.0) | inr k ↦ k.1 ];
    }
one_step kind n fresh answer left (k ∷ ks) t are =
    record {
      count = ap suc are.count;
      made = ap (λ ls. fresh_of kind ++ ls) are.made ∙ sym t.used;
      answered = elim t.kept [
        | inl kept ↦ (kept.0, subst (IsAnswered (k ∷ ks)) kept.1 are.answered)
        | inr kept ↦ let none : n ≡ 0 = eqb-true n 0 kept.0 in let some = are.count in absurd (omega arith)
      ];
    }

-- steps that use up a supply are those of a list of kinds
pub steps_run : (label : StepKind → Label) (i n : ℕ) (fresh : List ℕ) (answer : Option ℤ) (s t : State) → steps label i n (record { fresh = fresh; answer = answer }) s ≡ Some t →
    (kinds : List StepKind) × AreSteps kinds n fresh answer × (run s (map label kinds) ≡ Some t)
steps_run label i zero [] None s t e = ([], record { count = refl; made = refl; answered = refl }, e)
steps_run label i zero [] (Some a) s t e = cc
steps_run label i zero (x ∷ fresh) None s t e = cc
steps_run label i zero (x ∷ fresh) (Some a) s t e = cc
steps_run label i (suc n) fresh answer s t e =
    option_and_then_some _ _ _ e (λ act at_act e1.
    option_and_then_some _ _ _ e1 (λ next at_kind e2.
    option_and_then_some _ _ _ e2 (λ w at_state e3.
    let go = steps_run label i n next.1.fresh next.1.answer w t e3 in (
      next.0 ∷ go.0,
      one_step next.0 n fresh answer next.1 go.0 (taken (n == 0) act fresh answer next at_kind) go.1,
      ap (λ o. option_and_then (λ v. run v (map label go.0)) o) at_state ∙ go.2,
    ))))

pub fragment_run : (i n : ℕ) (fresh : List ℕ) (s t : State) → fragment i n fresh s ≡ Some t →
    (kinds : List StepKind) × AreSteps kinds n fresh None × (run s (fragment_labels i kinds) ≡ Some t)
fragment_run i n fresh s t e =
    option_and_then_some _ _ _ e (λ a begins made.
    let go = steps_run Label.Step i n fresh None a t made in
    (go.0, go.1, ap (λ o. option_and_then (λ v. run v (map Label.Step go.0)) o) begins ∙ go.2))

pub attempt_run : (side : Side) (i n : ℕ) (fresh : List ℕ) (s t : State) → attempt_on side i n fresh s ≡ Some t →
    (kinds : List StepKind) × AreSteps kinds n fresh None × (run s (attempt_labels side i kinds) ≡ Some t)
attempt_run Side.Protected i n fresh s t e = fragment_run i n fresh s t e
attempt_run Side.Unprotected i n fresh s t e = steps_run (Label.Free i) i n fresh None s t e

-- Entries

left_or_ended-cases : (r : Replayed) (i : ℕ) (u : Replayed) (a b : Option State) → or_else (option_map (entering r i) a) (option_map (staying r) b) ≡ Some u →
    ((x : State) × (a ≡ Some x) × (entering r i x ≡ u)) ⊎ ((x : State) × (b ≡ Some x) × (staying r x ≡ u))
left_or_ended-cases r i u (Some x) b e = inl (x, refl, cc)
left_or_ended-cases r i u None (Some x) e = inr (x, refl, cc)
left_or_ended-cases r i u None None e = cc

-- a fragment that leaves or ends
ran_left_or_ended : (r : Replayed) (i n : ℕ) (fresh : List ℕ) (t : Replayed) → is_inside r i ≡ false → option_and_then (left_or_ended r i) (fragment i n fresh r.state) ≡ Some t →
    (labels : List Label) × Unfolds r i EntryKind.Ran n fresh None labels t
ran_left_or_ended r i n fresh t outside e =
    option_and_then_some _ _ _ e (λ s made settles.
    let f = fragment_run i n fresh r.state s made in
    elim (left_or_ended-cases r i t (after s Label.Leave) (after s Label.End) settles) [
      | inl x ↦
          let labels = fragment_labels i f.0 ++ Label.Leave ∷ [] in
          let runs = run-two r.state s x.0 (fragment_labels i f.0) (Label.Leave ∷ []) f.2 (run-one s x.0 Label.Leave x.1) in
          (labels, subst (λ u. Unfolds r i EntryKind.Ran n fresh None labels u) x.2 (Unfolds.leaves f.0 n fresh x.0 outside f.1 runs))
      | inr x ↦
          let labels = fragment_labels i f.0 ++ Label.End ∷ [] in
          let runs = run-two r.state s x.0 (fragment_labels i f.0) (Label.End ∷ []) f.2 (run-one s x.0 Label.End x.1) in
          (labels, subst (λ u. Unfolds r i EntryKind.Ran n fresh None labels u) x.2 (Unfolds.ends f.0 n fresh x.0 outside f.1 runs))
    ])

ran_resting : (r : Replayed) (i : ℕ) (t : Replayed) (b : Bool) → is_inside r i ≡ false → is_at_unprotected i r.state ≡ b →
    (if b then Some (entering r i r.state) else option_and_then (left_or_ended r i) (fragment i 0 [] r.state)) ≡ Some t →
    (labels : List Label) × Unfolds r i EntryKind.Ran 0 [] None labels t
ran_resting r i t true outside is e =
    let same : entering r i r.state ≡ t = cc in
    ([], subst (λ u. Unfolds r i EntryKind.Ran 0 [] None [] u) same (Unfolds.arrives outside is))
ran_resting r i t false outside is e = ran_left_or_ended r i 0 [] t outside e

unfold-ran : (r : Replayed) (i n : ℕ) (fresh : List ℕ) (t : Replayed) → is_inside r i ≡ false → replay_ran r i n fresh ≡ Some t →
    (labels : List Label) × Unfolds r i EntryKind.Ran n fresh None labels t
unfold-ran r i zero [] t outside e = ran_resting r i t (is_at_unprotected i r.state) outside refl e
unfold-ran r i zero (x ∷ fresh) t outside e = ran_left_or_ended r i zero (x ∷ fresh) t outside e
unfold-ran r i (suc n) fresh t outside e = ran_left_or_ended r i (suc n) fresh t outside e

module _ (r : Replayed) (i n : ℕ) (fresh : List ℕ) (t : Replayed) (inside : is_inside r i ≡ true) where
  free_closed : (o : Option State) → option_and_then (λ s. after s (Label.Close i)) (steps (Label.Free i) i n (locations fresh) r.state) ≡ o →
      option_map (leaving r i) o ≡ Some t → (labels : List Label) × Unfolds r i EntryKind.Free (suc n) fresh None labels t
  free_closed None is e = cc
  free_closed (Some x) is e =
      option_and_then_some _ _ _ is (λ s made closes.
      let f = steps_run (Label.Free i) i n fresh None r.state s made in
      let labels = free_labels i f.0 ++ Label.Close i ∷ [] in
      let runs = run-two r.state s x (free_labels i f.0) (Label.Close i ∷ []) f.2 (run-one s x (Label.Close i) closes) in
      let same : leaving r i x ≡ t = cc in
      (labels, subst (λ u. Unfolds r i EntryKind.Free (suc n) fresh None labels u) same (Unfolds.closes f.0 n fresh x inside f.1 runs)))

  free_last : (answer : Option ℤ) → replay_closing r i n fresh answer ≡ Some t → (labels : List Label) × Unfolds r i EntryKind.Free (suc n) fresh answer labels t
  free_last None e = free_closed _ refl e
  free_last (Some a) e = cc

  free_first : (answer : Option ℤ) (o : Option State) → steps (Label.Free i) i (suc n) (record { fresh = fresh; answer = answer }) r.state ≡ o →
      or_else (option_map (staying r) o) (replay_closing r i n fresh answer) ≡ Some t → (labels : List Label) × Unfolds r i EntryKind.Free (suc n) fresh answer labels t
  free_first answer None is e = free_last answer e
  free_first answer (Some s) is e =
      let f = steps_run (Label.Free i) i (suc n) fresh answer r.state s is in
      let same : staying r s ≡ t = cc in
      (free_labels i f.0, subst (λ u. Unfolds r i EntryKind.Free (suc n) fresh answer (free_labels i f.0) u) same (Unfolds.goes_on f.0 n fresh answer s inside f.1 f.2))

unfold-free : (r : Replayed) (i n : ℕ) (fresh : List ℕ) (answer : Option ℤ) (t : Replayed) → is_inside r i ≡ true → replay_free r i n fresh answer ≡ Some t →
    (labels : List Label) × Unfolds r i EntryKind.Free n fresh answer labels t
unfold-free r i zero fresh answer t inside e = cc
unfold-free r i (suc n) fresh answer t inside e = free_first r i n fresh t inside answer _ refl e

-- Notes

noted-is : (b : Bool) (r t : Replayed) → note_where b r ≡ Some t → (b ≡ true) × (r ≡ t)
noted-is true r t e = (refl, cc)
noted-is false r t e = cc

some_such : (test : State → Bool) (o : Option State) → has_such test o ≡ true → (s : State) × (o ≡ Some s) × (test s ≡ true)
some_such test None e = cc
some_such test (Some s) e = (s, refl, e)

some_is : (o : Option State) → is_some o ≡ true → (s : State) × (o ≡ Some s)
some_is None e = cc
some_is (Some s) e = (s, refl)

module _ (r : Replayed) (i n : ℕ) (fresh : List ℕ) (t : Replayed) where
  unfold-stuck : note_where (fails_after r.state i n fresh) r ≡ Some t → (labels : List Label) × Unfolds r i EntryKind.Stuck n fresh None labels t
  unfold-stuck e =
      let is = noted-is (fails_after r.state i n fresh) r t e in
      let found = some_such (is_failing i) (fragment i n fresh r.state) is.0 in
      let f = fragment_run i n fresh r.state found.0 found.1 in
      ([], subst (λ u. Unfolds r i EntryKind.Stuck n fresh None [] u) is.1 (Unfolds.fails f.0 n fresh found.0 f.1 f.2 found.2))

  unfold-cut : note_where (is_some (attempt i n fresh r.state)) r ≡ Some t → (labels : List Label) × Unfolds r i EntryKind.Cut n fresh None labels t
  unfold-cut e =
      let is = noted-is (is_some (attempt i n fresh r.state)) r t e in
      let found = some_is (attempt i n fresh r.state) is.0 in
      let f = attempt_run (side_at i r.state) i n fresh r.state found.0 found.1 in
      ([], subst (λ u. Unfolds r i EntryKind.Cut n fresh None [] u) is.1 (Unfolds.is_cut f.0 n fresh found.0 f.1 f.2))

  unfold-tall : note_where (has_such (is_tall (side_at i r.state) i) (attempt i n fresh r.state)) r ≡ Some t → (labels : List Label) × Unfolds r i EntryKind.Tall n fresh None labels t
  unfold-tall e =
      let is = noted-is (has_such (is_tall (side_at i r.state) i) (attempt i n fresh r.state)) r t e in
      let found = some_such (is_tall (side_at i r.state) i) (attempt i n fresh r.state) is.0 in
      let f = attempt_run (side_at i r.state) i n fresh r.state found.0 found.1 in
      ([], subst (λ u. Unfolds r i EntryKind.Tall n fresh None [] u) is.1 (Unfolds.grows f.0 n fresh found.0 f.1 f.2 found.2))

outside-of : (r : Replayed) (i n : ℕ) (fresh : List ℕ) (t : Replayed) (b : Bool) → is_inside r i ≡ b → (if b then None else replay_ran r i n fresh) ≡ Some t →
    (labels : List Label) × Unfolds r i EntryKind.Ran n fresh None labels t
outside-of r i n fresh t true is e = cc
outside-of r i n fresh t false is e = unfold-ran r i n fresh t is e

inside-of : (r : Replayed) (i n : ℕ) (fresh : List ℕ) (answer : Option ℤ) (t : Replayed) (b : Bool) → is_inside r i ≡ b → (if b then replay_free r i n fresh answer else None) ≡ Some t →
    (labels : List Label) × Unfolds r i EntryKind.Free n fresh answer labels t
inside-of r i n fresh answer t true is e = unfold-free r i n fresh answer t is e
inside-of r i n fresh answer t false is e = cc

unfold-kind : (kind : EntryKind) (r : Replayed) (i n : ℕ) (fresh : List ℕ) (answer : Option ℤ) (t : Replayed) → replay_kind kind r i n fresh answer ≡ Some t →
    (labels : List Label) × Unfolds r i kind n fresh answer labels t
unfold-kind EntryKind.Ran r i n fresh None t e = outside-of r i n fresh t (is_inside r i) refl e
unfold-kind EntryKind.Free r i n fresh answer t e = inside-of r i n fresh answer t (is_inside r i) refl e
unfold-kind EntryKind.Stuck r i n fresh None t e = unfold-stuck r i n fresh t e
unfold-kind EntryKind.Cut r i n fresh None t e = unfold-cut r i n fresh t e
unfold-kind EntryKind.Tall r i n fresh None t e = unfold-tall r i n fresh t e
unfold-kind EntryKind.Ran r i n fresh (Some a) t e = cc
unfold-kind EntryKind.Stuck r i n fresh (Some a) t e = cc
unfold-kind EntryKind.Cut r i n fresh (Some a) t e = cc
unfold-kind EntryKind.Tall r i n fresh (Some a) t e = cc

pub unfold-entry : (r : Replayed) (entry : Entry) (t : Replayed) → replay_entry r entry ≡ Some t →
    (labels : List Label) × Unfolds r entry.number entry.kind entry.steps entry.fresh entry.answer labels t
unfolding replay_entry
unfold-entry r entry t e = unfold-kind entry.kind r entry.number entry.steps entry.fresh entry.answer t e

-- what is replayed unfolds
pub unfold-all : (r : Replayed) (entries : List Entry) (t : Replayed) → replay_from r entries ≡ Some t → (labels : List Label) × UnfoldsAll r entries labels t
unfold-all r [] t e = let same : r ≡ t = cc in ([], subst (λ u. UnfoldsAll r [] [] u) same (UnfoldsAll.done r))
unfold-all r (entry ∷ entries) t e =
    option_and_then_some _ _ _ e (λ s first others.
    let a = unfold-entry r entry s first in
    let b = unfold-all s entries t others in
    (a.0 ++ b.0, UnfoldsAll.next r s t entry entries a.0 b.0 a.1 b.1))

-- Each label is legal.

pub unfolds-run : (r : Replayed) (i : ℕ) (kind : EntryKind) (n : ℕ) (fresh : List ℕ) (answer : Option ℤ) (labels : List Label) (t : Replayed) →
    Unfolds r i kind n fresh answer labels t → run r.state labels ≡ Some t.state
unfolds-run r i _ _ _ _ _ _ (Unfolds.leaves kinds n fresh s outside are runs) = runs
unfolds-run r i _ _ _ _ _ _ (Unfolds.ends kinds n fresh s outside are runs) = runs
unfolds-run r i _ _ _ _ _ _ (Unfolds.arrives outside is) = refl
unfolds-run r i _ _ _ _ _ _ (Unfolds.goes_on kinds n fresh answer s inside are runs) = runs
unfolds-run r i _ _ _ _ _ _ (Unfolds.closes kinds n fresh s inside are runs) = runs
unfolds-run r i _ _ _ _ _ _ (Unfolds.fails kinds n fresh s are runs fails) = refl
unfolds-run r i _ _ _ _ _ _ (Unfolds.is_cut kinds n fresh s are runs) = refl
unfolds-run r i _ _ _ _ _ _ (Unfolds.grows kinds n fresh s are runs tall) = refl

pub unfolds_all-run : (r : Replayed) (entries : List Entry) (labels : List Label) (t : Replayed) → UnfoldsAll r entries labels t → run r.state labels ≡ Some t.state
unfolds_all-run _ _ _ _ (UnfoldsAll.done r) = refl
unfolds_all-run _ _ _ _ (UnfoldsAll.next r s t entry entries labels more first others) =
    run-two r.state s.state t.state labels more (unfolds-run r entry.number entry.kind entry.steps entry.fresh entry.answer labels s first) (unfolds_all-run s entries more t others)
