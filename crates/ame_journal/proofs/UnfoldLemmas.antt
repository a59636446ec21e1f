-- A journal that unfolds into legal labels is replayed.
use Rattle.std.proofs.Common.{◌≡◌, ℕ, zero, suc, ◌==◌, ℤ, true, false, List, [], ◌∷◌, ◌++◌, map, length, Option, Some, None, option_and_then, option_map, is_some, if◌then◌else◌, refl, sym, ap, ◌∙◌, subst}
use Rattle.std.proofs.lemmas.Option.{option_and_then_some}
use Rattle.ame_term.specs.Tree.{Val}
use Rattle.ame_term.specs.Frame.{Side}
use Rattle.ame_term.specs.Act.{Act}
use Rattle.ame_term.specs.State.{State, after, run}
use Rattle.ame_term.specs.declared.semantics.StepKind.{StepKind}
use Rattle.ame_term.specs.declared.semantics.Label.{Label}
use Rattle.ame_journal.specs.declared.entry.Entry.{Entry}
use Rattle.ame_journal.specs.declared.entry.EntryKind.{EntryKind}
use Rattle.ame_journal.specs.Replayed.{Replayed, has_such, entering, leaving, staying, is_at_unprotected, side_at, is_failing, is_tall}
use Rattle.ame_journal.specs.Labels.{made_by, IsAnswered, AreSteps, fragment_labels, free_labels, attempt_labels, Unfolds, UnfoldsAll}
use Rattle.ame_journal.specs.Replay.{member_act, next_kind, steps, fragment, attempt_on, left_or_ended, note_where, is_nothing, locations, or_else, replay_ran, replay_closing, replay_free, replay_kind, replay_entry, replay_from}
use Rattle.ame_journal.proofs.StepLemmas.{IsReduced, step-reduced, free-reduced, named, step-keeps, activate-is, activated-resting, ended-staying, close-act}
use Rattle.ame_journal.proofs.SupplyLemmas.{none_left, anywhere, takes-more, takes-last}
use Rattle.ame_journal.proofs.ReplayLemmas.{steps-behind, ran-left_or_ended}
use Rattle.ame_journal.proofs.LabelLemmas.{run-append}

-- Legal steps

module _ (label : StepKind → Label) (i : ℕ) (side : Side) (P : State → Type 0) (tells : (kind : StepKind) (s u : State) → P s → after s (label kind) ≡ Some u → P u × IsReduced side kind i s u) where
  -- legal steps are those that their kinds count
  steps-back : (kinds : List StepKind) (answer : Option ℤ) (s t : State) → P s → IsAnswered kinds answer → run s (map label kinds) ≡ Some t →
      steps label i (length kinds) (record { fresh = made_by kinds; answer = answer }) s ≡ Some t
  steps-back [] answer s t p answered e = ap (λ a. if is_nothing [] a then Some s else None) answered ∙ e
  steps-back (kind ∷ []) answer s t p answered e =
      option_and_then_some _ _ _ e (λ w legal rest.
      let a = (tells kind s w p legal).1 in
      steps-behind label i zero (record { fresh = made_by (kind ∷ []); answer = answer }) s w a.act (kind, locations []) a.is_act
      (ap (next_kind true a.act (made_by (kind ∷ []))) answered ∙ takes-last kind a.act (named side kind a.act a.can)) legal
      ∙ rest)
  steps-back (kind ∷ k ∷ ks) answer s t p answered e =
      option_and_then_some _ _ _ e (λ w legal rest.
      let known = tells kind s w p legal in
      let a = known.1 in
      steps-behind label i (length (k ∷ ks)) (record { fresh = made_by (kind ∷ k ∷ ks); answer = answer }) s w a.act (kind, record { fresh = made_by (k ∷ ks); answer = answer }) a.is_act
      (takes-more kind a.act (named side kind a.act a.can) (length (k ∷ ks) == 0) (made_by (k ∷ ks)) answer answered.0) legal
      ∙ steps-back (k ∷ ks) answer w t known.0 answered.1 rest)

-- the steps that an entry counts
counted : (label : StepKind → Label) (i : ℕ) (kinds : List StepKind) (n : ℕ) (fresh : List ℕ) (answer : Option ℤ) (s t : State) → AreSteps kinds n fresh answer →
    steps label i (length kinds) (record { fresh = made_by kinds; answer = answer }) s ≡ Some t → steps label i n (record { fresh = fresh; answer = answer }) s ≡ Some t
counted label i kinds n fresh answer s t are e =
    subst (λ m. steps label i m (record { fresh = fresh; answer = answer }) s ≡ Some t) are.count
    (subst (λ ls. steps label i (length kinds) (record { fresh = ls; answer = answer }) s ≡ Some t) are.made e)

pub free-back : (i : ℕ) (kinds : List StepKind) (n : ℕ) (fresh : List ℕ) (answer : Option ℤ) (s t : State) → AreSteps kinds n fresh answer → run s (free_labels i kinds) ≡ Some t →
    steps (Label.Free i) i n (record { fresh = fresh; answer = answer }) s ≡ Some t
free-back i kinds n fresh answer s t are e =
    counted (Label.Free i) i kinds n fresh answer s t are
    (steps-back (Label.Free i) i Side.Unprotected (λ _. Unit {0}) (λ kind v u p legal. (tt, free-reduced kind i v u legal)) kinds answer s t tt are.answered e)

pub fragment-back : (i : ℕ) (kinds : List StepKind) (n : ℕ) (fresh : List ℕ) (s t : State) → AreSteps kinds n fresh None → run s (fragment_labels i kinds) ≡ Some t →
    (fragment i n fresh s ≡ Some t) × (is_at_unprotected i s ≡ false)
fragment-back i kinds n fresh s t are e =
    option_and_then_some _ _ _ e (λ a begins rest.
    let is_active : a.active ≡ Some i = ap (λ v. v.active) (activate-is i s a begins) in
    let made = counted Label.Step i kinds n fresh None a t are
    (steps-back Label.Step i Side.Protected (λ v. v.active ≡ Some i) (λ kind v u p legal. ((step-keeps kind i v u p legal).active ∙ p, step-reduced kind i v u p legal)) kinds None a t is_active are.answered rest) in
    (ap (λ o. option_and_then (λ w. steps Label.Step i n (locations fresh) w) o) begins ∙ made, activated-resting i s a begins))

attempt-back : (side : Side) (i : ℕ) (kinds : List StepKind) (n : ℕ) (fresh : List ℕ) (s t : State) → AreSteps kinds n fresh None → run s (attempt_labels side i kinds) ≡ Some t →
    attempt_on side i n fresh s ≡ Some t
attempt-back Side.Protected i kinds n fresh s t are e = (fragment-back i kinds n fresh s t are e).0
attempt-back Side.Unprotected i kinds n fresh s t are e = free-back i kinds n fresh None s t are e

-- the labels before the last one, and the last
pub run-last : (s u : State) (xs : List Label) (label : Label) → run s (xs ++ label ∷ []) ≡ Some u → (t : State) × (run s xs ≡ Some t) × (after t label ≡ Some u)
run-last s u xs label e =
    option_and_then_some _ _ _ (sym (run-append s xs (label ∷ [])) ∙ e) (λ t first last. (t, first, sym (whole (after t label)) ∙ last))
  where
    whole : (o : Option State) → option_and_then (λ v. run v []) o ≡ o
    whole None = refl
    whole (Some v) = refl

-- a member that closes makes no other step
pub no-more : (label : StepKind → Label) (i n : ℕ) (fresh : List ℕ) (s t : State) (v : Val) → steps label i n (locations fresh) s ≡ Some t → member_act i t ≡ Some (Act.Closes v) →
    steps label i (suc n) (locations fresh) s ≡ None
no-more label i zero [] s t v e closes =
    let same : s ≡ t = cc in
    ap (λ o. option_and_then (λ act. option_and_then (λ next. option_and_then (λ w. steps label i zero next.1 w) (after s (label next.0))) (next_kind (zero == 0) act [] None)) o)
    (ap (member_act i) same ∙ closes)
no-more label i zero (x ∷ fresh) s t v e closes = cc
no-more label i (suc n) fresh s t v e closes =
    option_and_then_some _ _ _ e (λ act at_act e1.
    option_and_then_some _ _ _ e1 (λ next at_kind e2.
    option_and_then_some _ _ _ e2 (λ w at_state e3.
    let none : next.1 ≡ locations next.1.fresh = none_left _ act fresh next at_kind in
    steps-behind label i (suc n) (locations fresh) s w act next at_act (anywhere _ _ act fresh ∙ at_kind) at_state
    ∙ ap (λ supply. steps label i (suc n) supply w) none
    ∙ no-more label i n next.1.fresh w t v (subst (λ supply. steps label i n supply w ≡ Some t) none e3) closes)))

-- Entries

kind-back : (r : Replayed) (i : ℕ) (kind : EntryKind) (n : ℕ) (fresh : List ℕ) (answer : Option ℤ) (labels : List Label) (t : Replayed) →
    Unfolds r i kind n fresh answer labels t → replay_kind kind r i n fresh answer ≡ Some t
kind-back r i _ _ _ _ _ _ (Unfolds.leaves kinds n fresh s outside are runs) =
    let cut = run-last r.state s (fragment_labels i kinds) Label.Leave runs in
    let made = fragment-back i kinds n fresh r.state cut.0 are cut.1 in
    ap (λ b. if b then None else replay_ran r i n fresh) outside ∙ ran-left_or_ended r i n fresh made.1 ∙ ap (λ o. option_and_then (left_or_ended r i) o) made.0
    ∙ ap (λ o. or_else (option_map (entering r i) o) (option_map (staying r) (after cut.0 Label.End))) cut.2
kind-back r i _ _ _ _ _ _ (Unfolds.ends kinds n fresh s outside are runs) =
    let cut = run-last r.state s (fragment_labels i kinds) Label.End runs in
    let made = fragment-back i kinds n fresh r.state cut.0 are cut.1 in
    ap (λ b. if b then None else replay_ran r i n fresh) outside ∙ ran-left_or_ended r i n fresh made.1 ∙ ap (λ o. option_and_then (left_or_ended r i) o) made.0
    ∙ ended-staying r i cut.0 s cut.2
kind-back r i _ _ _ _ _ _ (Unfolds.arrives outside is) =
    ap (λ b. if b then None else replay_ran r i 0 []) outside
    ∙ ap (λ b. if b then Some (entering r i r.state) else option_and_then (left_or_ended r i) (fragment i 0 [] r.state)) is
kind-back r i _ _ _ _ _ _ (Unfolds.goes_on kinds n fresh answer s inside are runs) =
    ap (λ b. if b then replay_free r i (suc n) fresh answer else None) inside
    ∙ ap (λ o. or_else (option_map (staying r) o) (replay_closing r i n fresh answer)) (free-back i kinds (suc n) fresh answer r.state s are runs)
kind-back r i _ _ _ _ _ _ (Unfolds.closes kinds n fresh s inside are runs) =
    let cut = run-last r.state s (free_labels i kinds) (Label.Close i) runs in
    let made = free-back i kinds n fresh None r.state cut.0 are cut.1 in
    let act = close-act i cut.0 s cut.2 in
    ap (λ b. if b then replay_free r i (suc n) fresh None else None) inside
    ∙ ap (λ o. or_else (option_map (staying r) o) (replay_closing r i n fresh None)) (no-more (Label.Free i) i n fresh r.state cut.0 act.0 made act.1)
    ∙ ap (λ o. option_map (leaving r i) (option_and_then (λ v. after v (Label.Close i)) o)) made
    ∙ ap (λ o. option_map (leaving r i) o) cut.2
kind-back r i _ _ _ _ _ _ (Unfolds.fails kinds n fresh s are runs fails) =
    ap (λ o. note_where (has_such (is_failing i) o) r) (fragment-back i kinds n fresh r.state s are runs).0 ∙ ap (λ b. note_where b r) fails
kind-back r i _ _ _ _ _ _ (Unfolds.is_cut kinds n fresh s are runs) =
    ap (λ o. note_where (is_some o) r) (attempt-back (side_at i r.state) i kinds n fresh r.state s are runs)
kind-back r i _ _ _ _ _ _ (Unfolds.grows kinds n fresh s are runs tall) =
    ap (λ o. note_where (has_such (is_tall (side_at i r.state) i) o) r) (attempt-back (side_at i r.state) i kinds n fresh r.state s are runs)
    ∙ ap (λ b. note_where b r) tall

pub entry-back : (r : Replayed) (entry : Entry) (labels : List Label) (t : Replayed) →
    Unfolds r entry.number entry.kind entry.steps entry.fresh entry.answer labels t → replay_entry r entry ≡ Some t
unfolding replay_entry
entry-back r entry labels t u = kind-back r entry.number entry.kind entry.steps entry.fresh entry.answer labels t u

pub all-back : (r : Replayed) (entries : List Entry) (labels : List Label) (t : Replayed) → UnfoldsAll r entries labels t → replay_from r entries ≡ Some t
all-back _ _ _ _ (UnfoldsAll.done r) = refl
all-back _ _ _ _ (UnfoldsAll.next r s t entry entries labels more first others) =
    ap (λ o. option_and_then (λ v. replay_from v entries) o) (entry-back r entry labels s first) ∙ all-back s entries more t others
