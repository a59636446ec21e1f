-- An entry unfolds to one list of labels.
use Rattle.std.proofs.Common.{◌≡◌, ℕ, suc, ◌==◌, ℤ, true, false, List, [], ◌∷◌, ◌++◌, map, length, Option, Some, None, option_map, refl, sym, ap, ◌∙◌, subst}
use Rattle.std.proofs.lemmas.Option.{option_and_then_some}
use Rattle.ame_term.specs.Frame.{Side}
use Rattle.ame_term.specs.State.{State, after, run}
use Rattle.ame_term.specs.declared.semantics.StepKind.{StepKind}
use Rattle.ame_term.specs.declared.semantics.Label.{Label}
use Rattle.ame_journal.specs.declared.entry.Entry.{Entry}
use Rattle.ame_journal.specs.declared.entry.EntryKind.{EntryKind}
use Rattle.ame_journal.specs.Replayed.{Replayed, is_at_unprotected, entering, staying}
use Rattle.ame_journal.specs.Labels.{made_by, IsAnswered, AreSteps, fragment_labels, free_labels, Unfolds, UnfoldsAll}
use Rattle.ame_journal.specs.Totals.{is_note}
use Rattle.ame_journal.specs.Replay.{Supply, member_act, next_kind, left_or_ended, or_else, replay_entry}
use Rattle.ame_journal.proofs.StepLemmas.{IsReduced, step-reduced, free-reduced, named, step-keeps, activate-is, close-act, ended-staying}
use Rattle.ame_journal.proofs.MovedLemmas.{fragment-moves}
use Rattle.ame_journal.proofs.SupplyLemmas.{takes-more, takes-last}
use Rattle.ame_journal.proofs.UnfoldLemmas.{run-last, free-back, fragment-back, no-more, entry-back}

-- the answer that is still to be used after the first step
left_of : List StepKind → Option ℤ → Option ℤ
left_of [] answer = None
left_of (k ∷ ks) answer = answer

still-answered : (kind : StepKind) (ks : List StepKind) (answer : Option ℤ) → IsAnswered (kind ∷ ks) answer → IsAnswered ks (left_of ks answer)
unfolding left_of
still-answered kind [] answer answered = refl
still-answered kind (k ∷ ks) answer answered = answered.1

next-told : (side : Side) (kind : StepKind) (ks : List StepKind) (answer : Option ℤ) (i : ℕ) (s w : State) (r : IsReduced side kind i s w) → IsAnswered (kind ∷ ks) answer →
    next_kind (length ks == 0) r.act (made_by (kind ∷ ks)) answer ≡ Some (kind, record { fresh = made_by ks; answer = left_of ks answer })
unfolding left_of
next-told side kind [] answer i s w r answered =
    ap (next_kind true r.act (made_by (kind ∷ []))) answered ∙ takes-last kind r.act (named side kind r.act r.can)
next-told side kind (k ∷ ks) answer i s w r answered =
    takes-more kind r.act (named side kind r.act r.can) (length (k ∷ ks) == 0) (made_by (k ∷ ks)) answer answered.0

pub one : {X : Type 0} (x y : X) (o : Option X) → o ≡ Some x → o ≡ Some y → x ≡ y
one x y o e f = cc

module _ (label : StepKind → Label) (i : ℕ) (side : Side) (P : State → Type 0) (tells : (kind : StepKind) (s u : State) → P s → after s (label kind) ≡ Some u → P u × IsReduced side kind i s u) where
  kinds-one : (ks ls : List StepKind) (answer : Option ℤ) (s t u : State) → P s → IsAnswered ks answer → IsAnswered ls answer → length ks ≡ length ls → made_by ks ≡ made_by ls →
      run s (map label ks) ≡ Some t → run s (map label ls) ≡ Some u → ks ≡ ls
  kinds-one [] [] answer s t u p a b long made e f = refl
  kinds-one [] (l ∷ ls) answer s t u p a b long made e f = cc
  kinds-one (k ∷ ks) [] answer s t u p a b long made e f = cc
  kinds-one (k ∷ ks) (l ∷ ls) answer s t u p a b long made e f =
      option_and_then_some _ _ _ e (λ w legal rest.
      option_and_then_some _ _ _ f (λ v legal' rest'.
      let first = tells k s w p legal in
      let other = tells l s v p legal' in
      let r = first.1 in
      let q = other.1 in
      let act : q.act ≡ r.act = one q.act r.act (member_act i s) q.is_act r.is_act in
      let shorter : length ks ≡ length ls = cc in
      let here = next-told side k ks answer i s w r a in
      let there = next-told side l ls answer i s v q b in
      let there' : next_kind (length ks == 0) r.act (made_by (k ∷ ks)) answer ≡ Some (l, record { fresh = made_by ls; answer = left_of ls answer }) =
      ap (λ n. next_kind (n == 0) r.act (made_by (k ∷ ks)) answer) shorter
      ∙ ap (λ xs. next_kind (length ls == 0) r.act xs answer) made
      ∙ ap (λ z. next_kind (length ls == 0) z (made_by (l ∷ ls)) answer) (sym act)
      ∙ there in
      let pair = one (k, record { fresh = made_by ks; answer = left_of ks answer }) (l, record { fresh = made_by ls; answer = left_of ls answer }) _ here there' in
      let kind : k ≡ l = ap (λ (z : StepKind × Supply). z.0) pair in
      let left : made_by ks ≡ made_by ls = ap (λ (z : StepKind × Supply). z.1.fresh) pair in
      let still : left_of ls answer ≡ left_of ks answer = sym (ap (λ (z : StepKind × Supply). z.1.answer) pair) in
      let state : v ≡ w = one v w (after s (label k)) (ap (λ z. after s (label z)) kind ∙ legal') legal in
      let more = subst (λ z. run z (map label ls) ≡ Some u) state rest' in
      let others = kinds-one ks ls (left_of ks answer) w t u first.0 (still-answered k ks answer a)
      (subst (IsAnswered ls) still (still-answered l ls answer b)) shorter left rest more in
      ap (λ z. z ∷ ks) kind ∙ ap (λ zs. l ∷ zs) others))

module _ (i n : ℕ) (fresh : List ℕ) (ks ls : List StepKind) (s t u : State) where
  free-one : (answer : Option ℤ) → AreSteps ks n fresh answer → AreSteps ls n fresh answer → run s (free_labels i ks) ≡ Some t → run s (free_labels i ls) ≡ Some u → ks ≡ ls
  free-one answer a b e f =
      kinds-one (Label.Free i) i Side.Unprotected (λ _. Unit {0}) (λ kind v w p legal. (tt, free-reduced kind i v w legal)) ks ls answer s t u tt a.answered b.answered
      (a.count ∙ sym b.count) (a.made ∙ sym b.made) e f

  fragment-one : AreSteps ks n fresh None → AreSteps ls n fresh None → run s (fragment_labels i ks) ≡ Some t → run s (fragment_labels i ls) ≡ Some u → ks ≡ ls
  fragment-one a b e f =
      option_and_then_some _ _ _ e (λ w begins rest.
      option_and_then_some _ _ _ f (λ v begins' rest'.
      let state : v ≡ w = one v w (after s (Label.Activate i)) begins' begins in
      kinds-one Label.Step i Side.Protected (λ z. z.active ≡ Some i) (λ kind x y p legal. ((step-keeps kind i x y p legal).active ∙ p, step-reduced kind i x y p legal))
      ks ls None w t u (ap (λ (z : State). z.active) (activate-is i s w begins)) a.answered b.answered (a.count ∙ sym b.count) (a.made ∙ sym b.made) rest
      (subst (λ z. run z (map Label.Step ls) ≡ Some u) state rest')))

-- the state that some labels lead to
ends-one : (s t u : State) (xs : List Label) → run s xs ≡ Some t → run s xs ≡ Some u → t ≡ u
ends-one s t u xs e f = one t u (run s xs) e f

-- no member leaves if it could end
leave-or-end : (i : ℕ) (s v w : State) → s.active ≡ Some i → after s Label.Leave ≡ Some v → after s Label.End ≡ Some w → ⊥
leave-or-end i s v w is_active left ended = cases (ended-staying (record { state = s; inside = [] }) i s w ended)
  where
    cases : left_or_ended (record { state = s; inside = [] }) i s ≡ Some (staying (record { state = s; inside = [] }) w) → ⊥
    cases e =
        let both = ap (λ o. or_else (option_map (entering (record { state = s; inside = [] }) i) o) (option_map (staying (record { state = s; inside = [] })) (after s Label.End))) left in
        let same = one (entering (record { state = s; inside = [] }) i v) (staying (record { state = s; inside = [] }) w) _ both e in
        let lists : i ∷ [] ≡ [] = ap (λ (r : Replayed). r.inside) same in cc

module _ (r : Replayed) (i : ℕ) where
  leaves-alone : (n : ℕ) (fresh : List ℕ) (more : List Label) (u : Replayed) (ks : List StepKind) (s : State) → AreSteps ks n fresh None →
      run r.state (fragment_labels i ks ++ Label.Leave ∷ []) ≡ Some s → Unfolds r i EntryKind.Ran n fresh None more u → fragment_labels i ks ++ Label.Leave ∷ [] ≡ more
  leaves-alone _ _ _ _ ks s are runs (Unfolds.leaves ls n fresh v outside' are' runs') =
      let here = run-last r.state s (fragment_labels i ks) Label.Leave runs in
      let there = run-last r.state v (fragment_labels i ls) Label.Leave runs' in
      ap (λ z. fragment_labels i z ++ Label.Leave ∷ []) (fragment-one i n fresh ks ls r.state here.0 there.0 are are' here.1 there.1)
  leaves-alone _ _ _ _ ks s are runs (Unfolds.ends ls n fresh v outside' are' runs') =
      let here = run-last r.state s (fragment_labels i ks) Label.Leave runs in
      let there = run-last r.state v (fragment_labels i ls) Label.End runs' in
      let same = fragment-one i n fresh ks ls r.state here.0 there.0 are are' here.1 there.1 in
      let state = ends-one r.state here.0 there.0 (fragment_labels i ls) (subst (λ z. run r.state (fragment_labels i z) ≡ Some here.0) same here.1) there.1 in
      absurd (leave-or-end i there.0 s v (fragment-moves i ls r.state there.0 there.1).1 (subst (λ z. after z Label.Leave ≡ Some s) state here.2) there.2)
  leaves-alone _ _ _ _ ks s are runs (Unfolds.arrives outside' at) =
      let here = run-last r.state s (fragment_labels i ks) Label.Leave runs in
      let rests = (fragment-back i ks 0 [] r.state here.0 are here.1).1 in
      let clash : false ≡ true = sym rests ∙ at in cc

  ends-alone : (n : ℕ) (fresh : List ℕ) (more : List Label) (u : Replayed) (ks : List StepKind) (s : State) → AreSteps ks n fresh None →
      run r.state (fragment_labels i ks ++ Label.End ∷ []) ≡ Some s → Unfolds r i EntryKind.Ran n fresh None more u → fragment_labels i ks ++ Label.End ∷ [] ≡ more
  ends-alone _ _ _ _ ks s are runs (Unfolds.leaves ls n fresh v outside' are' runs') =
      let here = run-last r.state s (fragment_labels i ks) Label.End runs in
      let there = run-last r.state v (fragment_labels i ls) Label.Leave runs' in
      let same = fragment-one i n fresh ks ls r.state here.0 there.0 are are' here.1 there.1 in
      let state = ends-one r.state here.0 there.0 (fragment_labels i ls) (subst (λ z. run r.state (fragment_labels i z) ≡ Some here.0) same here.1) there.1 in
      absurd (leave-or-end i there.0 v s (fragment-moves i ls r.state there.0 there.1).1 there.2 (subst (λ z. after z Label.End ≡ Some s) state here.2))
  ends-alone _ _ _ _ ks s are runs (Unfolds.ends ls n fresh v outside' are' runs') =
      let here = run-last r.state s (fragment_labels i ks) Label.End runs in
      let there = run-last r.state v (fragment_labels i ls) Label.End runs' in
      ap (λ z. fragment_labels i z ++ Label.End ∷ []) (fragment-one i n fresh ks ls r.state here.0 there.0 are are' here.1 there.1)
  ends-alone _ _ _ _ ks s are runs (Unfolds.arrives outside' at) =
      let here = run-last r.state s (fragment_labels i ks) Label.End runs in
      let clash : false ≡ true = sym (fragment-back i ks 0 [] r.state here.0 are here.1).1 ∙ at in cc

  arrives-alone : (n : ℕ) (fresh : List ℕ) (more : List Label) (u : Replayed) → is_at_unprotected i r.state ≡ true → Unfolds r i EntryKind.Ran n fresh None more u → [] ≡ more
  arrives-alone _ _ _ _ at (Unfolds.leaves ls n fresh v outside' are' runs') =
      let there = run-last r.state v (fragment_labels i ls) Label.Leave runs' in
      let clash : false ≡ true = sym (fragment-back i ls n fresh r.state there.0 are' there.1).1 ∙ at in absurd (cc)
  arrives-alone _ _ _ _ at (Unfolds.ends ls n fresh v outside' are' runs') =
      let there = run-last r.state v (fragment_labels i ls) Label.End runs' in
      let clash : false ≡ true = sym (fragment-back i ls n fresh r.state there.0 are' there.1).1 ∙ at in absurd (cc)
  arrives-alone _ _ _ _ at (Unfolds.arrives outside' at') = refl

  -- no steps that go on are those of a member that closes
  goes-or-closes : (n : ℕ) (fresh : List ℕ) (ks ls : List StepKind) (s v : State) → AreSteps ks (suc n) fresh None → AreSteps ls n fresh None →
      run r.state (free_labels i ks) ≡ Some s → run r.state (free_labels i ls ++ Label.Close i ∷ []) ≡ Some v → ⊥
  goes-or-closes n fresh ks ls s v are are' runs runs' =
      let there = run-last r.state v (free_labels i ls) (Label.Close i) runs' in
      let act = close-act i there.0 v there.2 in
      let none = no-more (Label.Free i) i n fresh r.state there.0 act.0 (free-back i ls n fresh None r.state there.0 are' there.1) act.1 in
      let some = free-back i ks (suc n) fresh None r.state s are runs in
      let clash = sym some ∙ none in cc

  goes-alone : (n : ℕ) (fresh : List ℕ) (answer : Option ℤ) (more : List Label) (u : Replayed) (ks : List StepKind) (s : State) → AreSteps ks n fresh answer →
      run r.state (free_labels i ks) ≡ Some s → Unfolds r i EntryKind.Free n fresh answer more u → free_labels i ks ≡ more
  goes-alone _ _ _ _ _ ks s are runs (Unfolds.goes_on ls n fresh answer v inside' are' runs') =
      ap (free_labels i) (free-one i (suc n) fresh ks ls r.state s v answer are are' runs runs')
  goes-alone _ _ _ _ _ ks s are runs (Unfolds.closes ls n fresh v inside' are' runs') = absurd (goes-or-closes n fresh ks ls s v are are' runs runs')

  closes-alone : (n : ℕ) (fresh : List ℕ) (more : List Label) (u : Replayed) (ks : List StepKind) (s : State) → AreSteps ks n fresh None →
      run r.state (free_labels i ks ++ Label.Close i ∷ []) ≡ Some s → Unfolds r i EntryKind.Free (suc n) fresh None more u → free_labels i ks ++ Label.Close i ∷ [] ≡ more
  closes-alone _ _ _ _ ks s are runs (Unfolds.goes_on ls n fresh answer v inside' are' runs') = absurd (goes-or-closes n fresh ls ks v s are' are runs' runs)
  closes-alone _ _ _ _ ks s are runs (Unfolds.closes ls n fresh v inside' are' runs') =
      let here = run-last r.state s (free_labels i ks) (Label.Close i) runs in
      let there = run-last r.state v (free_labels i ls) (Label.Close i) runs' in
      ap (λ z. free_labels i z ++ Label.Close i ∷ []) (free-one i n fresh ks ls r.state here.0 there.0 None are are' here.1 there.1)

note-none : (r : Replayed) (i : ℕ) (kind : EntryKind) (n : ℕ) (fresh : List ℕ) (answer : Option ℤ) (more : List Label) (u : Replayed) → is_note kind ≡ true →
    Unfolds r i kind n fresh answer more u → [] ≡ more
note-none r i _ _ _ _ _ _ is (Unfolds.leaves ks n fresh s outside are runs) = cc
note-none r i _ _ _ _ _ _ is (Unfolds.ends ks n fresh s outside are runs) = cc
note-none r i _ _ _ _ _ _ is (Unfolds.arrives outside at) = refl
note-none r i _ _ _ _ _ _ is (Unfolds.goes_on ks n fresh answer s inside are runs) = cc
note-none r i _ _ _ _ _ _ is (Unfolds.closes ks n fresh s inside are runs) = cc
note-none r i _ _ _ _ _ _ is (Unfolds.fails ks n fresh s are runs fails) = refl
note-none r i _ _ _ _ _ _ is (Unfolds.is_cut ks n fresh s are runs) = refl
note-none r i _ _ _ _ _ _ is (Unfolds.grows ks n fresh s are runs tall) = refl

labels-one : (r : Replayed) (i : ℕ) (kind : EntryKind) (n : ℕ) (fresh : List ℕ) (answer : Option ℤ) (labels more : List Label) (t u : Replayed) →
    Unfolds r i kind n fresh answer labels t → Unfolds r i kind n fresh answer more u → labels ≡ more
labels-one r i _ _ _ _ _ more _ u (Unfolds.leaves ks n fresh s outside are runs) other = leaves-alone r i n fresh more u ks s are runs other
labels-one r i _ _ _ _ _ more _ u (Unfolds.ends ks n fresh s outside are runs) other = ends-alone r i n fresh more u ks s are runs other
labels-one r i _ _ _ _ _ more _ u (Unfolds.arrives outside at) other = arrives-alone r i 0 [] more u at other
labels-one r i _ _ _ _ _ more _ u (Unfolds.goes_on ks n fresh answer s inside are runs) other = goes-alone r i (suc n) fresh answer more u ks s are runs other
labels-one r i _ _ _ _ _ more _ u (Unfolds.closes ks n fresh s inside are runs) other = closes-alone r i n fresh more u ks s are runs other
labels-one r i _ _ _ _ _ more _ u (Unfolds.fails ks n fresh s are runs fails) other = note-none r i EntryKind.Stuck n fresh None more u refl other
labels-one r i _ _ _ _ _ more _ u (Unfolds.is_cut ks n fresh s are runs) other = note-none r i EntryKind.Cut n fresh None more u refl other
labels-one r i _ _ _ _ _ more _ u (Unfolds.grows ks n fresh s are runs tall) other = note-none r i EntryKind.Tall n fresh None more u refl other

pub all-one : (r : Replayed) (entries : List Entry) (labels more : List Label) (t u : Replayed) → UnfoldsAll r entries labels t → UnfoldsAll r entries more u → labels ≡ more
all-one _ _ _ _ _ _ (UnfoldsAll.done r) (UnfoldsAll.done _) = refl
all-one _ _ _ _ _ _ (UnfoldsAll.next r s t entry entries labels more first others) (UnfoldsAll.next _ v u _ _ labels' more' first' others') =
    let state : v ≡ s = one v s (replay_entry r entry) (entry-back r entry labels' v first') (entry-back r entry labels s first) in
    let here = labels-one r entry.number entry.kind entry.steps entry.fresh entry.answer labels labels' s v first first' in
    let behind = all-one s entries more more' t u others (subst (λ z. UnfoldsAll z entries more' u) state others') in
    ap (λ xs. xs ++ more) here ∙ ap (λ ys. labels' ++ ys) behind
