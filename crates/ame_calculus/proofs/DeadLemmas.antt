-- From a state in which each member comes to a false condition no run comes to rest.
use Rattle.std.proofs.Common.{◌≡◌, ℕ, suc, ◌≤◌, ◌⊎◌, inl, inr, Bool, true, false, List, [], ◌∷◌, map, length, Option, Some, None, is_none, option_and_then, option_map, if◌then◌else◌, refl, sym, ap, ◌∙◌, subst, arith, ℤ, not, cond, ◌++◌}
use Rattle.std.proofs.lemmas.Option.{option_and_then_some}
use Rattle.ame_term.specs.Tree.{Typ, Val, Tree}
use Rattle.ame_term.specs.Numbered.{IsNumbered}
use Rattle.ame_term.specs.SourceTerm.{IsSourceTerm}
use Rattle.ame_term.specs.Typing.{Accepts}
use Rattle.ame_term.specs.Signature.{Signature, listed}
use Rattle.ame_term.specs.Frame.{Side}
use Rattle.ame_term.specs.Context.{Focus, focus, fill}
use Rattle.ame_term.specs.Act.{Act, act_of, StepName, step_name, device_answer, makes}
use Rattle.ame_term.specs.Maps.{at, change, without}
use Rattle.ame_term.specs.State.{State, IsRun, after, run, reduce, activated, departed, ended, closed, closed_value, at_unprotected, at_value}
use Rattle.ame_term.specs.declared.semantics.StepKind.{StepKind}
use Rattle.ame_term.specs.declared.semantics.Label.{Label}
use Rattle.ame_term.specs.declared.types.Loc.{Loc}
use Rattle.ame_term.specs.declared.types.Unary.TheVariants as unary
use Rattle.ame_laws.specs.Orderly.{IsOrderly}
use Rattle.ame_laws.specs.Typed.StoreTyping.{StoreTyping}
use Rattle.ame_laws.specs.Typed.TypedState.{IsTyped}
use Rattle.ame_laws.proofs.OrderlyLemmas.{after-goes}
use Rattle.ame_laws.proofs.Typed.Preserved.{kept}
use Rattle.ame_laws.proofs.Typed.Started.{reached}
use Rattle.ame_journal.specs.declared.entry.Entry.{Entry}
use Rattle.ame_journal.specs.declared.entry.EntryKind.{EntryKind}
use Rattle.ame_journal.specs.Totals.{is_note, without_notes}
use Rattle.ame_journal.specs.Labels.{free_labels, Unfolds, UnfoldsAll}
use Rattle.ame_journal.specs.Replayed.{Replayed, begun_at, has_such, is_false_condition, is_failing}
use Rattle.ame_journal.specs.Replay.{replay, replay_from, fragment, fails_after, making_name, redex_act}
use Rattle.ame_journal.proofs.LabelLemmas.{fragment_run, unfold-all, unfolds_all-run}
use Rattle.ame_journal.proofs.ReachedLemmas.{IsCalm, calm-all, calm-replayed}
use Rattle.ame_journal.proofs.StepLemmas.{reduced, step-reduced, step-keeps, named, no_answer, activate-is, activated-resting}
use Rattle.ame_weak.proofs.HeldSteps.{if-gave, map-gave}
use Rattle.ame_calculus.specs.Blocked.{IsWitness, IsBlockedState}
use Rattle.ame_calculus.specs.Renamed.{AreInverse, renamed_kind, IsRenamed}
use Rattle.ame_calculus.proofs.RenamedJournal.{failing-too}
use Rattle.ame_calculus.proofs.RenamedRuns.{label-too}
use Rattle.ame_calculus.proofs.AlignLemmas.{IsAligned, itself, no_change, step-unstored, same-label, both-alloc}

-- member i is active, and can neither leave nor end
pub record CannotEnd (t : State) (i : ℕ) : Type 0 where
  pub active : t.active ≡ Some i
  pub leaves : after t Label.Leave ≡ None
  pub ends : after t Label.End ≡ None

-- At a false condition, and at a step

false_act : (redex : Tree) → is_false_condition (Focus.AtRedex Side.Protected redex) ≡ true → act_of redex ≡ Act.Fails
unfolding act_of
false_act (Tree.One unary.Block (Tree.Held (Val.Bool false))) e = refl
false_act _ e = cc

condition-stands : (p : Focus) → is_false_condition p ≡ true → (redex : Tree) × (p ≡ Focus.AtRedex Side.Protected redex) × (act_of redex ≡ Act.Fails)
condition-stands (Focus.AtValue v) e = cc
condition-stands (Focus.AtRedex Side.Unprotected redex) e = cc
condition-stands (Focus.AtRedex Side.Protected redex) e = (redex, refl, false_act redex e)

fails-stay : (redex : Tree) → act_of redex ≡ Act.Fails → at_unprotected (Focus.AtRedex Side.Protected redex) ≡ false
unfolding act_of
fails-stay (Tree.Unprotected (Tree.Held v)) e = cc
fails-stay (Tree.Unprotected _) e = cc
fails-stay _ e = refl

makes-stay : (redex : Tree) (kind : StepKind) → makes Side.Protected kind (act_of redex) ≡ true → at_unprotected (Focus.AtRedex Side.Protected redex) ≡ false
unfolding act_of
makes-stay (Tree.Unprotected (Tree.Held v)) kind e = cc
makes-stay (Tree.Unprotected _) kind e = cc
makes-stay _ kind e = refl

-- the active member is at a redex of protected code that isn't `unprotected`
module _ (t : State) (i : ℕ) (is : t.active ≡ Some i) (term redex : Tree) (member : at t.members i ≡ Some term) (stands : focus term ≡ Focus.AtRedex Side.Protected redex)
    (stays : at_unprotected (Focus.AtRedex Side.Protected redex) ≡ false) where
  pub cannot-end : CannotEnd t i
  unfolding after
  cannot-end = record {
    active = is;
    leaves =
        ap (option_and_then (λ j. departed j t)) is
        ∙ ap (option_and_then (λ (z : Tree). if at_unprotected (focus z) then Some (record t { active = None }) else None)) member
        ∙ ap (λ (b : Bool). if b then Some (record t { active = None }) else None) (ap at_unprotected stands ∙ stays);
    ends =
        ap (option_and_then (λ j. ended j t)) is
        ∙ ap (option_and_then (λ (z : Tree). if at_value (focus z) then Some (record t { members = without t.members i; active = None }) else None)) member
        ∙ ap (λ (b : Bool). if b then Some (record t { members = without t.members i; active = None }) else None) (ap at_value stands);
  }

-- a member that fails
record IsFailingAt (t : State) (i : ℕ) : Type 0 where
  pub term : Tree
  pub redex : Tree
  pub member : at t.members i ≡ Some term
  pub stands : focus term ≡ Focus.AtRedex Side.Protected redex
  pub fails : act_of redex ≡ Act.Fails

failing-at : (t : State) (i : ℕ) → is_failing i t ≡ true → IsFailingAt t i
failing-at t i e = by (at t.members i) refl e
  where
    by : (o : Option Tree) → at t.members i ≡ o → has_such (λ term. is_false_condition (focus term)) o ≡ true → IsFailingAt t i
    by None is e1 = cc
    by (Some term) is e1 =
        let x = condition-stands (focus term) e1 in
        record { term = term; redex = x.0; member = is; stands = x.1; fails = x.2 }

pub failing-ends : (t : State) (i : ℕ) → t.active ≡ Some i → is_failing i t ≡ true → CannotEnd t i
failing-ends t i is e = let x = failing-at t i e in cannot-end t i is x.term x.redex x.member x.stands (fails-stay x.redex x.fails)

-- and it makes no step
failing-steps : (t : State) (i : ℕ) (kind : StepKind) (u : State) → t.active ≡ Some i → is_failing i t ≡ true → after t (Label.Step kind) ≡ Some u → ⊥
failing-steps t i kind u is e legal =
    let x = failing-at t i e in
    let r = step-reduced kind i t u is legal in
    let act : ◌≡◌ {A = Option Act} (Some Act.Fails) (Some r.act) =
    sym (ap (option_and_then (λ (z : Tree). redex_act (focus z))) x.member ∙ ap redex_act x.stands ∙ ap Some x.fails) ∙ r.is_act in
    let same : r.act ≡ Act.Fails = cc in
    let clash : false ≡ true = sym (ap (makes Side.Protected kind) same) ∙ r.can in
    cc

-- a member that makes a step can't end before it
steps-ends : (t : State) (i : ℕ) (kind : StepKind) (u : State) → t.active ≡ Some i → after t (Label.Step kind) ≡ Some u → CannotEnd t i
steps-ends t i kind u is legal =
    let r = step-reduced kind i t u is legal in
    let act : ◌≡◌ {A = Option Act} (Some (act_of r.redex)) (Some r.act) =
    sym (ap (option_and_then (λ (z : Tree). redex_act (focus z))) r.is_member ∙ ap redex_act r.stands) ∙ r.is_act in
    let same : act_of r.redex ≡ r.act = cc in
    cannot-end t i is r.term r.redex r.is_member r.stands (makes-stay r.redex kind (ap (makes Side.Protected kind) same ∙ r.can))

-- While a member is active that can't end, the next label is a step of it.
step-only : (t : State) (i : ℕ) (label : Label) (u : State) → CannotEnd t i → after t label ≡ Some u → (kind : StepKind) × (label ≡ Label.Step kind)
unfolding after
step-only t i (Label.Step kind) u x e = (kind, refl)
step-only t i Label.Leave u x e = let clash : ◌≡◌ {A = Option State} None (Some u) = sym x.leaves ∙ e in absurd (cc)
step-only t i Label.End u x e = let clash : ◌≡◌ {A = Option State} None (Some u) = sym x.ends ∙ e in absurd (cc)
step-only t i (Label.Activate j) u x e =
    let clash : ◌≡◌ {A = Option State} None (Some u) = sym (ap (λ (o : Option ℕ). if is_none o then activated j t else None) x.active) ∙ e in absurd (cc)
step-only t i (Label.Free j kind) u x e =
    let clash : ◌≡◌ {A = Option State} None (Some u) = sym (ap (λ (o : Option ℕ). if is_none o then reduce Side.Unprotected kind j t else None) x.active) ∙ e in absurd (cc)
step-only t i (Label.Close j) u x e =
    let clash : ◌≡◌ {A = Option State} None (Some u) = sym (ap (λ (o : Option ℕ). if is_none o then closed j t else None) x.active) ∙ e in absurd (cc)

-- Two kinds of one name are one, but for the location that they make.

alike : (k h : StepKind) → step_name k ≡ step_name h → device_answer k ≡ None → (k ≡ h) ⊎ ((l : Loc) × (m : Loc) × (k ≡ StepKind.Alloc l) × (h ≡ StepKind.Alloc m))
alike StepKind.Local StepKind.Local e none = inl refl
alike StepKind.Read StepKind.Read e none = inl refl
alike StepKind.Peek StepKind.Peek e none = inl refl
alike StepKind.Write StepKind.Write e none = inl refl
alike StepKind.Spawn StepKind.Spawn e none = inl refl
alike StepKind.Print StepKind.Print e none = inl refl
alike StepKind.Block StepKind.Block e none = inl refl
alike (StepKind.Alloc l) (StepKind.Alloc m) e none = inr (l, m, refl, refl)
alike (StepKind.Device answer) _ e none = cc
alike _ _ e none = cc

kind-renamed : (f : ℕ → ℕ) (kind : StepKind) (m : Loc) → renamed_kind f kind ≡ StepKind.Alloc m → (l : Loc) × (kind ≡ StepKind.Alloc l)
kind-renamed f (StepKind.Alloc l) m e = (l, refl)
kind-renamed f StepKind.Local m e = cc
kind-renamed f StepKind.Read m e = cc
kind-renamed f StepKind.Peek m e = cc
kind-renamed f StepKind.Write m e = cc
kind-renamed f StepKind.Spawn m e = cc
kind-renamed f StepKind.Print m e = cc
kind-renamed f StepKind.Block m e = cc
kind-renamed f (StepKind.Device answer) m e = cc

-- In lockstep

-- steps of one member in a state and in the same state renamed
module _ (signature : Signature) (i : ℕ) (cells : StoreTyping) (f g : ℕ → ℕ) (inverse : AreInverse f g) (a b : State) (typed : IsTyped signature cells a) (ordered : IsOrderly a) (others : IsOrderly b)
    (r : IsRenamed f a b) (is : a.active ≡ Some i) (kind : StepKind) (v : State) (first : after a (Label.Step kind) ≡ Some v) where
  aligned : (h : StepKind) (w : State) → after b (Label.Step h) ≡ Some w → IsAligned v w
  aligned h w second =
      let x = label-too f g inverse a b v r ordered.members_rise others.members_rise (Label.Step kind) first in
      let too : b.active ≡ Some i = r.active ∙ is in
      let mine = step-reduced kind i a v is first in
      let other = step-reduced (renamed_kind f kind) i b x.behind too x.leads in
      let its = step-reduced h i b w too second in
      let acts_so : ◌≡◌ {A = Option Act} (Some other.act) (Some its.act) = sym other.is_act ∙ its.is_act in
      let act_is : other.act ≡ its.act = cc in
      let names_so : ◌≡◌ {A = Option StepName} (Some (step_name (renamed_kind f kind))) (Some (step_name h)) =
      sym (named Side.Protected (renamed_kind f kind) other.act other.can) ∙ ap making_name act_is ∙ named Side.Protected h its.act its.can in
      let name_is : step_name (renamed_kind f kind) ≡ step_name h = cc in
      by (alike (renamed_kind f kind) h name_is (no_answer (renamed_kind f kind) other.act other.can))
    where
      by : (renamed_kind f kind ≡ h) ⊎ ((l : Loc) × (m : Loc) × (renamed_kind f kind ≡ StepKind.Alloc l) × (h ≡ StepKind.Alloc m)) → IsAligned v w
      by (inl same) = same-label signature cells a b typed ordered others f g inverse r (Label.Step kind) (Label.Step h) v w (ap Label.Step same) first second
      by (inr p) =
          let k = kind-renamed f kind p.0 p.2 in
          both-alloc signature cells a b typed ordered others f g inverse r Label.Step (λ z y. refl) k.0 p.1 v w (step-unstored kind k.0 a v k.1 first) (step-unstored h p.1 b w p.3 second)
          (ap (λ (z : StepKind). after a (Label.Step z)) (sym k.1) ∙ first) (ap (λ (z : StepKind). after b (Label.Step z)) (sym p.3) ∙ second)

-- a run has made no more steps than its witness, and can't end
pub record IsBehind (i : ℕ) (t : State) (more : List Label) (kinds : List StepKind) : Type 0 where
  pub stays : CannotEnd t i
  pub few : length more ≤ length kinds

module _ (signature : Signature) (i : ℕ) where
  pub lockstep : (kinds : List StepKind) (more : List Label) (cells : StoreTyping) (f g : ℕ → ℕ) (a b u t : State) → AreInverse f g → IsTyped signature cells a → IsOrderly a → IsOrderly b
      → IsRenamed f a b → a.active ≡ Some i → run a (map Label.Step kinds) ≡ Some u → is_failing i u ≡ true → run b more ≡ Some t → IsBehind i t more kinds
  lockstep [] [] cells f g a b u t inverse typed ordered others r is steps fails e =
      let same : a ≡ u = cc in
      let there : b ≡ t = cc in
      let failing : is_failing i b ≡ true = failing-too f a b r i ∙ ap (is_failing i) same ∙ fails in
      record { stays = subst (λ (z : State). CannotEnd z i) there (failing-ends b i (r.active ∙ is) failing); few = omega arith }
  lockstep [] (label ∷ more) cells f g a b u t inverse typed ordered others r is steps fails e =
      let same : a ≡ u = cc in
      let failing : is_failing i b ≡ true = failing-too f a b r i ∙ ap (is_failing i) same ∙ fails in
      option_and_then_some (λ (z : State). run z more) (after b label) t e (λ v first rest.
      let k = step-only b i label v (failing-ends b i (r.active ∙ is) failing) first in
      absurd (failing-steps b i k.0 v (r.active ∙ is) failing (ap (after b) (sym k.1) ∙ first)))
  lockstep (kind ∷ kinds) [] cells f g a b u t inverse typed ordered others r is steps fails e =
      let there : b ≡ t = cc in
      option_and_then_some (λ (z : State). run z (map Label.Step kinds)) (after a (Label.Step kind)) u steps (λ v first rest.
      let x = label-too f g inverse a b v r ordered.members_rise others.members_rise (Label.Step kind) first in
      record { stays = subst (λ (z : State). CannotEnd z i) there (steps-ends b i (renamed_kind f kind) x.behind (r.active ∙ is) x.leads); few = omega arith })
  lockstep (kind ∷ kinds) (label ∷ more) cells f g a b u t inverse typed ordered others r is steps fails e =
      option_and_then_some (λ (z : State). run z (map Label.Step kinds)) (after a (Label.Step kind)) u steps (λ v first rest.
      option_and_then_some (λ (z : State). run z more) (after b label) t e (λ w second after_it.
      let x = label-too f g inverse a b v r ordered.members_rise others.members_rise (Label.Step kind) first in
      let k = step-only b i label w (steps-ends b i (renamed_kind f kind) x.behind (r.active ∙ is) x.leads) second in
      let legal : after b (Label.Step k.0) ≡ Some w = ap (after b) (sym k.1) ∙ second in
      let y = aligned signature i cells f g inverse a b typed ordered others r is kind v first k.0 w legal in
      let later = kept signature cells a (Label.Step kind) v typed first in
      let z =
      lockstep kinds more later.0 y.to y.from v w u t y.inverse later.2 ((after-goes a (Label.Step kind) v first).orderly ordered) ((after-goes b (Label.Step k.0) w legal).orderly others)
      y.renames ((step-keeps kind i a v is first).active ∙ is) rest fails after_it in
      record { stays = z.stays; few = let n : length more ≤ length kinds = z.few in omega arith }))

-- From a blocked state

some_such : (test : State → Bool) (o : Option State) → has_such test o ≡ true → (s : State) × (o ≡ Some s) × (test s ≡ true)
some_such test None e = cc
some_such test (Some s) e = (s, refl, e)

-- a note that holds is a witness
pub note-witness : (s : State) (i n : ℕ) (fresh : List ℕ) → fails_after s i n fresh ≡ true → (kinds : List StepKind) × IsWitness s i kinds × (length kinds ≡ n)
note-witness s i n fresh fails =
    let u = some_such (is_failing i) (fragment i n fresh s) fails in
    let f = fragment_run i n fresh s u.0 u.1 in
    (f.0, (u.0, f.2, u.2), f.1.count)

close-unprotected : (p : Focus) (v : Val) → closed_value p ≡ Some v → at_unprotected p ≡ true
close-unprotected (Focus.AtRedex Side.Protected (Tree.Unprotected part)) v e = refl
close-unprotected _ v e = cc

module _ (s : State) (blocked : IsBlockedState s) where
  -- a member with a witness doesn't stand at `unprotected`
  outside : (i : ℕ) (term : Tree) → at s.members i ≡ Some term → at_unprotected (focus term) ≡ true → ⊥
  outside i term member stands =
      let w = blocked.each i term member in
      option_and_then_some _ (after s (Label.Activate i)) w.1.0 w.1.1 (λ a begins rest.
      let clash : true ≡ false = sym stands ∙ sym (ap (has_such (λ t. at_unprotected (focus t))) member) ∙ activated-resting i s a begins in
      cc)

  no-active : {X : Type 0} (go : ℕ → Option X) (x : X) → option_and_then go s.active ≡ Some x → ⊥
  no-active {X} go x e = let clash : ◌≡◌ {A = Option X} None (Some x) = sym (ap (option_and_then go) blocked.idle) ∙ e in cc

  -- the next label makes a member active
  pub begins-only : (label : Label) (a : State) → after s label ≡ Some a → (i : ℕ) × (label ≡ Label.Activate i)
  unfolding after
  begins-only (Label.Activate i) a e = (i, refl)
  begins-only (Label.Step kind) a e = absurd (no-active (λ i. reduce Side.Protected kind i s) a e)
  begins-only Label.Leave a e = absurd (no-active (λ i. departed i s) a e)
  begins-only Label.End a e = absurd (no-active (λ i. ended i s) a e)
  begins-only (Label.Free i kind) a e =
      let r = reduced Side.Unprotected kind i s a (if-gave (is_none s.active) (reduce Side.Unprotected kind i s) a e).1 in
      absurd (outside i r.term r.is_member (ap at_unprotected r.stands))
  begins-only (Label.Close i) a e =
      option_and_then_some (λ (term : Tree). option_map (λ v. record s { members = change s.members i (fill term (Tree.Held v)) }) (closed_value (focus term))) (at s.members i) a
      (if-gave (is_none s.active) (closed i s) a e).1 (λ term member e1.
      let m = map-gave (λ v. record s { members = change s.members i (fill term (Tree.Held v)) }) (closed_value (focus term)) a e1 in
      absurd (outside i term member (close-unprotected (focus term) m.0 m.1)))

  activated-member : (i : ℕ) (a : State) → after s (Label.Activate i) ≡ Some a → (term : Tree) × (at s.members i ≡ Some term)
  unfolding after
  activated-member i a e =
      option_and_then_some (λ (term : Tree). if at_unprotected (focus term) then None else Some (record s { active = Some i })) (at s.members i) a
      (if-gave (is_none s.active) (activated i s) a e).1 (λ term member e1. (term, member))

  module _ (signature : Signature) (cells : StoreTyping) (typed : IsTyped signature cells s) (ordered : IsOrderly s) where
    pub behind-witness : (i : ℕ) (kinds : List StepKind) (more : List Label) (t : State) → IsWitness s i kinds → run s (Label.Activate i ∷ more) ≡ Some t
        → CannotEnd t i × (length more ≤ length kinds)
    behind-witness i kinds more t w e =
        option_and_then_some (λ (z : State). run z more) (after s (Label.Activate i)) t e (λ a begins rest.
        let steps : run a (map Label.Step kinds) ≡ Some w.0 = sym (ap (option_and_then (λ (z : State). run z (map Label.Step kinds))) begins) ∙ w.1 in
        let later = kept signature cells s (Label.Activate i) a typed begins in
        let so = (after-goes s (Label.Activate i) a begins).orderly ordered in
        let x =
        lockstep signature i kinds more later.0 (λ l. l) (λ l. l) a a w.0 t no_change later.2 so so (itself a) (ap (λ (z : State). z.active) (activate-is i s a begins)) steps w.2 rest in
        (x.stays, x.few))

    pub dead : (label : Label) (more : List Label) (t : State) → run s (label ∷ more) ≡ Some t → (i : ℕ) × (label ≡ Label.Activate i) × CannotEnd t i
    dead label more t e =
        option_and_then_some (λ (z : State). run z more) (after s label) t e (λ a first rest.
        let k = begins-only label a first in
        let begins : after s (Label.Activate k.0) ≡ Some a = ap (after s) (sym k.1) ∙ first in
        let member = activated-member k.0 a begins in
        let w = blocked.each k.0 member.0 member.1 in
        let x = behind-witness k.0 w.0 more t w.1 (ap (option_and_then (λ (z : State). run z more)) begins ∙ rest) in
        (k.0, k.1, x.0))

    -- a run from there that is at rest has made no label
    pub rests-there : (more : List Label) (t : State) → run s more ≡ Some t → t.active ≡ None → (more ≡ []) × (t ≡ s)
    rests-there [] t e idle = (refl, cc)
    rests-there (label ∷ more) t e idle =
        let d = dead label more t e in
        let clash : ◌≡◌ {A = Option ℕ} (Some d.0) None = sym d.2.active ∙ idle in
        absurd (cc)

-- The runs of an accepted program
module _ (devices : ℕ) (places : List ℕ) (program : Tree) (refs : List Typ) (accepts : Accepts devices places program refs) (source : IsSourceTerm program) (numbered : IsNumbered 0 program)
    (labels : List Label) (s : State) (ran : IsRun program labels s) (blocked : IsBlockedState s) where
  its : (cells : StoreTyping) × IsTyped (listed devices refs) cells s × IsOrderly s
  its = reached devices places program refs labels s accepts source numbered ran

  pub program-dead : (label : Label) (more : List Label) (t : State) → run s (label ∷ more) ≡ Some t → (i : ℕ) × (label ≡ Label.Activate i) × CannotEnd t i
  program-dead = dead s blocked (listed devices refs) its.0 its.1 its.2

  pub program-few : (more : List Label) (t : State) (i : ℕ) (kinds : List StepKind) → IsWitness s i kinds → run s (Label.Activate i ∷ more) ≡ Some t → length more ≤ length kinds
  program-few more t i kinds w e = (behind-witness s blocked (listed devices refs) its.0 its.1 its.2 i kinds more t w e).1

  pub program-rests : (more : List Label) (t : State) → run s more ≡ Some t → t.active ≡ None → (more ≡ []) × (t ≡ s)
  program-rests = rests-there s blocked (listed devices refs) its.0 its.1 its.2

-- Only notes can follow.

not-nil : {X : Type 0} (xs : List X) (x : X) → xs ++ x ∷ [] ≡ [] → ⊥
not-nil [] x e = cc
not-nil (y ∷ xs) x e = cc

module _ (r : Replayed) (blocked : IsBlockedState r.state) (signature : Signature) (cells : StoreTyping) (typed : IsTyped signature cells r.state) (calm : IsCalm r) where
  -- no label is made
  no-label : (label : Label) (labels : List Label) (s : State) → run r.state (label ∷ labels) ≡ Some s → s.active ≡ None → ⊥
  no-label label labels s e idle =
      let x = (rests-there r.state blocked signature cells typed calm.orderly (label ∷ labels) s e idle).0 in
      cc

  no-labels : (labels : List Label) (s : State) → run r.state labels ≡ Some s → s.active ≡ None → (labels ≡ [] → ⊥) → ⊥
  no-labels [] s e idle some = some refl
  no-labels (label ∷ labels) s e idle some = no-label label labels s e idle

  only-note : (i : ℕ) (kind : EntryKind) (n : ℕ) (fresh : List ℕ) (answer : Option ℤ) (labels : List Label) (s : Replayed) → Unfolds r i kind n fresh answer labels s → s.state.active ≡ None
      → (is_note kind ≡ true) × (s ≡ r)
  only-note i _ _ _ _ _ _ (Unfolds.leaves kinds n fresh s outside are runs) idle = absurd (no-label (Label.Activate i) (map Label.Step kinds ++ Label.Leave ∷ []) s runs idle)
  only-note i _ _ _ _ _ _ (Unfolds.ends kinds n fresh s outside are runs) idle = absurd (no-label (Label.Activate i) (map Label.Step kinds ++ Label.End ∷ []) s runs idle)
  only-note i _ _ _ _ _ _ (Unfolds.arrives outside_of is) idle = absurd (by (at r.state.members i) refl is)
    where
      by : (o : Option Tree) → at r.state.members i ≡ o → has_such (λ term. at_unprotected (focus term)) o ≡ true → ⊥
      by None is e = cc
      by (Some term) is e = outside r.state blocked i term is e
  only-note i _ _ _ _ _ _ (Unfolds.goes_on [] n fresh answer s inside are runs) idle = let none : 0 ≡ suc n = are.count in absurd (omega arith)
  only-note i _ _ _ _ _ _ (Unfolds.goes_on (kind ∷ kinds) n fresh answer s inside are runs) idle = absurd (no-label (Label.Free i kind) (free_labels i kinds) s runs idle)
  only-note i _ _ _ _ _ _ (Unfolds.closes kinds n fresh s inside are runs) idle =
      absurd (no-labels (free_labels i kinds ++ Label.Close i ∷ []) s runs idle (not-nil (free_labels i kinds) (Label.Close i)))
  only-note i _ _ _ _ _ _ (Unfolds.fails kinds n fresh s are runs fails) idle = (refl, refl)
  only-note i _ _ _ _ _ _ (Unfolds.is_cut kinds n fresh s are runs) idle = (refl, refl)
  only-note i _ _ _ _ _ _ (Unfolds.grows kinds n fresh s are runs tall) idle = (refl, refl)

  only-notes : (entries : List Entry) (labels : List Label) (t s : Replayed) → s ≡ r → UnfoldsAll s entries labels t → (t ≡ r) × (without_notes entries ≡ [])
  only-notes _ _ _ _ same (UnfoldsAll.done s) = (same, refl)
  only-notes _ _ _ _ same (UnfoldsAll.next s u t entry entries labels more first others) =
      let here : Unfolds r entry.number entry.kind entry.steps entry.fresh entry.answer labels u =
      subst (λ (z : Replayed). Unfolds z entry.number entry.kind entry.steps entry.fresh entry.answer labels u) same first in
      let calm_u = calm-all r (entry ∷ []) (labels ++ []) u (UnfoldsAll.next r u u entry [] labels [] here (UnfoldsAll.done u)) calm in
      let x = only-note entry.number entry.kind entry.steps entry.fresh entry.answer labels u here calm_u.idle in
      let y = only-notes entries more t u x.1 others in
      (y.0, ap (λ (b : Bool). cond (not b) (entry ∷ without_notes entries) (without_notes entries)) x.0 ∙ y.1)

pub certificates-end : (devices : ℕ) (places : List ℕ) (program : Tree) (refs : List Typ) → Accepts devices places program refs → IsSourceTerm program → IsNumbered 0 program
    → (entries more : List Entry) (r t : Replayed) → replay program entries ≡ Some r → IsBlockedState r.state → replay_from r more ≡ Some t → (t ≡ r) × (without_notes more ≡ [])
certificates-end devices places program refs accepts source numbered entries more r t e blocked goes =
    let first = unfold-all (begun_at program) entries r e in
    let ran = unfolds_all-run (begun_at program) entries first.0 r first.1 in
    let its = reached devices places program refs first.0 r.state accepts source numbered ran in
    let next = unfold-all r more t goes in
    only-notes r blocked (listed devices refs) its.0 its.1 (calm-replayed program entries r e) more next.0 t r refl next.1
