-- A run that agrees with a state is labels of its member there.
use Rattle.std.proofs.Common.{◌≡◌, ℕ, zero, suc, ◌+◌, Bool, false, List, [], ◌∷◌, ◌++◌, length, Option, Some, None, is_none, option_and_then, if◌then◌else◌, refl, sym, ap, ◌∙◌, subst, arith, append-nil, length-append}
use Rattle.std.proofs.lemmas.List.Concat.{flat_map-append}
use Rattle.std.proofs.lemmas.Option.{option_and_then_some}
use Rattle.ame_term.specs.Tree.{Val, Tree}
use Rattle.ame_term.specs.Frame.{Side}
use Rattle.ame_term.specs.Context.{focus}
use Rattle.ame_term.specs.Act.{device_answer}
use Rattle.ame_term.specs.Maps.{at}
use Rattle.ame_term.specs.State.{State, after, run, reduce, activated, at_unprotected}
use Rattle.ame_term.specs.declared.semantics.StepKind.{StepKind}
use Rattle.ame_term.specs.declared.semantics.Label.{Label}
use Rattle.ame_journal.specs.Labels.{fresh_of, made_by, IsAnswered, AreSteps, free_labels}
use Rattle.ame_journal.specs.UnderWay.{UnderWay}
use Rattle.ame_journal.proofs.StepLemmas.{no_answer}
use Rattle.ame_journal.proofs.LabelLemmas.{run-two, run-one}
use Rattle.ame_journal.proofs.UnderWayLemmas.{UnderWay-begun, UnderWay-step}
use Rattle.ame_machine.specs.Run.Local.{LocalState, begun_with, goes}
use Rattle.ame_machine.specs.Run.AgreesWith.{AgreesWith, IsAfterRun}
use Rattle.ame_machine.proofs.Run.RunLemmas.{step-is}
use Rattle.ame_machine.proofs.Run.EffectLemmas.{step-agrees, step-made}

-- a run of no step leaves the state
pub begun-after : (s : State) (i : ℕ) (term : Tree) (inputs : List Val) (t : State) → t.store ≡ s.store → t.output ≡ s.output → t.members ≡ s.members → t.next ≡ s.next
    → IsAfterRun s i (begun_with term inputs) t
begun-after s i term inputs t stores outputs members nexts = record {
  stored = λ l. ap (λ (m : List (ℕ × Val)). at m l) stores;
  output = outputs ∙ sym (append-nil s.output);
  others = λ k apart. ap (λ (m : List (ℕ × Tree)). at m k) members;
  next = omega arith;
}

-- Protected code

-- a run of a member that became active
pub record IsActiveRun (s : State) (i n : ℕ) (p : LocalState) : Type 0 where
  pub behind : State
  pub way : UnderWay s i n p.fresh behind
  pub after_run : IsAfterRun s i p behind
  pub member : at behind.members i ≡ Some p.term
  pub quiet : p.answer ≡ None

module _ (s : State) (i : ℕ) (term : Tree) (inputs : List Val) (member : at s.members i ≡ Some term) where
  activates : s.active ≡ None → at_unprotected (focus term) ≡ false → after s (Label.Activate i) ≡ Some (record s { active = Some i })
  unfolding after
  activates idle calm =
      ap (λ (o : Option ℕ). if is_none o then activated i s else None) idle
      ∙ ap (option_and_then (λ (t : Tree). if at_unprotected (focus t) then None else Some (record s { active = Some i }))) member
      ∙ ap (λ (b : Bool). if b then None else Some (record s { active = Some i })) calm

  active-step : (t : State) (kind : StepKind) → t.active ≡ Some i → after t (Label.Step kind) ≡ reduce Side.Protected kind i t
  unfolding after
  active-step t kind is = ap (λ (o : Option ℕ). option_and_then (λ (j : ℕ). reduce Side.Protected kind j t) o) is

  pub active_run : s.active ≡ None → at_unprotected (focus term) ≡ false → (n : ℕ) (p : LocalState) → goes Side.Protected (begun_with term inputs) n ≡ Some p → AgreesWith s.store p
      → IsActiveRun s i n p
  active_run idle calm zero p e a =
      let same : begun_with term inputs ≡ p = cc in
      let u = record s { active = Some i } in
      subst (IsActiveRun s i 0) same (record {
        behind = u;
        way = UnderWay-begun s i u (activates idle calm);
        after_run = begun-after s i term inputs u refl refl refl refl;
        member = member;
        quiet = refl;
      })
  active_run idle calm (suc n) p e a =
      option_and_then_some _ _ _ e (λ r first second.
      let before = active_run idle calm n r first (step-agrees s.store Side.Protected r p second a) in
      let x = step-made s i Side.Protected r p before.behind before.after_run before.member second a in
      let made : after before.behind (Label.Step x.kind) ≡ Some x.behind = active-step before.behind x.kind before.way.active ∙ x.reduces in
      let way : UnderWay s i (n + 1) (r.fresh ++ fresh_of x.kind) x.behind = UnderWay-step s i n r.fresh x.kind before.behind x.behind before.way made in
      let count : n + 1 ≡ suc n = omega arith in
      record {
        behind = x.behind;
        way = subst (λ (m : ℕ). UnderWay s i m p.fresh x.behind) count (subst (λ (f : List ℕ). UnderWay s i (n + 1) f x.behind) (sym x.fresh) way);
        after_run = x.after_run;
        member = x.member;
        quiet = x.answer ∙ no_answer x.kind x.act x.can;
      })

-- Unprotected code

-- a run of a member while nothing is active
pub record IsFreeRun (s : State) (i n : ℕ) (p : LocalState) : Type 0 where
  pub behind : State
  pub kinds : List StepKind
  pub are : AreSteps kinds n p.fresh p.answer
  pub made : run s (free_labels i kinds) ≡ Some behind
  pub after_run : IsAfterRun s i p behind
  pub member : at behind.members i ≡ Some p.term
  pub idle : behind.active ≡ None

-- with one more step, which may be a call
answered-last : (kinds : List StepKind) (kind : StepKind) → IsAnswered kinds None → IsAnswered (kinds ++ kind ∷ []) (device_answer kind)
answered-last [] kind answered = refl
answered-last (k ∷ []) kind answered = (sym answered, refl)
answered-last (k ∷ next ∷ kinds) kind answered = (answered.0, answered-last (next ∷ kinds) kind answered.1)

steps-last : (kinds : List StepKind) (kind : StepKind) (n : ℕ) (fresh : List ℕ) → AreSteps kinds n fresh None → AreSteps (kinds ++ kind ∷ []) (suc n) (fresh ++ fresh_of kind) (device_answer kind)
steps-last kinds kind n fresh are = record {
  count = let longer : length (kinds ++ kind ∷ []) ≡ length kinds + 1 = length-append kinds (kind ∷ []) in let before : length kinds ≡ n = are.count in omega arith;
  made = flat_map-append fresh_of kinds (kind ∷ []) ∙ ap (λ xs. xs ++ made_by (kind ∷ [])) are.made ∙ ap (λ xs. fresh ++ xs) (append-nil (fresh_of kind));
  answered = answered-last kinds kind are.answered;
}

free-last : (i : ℕ) (kinds : List StepKind) (kind : StepKind) → free_labels i (kinds ++ kind ∷ []) ≡ free_labels i kinds ++ Label.Free i kind ∷ []
free-last i [] kind = refl
free-last i (k ∷ kinds) kind = ap (λ (ls : List Label). Label.Free i k ∷ ls) (free-last i kinds kind)

free-step : (i : ℕ) (t : State) (kind : StepKind) → t.active ≡ None → after t (Label.Free i kind) ≡ reduce Side.Unprotected kind i t
unfolding after
free-step i t kind is = ap (λ (o : Option ℕ). if is_none o then reduce Side.Unprotected kind i t else None) is

module _ (s : State) (i : ℕ) (term : Tree) (inputs : List Val) (member : at s.members i ≡ Some term) (idle : s.active ≡ None) where
  pub free_run : (n : ℕ) (p : LocalState) → goes Side.Unprotected (begun_with term inputs) n ≡ Some p → AgreesWith s.store p → IsFreeRun s i n p
  free_run zero p e a =
      let same : begun_with term inputs ≡ p = cc in
      subst (IsFreeRun s i 0) same (record {
        behind = s;
        kinds = [];
        are = record { count = refl; made = refl; answered = refl };
        made = refl;
        after_run = begun-after s i term inputs s refl refl refl refl;
        member = member;
        idle = idle;
      })
  free_run (suc n) p e a =
      option_and_then_some _ _ _ e (λ r first second.
      let before = free_run n r first (step-agrees s.store Side.Unprotected r p second a) in
      let x = step-made s i Side.Unprotected r p before.behind before.after_run before.member second a in
      let resting : r.answer ≡ None = (step-is Side.Unprotected r p second).resting in
      let made : after before.behind (Label.Free i x.kind) ≡ Some x.behind = free-step i before.behind x.kind before.idle ∙ x.reduces in
      let are = steps-last before.kinds x.kind n r.fresh (subst (AreSteps before.kinds n r.fresh) resting before.are) in
      record {
        behind = x.behind;
        kinds = before.kinds ++ x.kind ∷ [];
        are =
            subst (AreSteps (before.kinds ++ x.kind ∷ []) (suc n) p.fresh) (sym x.answer)
            (subst (λ (f : List ℕ). AreSteps (before.kinds ++ x.kind ∷ []) (suc n) f (device_answer x.kind)) (sym x.fresh) are);
        made =
            ap (run s) (free-last i before.kinds x.kind)
            ∙ run-two s before.behind x.behind (free_labels i before.kinds) (Label.Free i x.kind ∷ []) before.made (run-one before.behind x.behind (Label.Free i x.kind) made);
        after_run = x.after_run;
        member = x.member;
        idle = x.active ∙ before.idle;
      })
