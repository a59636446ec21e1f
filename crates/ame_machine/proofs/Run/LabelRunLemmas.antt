-- Labels of one member, one after another, are a run of it.
use Rattle.std.proofs.Common.{◌≡◌, ℕ, suc, ◌+◌, ℤ, List, [], ◌∷◌, ◌++◌, map, length, Option, Some, None, is_none, option_and_then, if◌then◌else◌, refl, sym, ap, ◌∙◌, subst, arith, append-nil, append_assoc}
use Rattle.std.proofs.lemmas.Option.{option_and_then_some}
use Rattle.ame_term.specs.Tree.{Val, Tree}
use Rattle.ame_term.specs.Frame.{Side}
use Rattle.ame_term.specs.Act.{device_answer}
use Rattle.ame_term.specs.Maps.{at}
use Rattle.ame_term.specs.State.{State, after, run, reduce}
use Rattle.ame_term.specs.declared.semantics.StepKind.{StepKind}
use Rattle.ame_term.specs.declared.semantics.Label.{Label}
use Rattle.ame_journal.specs.Labels.{fresh_of, made_by, IsAnswered, fragment_labels, free_labels}
use Rattle.ame_journal.proofs.StepLemmas.{reduced, performed-keeps, activate-is}
use Rattle.ame_machine.specs.Run.Local.{LocalState, begun_with, with_inputs, one_step, goes}
use Rattle.ame_machine.specs.Run.AgreesWith.{AgreesWith, IsAfterRun}
use Rattle.ame_machine.proofs.Run.RunLemmas.{goes-more}
use Rattle.ame_machine.proofs.Run.LegalLemmas.{legal-step}
use Rattle.ame_machine.proofs.Run.ReplayLemmas.{begun-after}

-- n steps of member i, which have used all inputs, lead from the state s to the state u
pub record IsRunTo (s : State) (i : ℕ) (side : Side) (term : Tree) (n : ℕ) (fresh : List ℕ) (answer : Option ℤ) (u : State) : Type 0 where
  pub inputs : List Val
  pub place : LocalState
  pub ran : goes side (begun_with term inputs) n ≡ Some place
  pub used : place.inputs ≡ []
  pub agrees : AgreesWith s.store place
  pub after_run : IsAfterRun s i place u
  pub member : at u.members i ≡ Some place.term
  pub made : place.fresh ≡ fresh
  pub told : place.answer ≡ answer

-- steps of these kinds lead from one state to another
abbrev AreReduced : Side → ℕ → List StepKind → State → State → Type 0
AreReduced side i [] t u = t ≡ u
AreReduced side i (kind ∷ kinds) t u = (v : State) × (reduce side kind i t ≡ Some v) × AreReduced side i kinds v u

begun_run : (s : State) (i : ℕ) (side : Side) (term : Tree) (t : State) → t.store ≡ s.store → t.output ≡ s.output → t.members ≡ s.members → t.next ≡ s.next
    → at s.members i ≡ Some term → IsRunTo s i side term 0 [] None t
begun_run s i side term t stores outputs members nexts member = record {
  inputs = [];
  place = begun_with term [];
  ran = refl;
  used = refl;
  agrees = record { seen = tt; own = tt; made = tt };
  after_run = begun-after s i term [] t stores outputs members nexts;
  member = ap (λ (m : List (ℕ × Tree)). at m i) members ∙ member;
  made = refl;
  told = refl;
}

module _ (s : State) (i : ℕ) (side : Side) (term : Tree) where
  one_label : (n : ℕ) (fresh : List ℕ) (t u : State) (kind : StepKind) → IsRunTo s i side term n fresh None t → reduce side kind i t ≡ Some u
      → IsRunTo s i side term (suc n) (fresh ++ fresh_of kind) (device_answer kind) u
  one_label n fresh t u kind r e =
      let x = legal-step s i side kind r.place t u r.agrees r.after_run r.member r.told e in
      record {
        inputs = r.inputs ++ x.inputs;
        place = x.last;
        ran =
            ap (option_and_then (one_step side)) (goes-more side (begun_with term r.inputs) r.place x.inputs n r.ran)
            ∙ ap (λ (xs : List Val). one_step side (with_inputs (xs ++ x.inputs) r.place)) r.used ∙ x.steps;
        used = x.used;
        agrees = x.agrees;
        after_run = x.after_run;
        member = x.member;
        made = x.fresh ∙ ap (λ (xs : List ℕ). xs ++ fresh_of kind) r.made;
        told = x.answer;
      }

  -- a run in other words
  told_so : (m n : ℕ) (old new : List ℕ) (was is : Option ℤ) (u : State) → m ≡ n → old ≡ new → was ≡ is → IsRunTo s i side term m old was u → IsRunTo s i side term n new is u
  told_so m n old new was is u count made answer r =
      subst (λ (k : ℕ). IsRunTo s i side term k new is u) count
      (subst (λ (xs : List ℕ). IsRunTo s i side term m xs is u) made
      (subst (λ (o : Option ℤ). IsRunTo s i side term m old o u) answer r))

  all_labels : (kinds : List StepKind) (n : ℕ) (fresh : List ℕ) (answer : Option ℤ) (t u : State) → IsRunTo s i side term n fresh None t
      → IsAnswered kinds answer → AreReduced side i kinds t u → IsRunTo s i side term (n + length kinds) (fresh ++ made_by kinds) answer u
  all_labels [] n fresh answer t u r answered same =
      let count : n ≡ n + 0 = omega arith in
      subst (IsRunTo s i side term (n + 0) (fresh ++ []) answer) same
      (told_so n (n + 0) fresh (fresh ++ []) None answer t count (sym (append-nil fresh)) (sym answered) r)
  all_labels (kind ∷ []) n fresh answer t u r answered steps =
      let next = one_label n fresh t steps.0 kind r steps.1 in
      let count : suc n ≡ n + 1 = omega arith in
      subst (IsRunTo s i side term (n + 1) (fresh ++ made_by (kind ∷ [])) answer) steps.2
      (told_so (suc n) (n + 1) (fresh ++ fresh_of kind) (fresh ++ made_by (kind ∷ [])) (device_answer kind) answer steps.0 count
      (ap (λ (xs : List ℕ). fresh ++ xs) (sym (append-nil (fresh_of kind)))) (sym answered) next)
  all_labels (kind ∷ other ∷ kinds) n fresh answer t u r answered steps =
      let next = one_label n fresh t steps.0 kind r steps.1 in
      let quiet = told_so (suc n) (suc n) (fresh ++ fresh_of kind) (fresh ++ fresh_of kind) (device_answer kind) None steps.0 refl refl answered.0 next in
      let rest = all_labels (other ∷ kinds) (suc n) (fresh ++ fresh_of kind) answer steps.0 u quiet answered.1 steps.2 in
      let more = length (other ∷ kinds) in
      let count : suc n + more ≡ n + suc more = omega arith in
      told_so (suc n + more) (n + suc more) ((fresh ++ fresh_of kind) ++ made_by (other ∷ kinds)) (fresh ++ made_by (kind ∷ other ∷ kinds)) answer answer u count
      (append_assoc fresh (fresh_of kind) (made_by (other ∷ kinds))) refl rest

-- which member is active stays
stays-active : (side : Side) (kind : StepKind) (i : ℕ) (s u : State) → reduce side kind i s ≡ Some u → u.active ≡ s.active
stays-active side kind i s u e =
    let r = reduced side kind i s u e in
    sym (ap (λ (t : State). t.active) r.is) ∙ (performed-keeps kind r.act s r.result r.made).keeps.active

active_steps : (i : ℕ) (kinds : List StepKind) (t u : State) → t.active ≡ Some i → run t (map Label.Step kinds) ≡ Some u → AreReduced Side.Protected i kinds t u × (u.active ≡ Some i)
unfolding after
active_steps i [] t u is e = let same : t ≡ u = cc in (same, subst (λ (z : State). z.active ≡ Some i) same is)
active_steps i (kind ∷ kinds) t u is e =
    option_and_then_some _ _ _ e (λ v first rest.
    let made : reduce Side.Protected kind i t ≡ Some v = ap (λ (o : Option ℕ). option_and_then (λ (j : ℕ). reduce Side.Protected kind j t) o) (sym is) ∙ first in
    let after_it = active_steps i kinds v u (stays-active Side.Protected kind i t v made ∙ is) rest in
    ((v, made, after_it.0), after_it.1))

free_steps : (i : ℕ) (kinds : List StepKind) (t u : State) → t.active ≡ None → run t (free_labels i kinds) ≡ Some u → AreReduced Side.Unprotected i kinds t u × (u.active ≡ None)
unfolding after
free_steps i [] t u is e = let same : t ≡ u = cc in (same, subst (λ (z : State). z.active ≡ None) same is)
free_steps i (kind ∷ kinds) t u is e =
    option_and_then_some _ _ _ e (λ v first rest.
    let made : reduce Side.Unprotected kind i t ≡ Some v = ap (λ (o : Option ℕ). if is_none o then reduce Side.Unprotected kind i t else None) (sym is) ∙ first in
    let after_it = free_steps i kinds v u (stays-active Side.Unprotected kind i t v made ∙ is) rest in
    ((v, made, after_it.0), after_it.1))

pub record IsLabelRun (s : State) (i : ℕ) (side : Side) (term : Tree) (kinds : List StepKind) (answer : Option ℤ) (active : Option ℕ) (u : State) : Type 0 where
  pub run_to : IsRunTo s i side term (length kinds) (made_by kinds) answer u
  pub active_then : u.active ≡ active

pub fragment_run : (s : State) (i : ℕ) (term : Tree) (kinds : List StepKind) (u : State) → at s.members i ≡ Some term → IsAnswered kinds None
    → run s (fragment_labels i kinds) ≡ Some u → IsLabelRun s i Side.Protected term kinds None (Some i) u
fragment_run s i term kinds u member answered e =
    option_and_then_some _ _ _ e (λ t first rest.
    let same : t ≡ record s { active = Some i } = activate-is i s t first in
    let begun = begun_run s i Side.Protected term t (ap (λ (z : State). z.store) same) (ap (λ (z : State). z.output) same) (ap (λ (z : State). z.members) same)
    (ap (λ (z : State). z.next) same) member in
    let steps = active_steps i kinds t u (ap (λ (z : State). z.active) same) rest in
    let count : 0 + length kinds ≡ length kinds = omega arith in
    record {
      run_to = subst (λ (k : ℕ). IsRunTo s i Side.Protected term k (made_by kinds) None u) count (all_labels s i Side.Protected term kinds 0 [] None t u begun answered steps.0);
      active_then = steps.1;
    })

pub free_labels_run : (s : State) (i : ℕ) (term : Tree) (kinds : List StepKind) (answer : Option ℤ) (u : State) → s.active ≡ None → at s.members i ≡ Some term
    → IsAnswered kinds answer → run s (free_labels i kinds) ≡ Some u → IsLabelRun s i Side.Unprotected term kinds answer None u
free_labels_run s i term kinds answer u idle member answered e =
    let steps = free_steps i kinds s u idle e in
    let count : 0 + length kinds ≡ length kinds = omega arith in
    record {
      run_to =
          subst (λ (k : ℕ). IsRunTo s i Side.Unprotected term k (made_by kinds) answer u) count
          (all_labels s i Side.Unprotected term kinds 0 [] answer s u (begun_run s i Side.Unprotected term s refl refl refl refl member) answered steps.0);
      active_then = steps.1;
    }
