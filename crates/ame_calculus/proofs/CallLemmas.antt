-- The call with which an entry ends is one of its run, so it is the same in each state in which the run is made.
use Rattle.std.proofs.Common.{◌≡◌, ℕ, zero, suc, ◌++◌, inl, inr, ℤ, Bool, true, false, List, [], Option, Some, None, option_and_then, refl, sym, ap, ◌∙◌, subst, append-nil}
use Rattle.std.proofs.lemmas.Option.{option_and_then_some}
use Rattle.ame_term.specs.Tree.{Val, Tree}
use Rattle.ame_term.specs.Frame.{Side, side_told}
use Rattle.ame_term.specs.Context.{focus}
use Rattle.ame_term.specs.Act.{device_answer}
use Rattle.ame_term.specs.Maps.{at}
use Rattle.ame_term.specs.State.{State, at_unprotected}
use Rattle.ame_term.specs.declared.semantics.StepKind.{StepKind}
use Rattle.ame_term.specs.declared.semantics.Label.{Label}
use Rattle.ame_journal.specs.declared.entry.Entry.{Entry}
use Rattle.ame_journal.specs.Calls.{call_at, last_call}
use Rattle.ame_journal.specs.Labels.{fresh_of, AreSteps}
use Rattle.ame_journal.specs.Replayed.{Replayed, has_such, is_at_unprotected}
use Rattle.ame_journal.specs.Replay.{redex_act, member_act, locations, steps}
use Rattle.ame_journal.proofs.UnfoldLemmas.{free-back}
use Rattle.ame_machine.specs.Run.AgreesWith.{AgreesWith}
use Rattle.ame_machine.specs.Run.Local.{LocalState, begun_with, one_step, goes}
use Rattle.ame_machine.proofs.Run.EffectLemmas.{step-agrees, step-made}
use Rattle.ame_machine.proofs.Run.ReplayLemmas.{active_run, free_run}
use Rattle.ame_machine.proofs.Run.RunLemmas.{step-is}
use Rattle.ame_calculus.specs.Independent.{IsOfRun}

pub no-call : (k i n : ℕ) (fresh : List ℕ) (s : State) → last_call k i n fresh None s ≡ []
no-call k i zero fresh s = refl
no-call k i (suc n) fresh s = refl

device-fresh : (kind : StepKind) (answer : ℤ) → device_answer kind ≡ Some answer → fresh_of kind ≡ []
device-fresh (StepKind.Device a) answer e = refl
device-fresh _ answer e = cc

-- the last step of a run under `unprotected` that is answered
free-call : (k : ℕ) (s : State) (i : ℕ) (term : Tree) (inputs : List Val) (m : ℕ) (q p : LocalState) (answer : ℤ) → s.active ≡ None → at s.members i ≡ Some term
    → goes Side.Unprotected (begun_with term inputs) m ≡ Some q → one_step Side.Unprotected q ≡ Some p → AgreesWith s.store p → p.answer ≡ Some answer
    → last_call k i (suc m) p.fresh (Some answer) s ≡ call_at k (Some answer) (redex_act (focus q.term))
free-call k s i term inputs m q p answer idle member first last agrees told =
    let f = free_run s i term inputs member idle m q first (step-agrees s.store Side.Unprotected q p last agrees) in
    let resting : q.answer ≡ None = (step-is Side.Unprotected q p last).resting in
    let x = step-made s i Side.Unprotected q p f.behind f.after_run f.member last agrees in
    let fresh : p.fresh ≡ q.fresh = x.fresh ∙ ap (λ (ls : List ℕ). q.fresh ++ ls) (device-fresh x.kind answer (sym x.answer ∙ told)) ∙ append-nil q.fresh in
    let made : steps (Label.Free i) i m (locations q.fresh) s ≡ Some f.behind = free-back i f.kinds m q.fresh None s f.behind (subst (AreSteps f.kinds m q.fresh) resting f.are) f.made in
    ap (λ (ls : List ℕ). call_at k (Some answer) (option_and_then (member_act i) (steps (Label.Free i) i m (locations ls) s))) fresh
    ∙ ap (λ (o : Option State). call_at k (Some answer) (option_and_then (member_act i) o)) made
    ∙ ap (λ (o : Option Tree). call_at k (Some answer) (option_and_then (λ t. redex_act (focus t)) o)) f.member

calm-side : (b : Bool) → side_told b ≡ Side.Protected → b ≡ false
calm-side true e = cc
calm-side false e = refl

-- an entry makes the same call in two states in which its run is made
module _ (k : ℕ) (r : Replayed) (e : Entry) (p : LocalState) (x : IsOfRun r e p) (s : State) (idle : s.active ≡ None) (member : at s.members e.number ≡ at r.state.members e.number)
    (agrees : AgreesWith s.store p) where
  two-calls : (side : Side) (n : ℕ) (answer : ℤ) → x.side ≡ side → x.steps ≡ n → p.answer ≡ Some answer
      → last_call k e.number n p.fresh (Some answer) s ≡ last_call k e.number n p.fresh (Some answer) r.state
  two-calls Side.Protected n answer side_is count told =
      let ran : goes Side.Protected (begun_with x.tells.term x.tells.inputs) x.steps ≡ Some p =
      subst (λ (z : Side). goes z (begun_with x.tells.term x.tells.inputs) x.steps ≡ Some p) side_is x.tells.ran in
      let calm : at_unprotected (focus x.tells.term) ≡ false =
      sym (ap (has_such (λ t. at_unprotected (focus t))) x.tells.member) ∙ calm-side (is_at_unprotected e.number r.state) (x.tells.stands ∙ side_is) in
      let a = active_run r.state e.number x.tells.term x.tells.inputs x.tells.member x.tells.idle calm x.steps p ran x.tells.agrees in
      let clash : ◌≡◌ {A = Option ℤ} None (Some answer) = sym a.quiet ∙ told in
      absurd (cc)
  two-calls Side.Unprotected zero answer side_is count told = refl
  two-calls Side.Unprotected (suc m) answer side_is count told =
      let ran : goes Side.Unprotected (begun_with x.tells.term x.tells.inputs) (suc m) ≡ Some p =
      ap (goes Side.Unprotected (begun_with x.tells.term x.tells.inputs)) (sym count)
      ∙ subst (λ (z : Side). goes z (begun_with x.tells.term x.tells.inputs) x.steps ≡ Some p) side_is x.tells.ran in
      option_and_then_some (one_step Side.Unprotected) (goes Side.Unprotected (begun_with x.tells.term x.tells.inputs) m) p ran (λ q first last.
      free-call k s e.number x.tells.term x.tells.inputs m q p answer idle (member ∙ x.tells.member) first last agrees told
      ∙ sym (free-call k r.state e.number x.tells.term x.tells.inputs m q p answer x.tells.idle x.tells.member first last x.tells.agrees told))

  pub same-call : last_call k e.number e.steps e.fresh e.answer s ≡ last_call k e.number e.steps e.fresh e.answer r.state
  same-call = by e.answer refl
    where
      counted : (answer : ℤ) → e.answer ≡ Some answer → e.steps ≡ x.steps
      counted answer is = elim x.count [ inl same ↦ same | inr k ↦ absurd (let clash : ◌≡◌ {A = Option ℤ} None (Some answer) = sym k.2 ∙ is in cc) ]

      by : (o : Option ℤ) → e.answer ≡ o → last_call k e.number e.steps e.fresh o s ≡ last_call k e.number e.steps e.fresh o r.state
      by None is = no-call k e.number e.steps e.fresh s ∙ sym (no-call k e.number e.steps e.fresh r.state)
      by (Some answer) is =
          ap (λ (ls : List ℕ). last_call k e.number e.steps ls (Some answer) s) x.tells.fresh
          ∙ two-calls x.side e.steps answer refl (sym (counted answer is)) (sym x.tells.answer ∙ is)
          ∙ sym (ap (λ (ls : List ℕ). last_call k e.number e.steps ls (Some answer) r.state) x.tells.fresh)
