-- The calls of devices in the journal.
use Rattle.std.proofs.Common.{◌≡◌, ℕ, zero, suc, ◌+◌, ◌==◌, ℤ, Bool, List, [], ◌∷◌, ◌++◌, Option, Some, None, append_assoc, refl, sym, ap, ◌∙◌, subst, arith}
use Rattle.std.specs.Prelude.{true, option_and_then, if◌then◌else◌}
use Rattle.std.proofs.lemmas.List.{append-nil}
use Rattle.ame_term.specs.Tree.{Val, Tree}
use Rattle.ame_term.specs.Frame.{Side}
use Rattle.ame_term.specs.Context.{Focus, focus}
use Rattle.ame_term.specs.Act.{Act}
use Rattle.ame_term.specs.State.{State}
use Rattle.ame_term.specs.declared.semantics.Label.{Label}
use Rattle.ame_journal.specs.declared.entry.Entry.{Entry}
use Rattle.ame_journal.specs.Replayed.{Replayed, begun_at}
use Rattle.ame_journal.specs.Replay.{redex_act, member_act, locations, steps, replay_entry}
use Rattle.ame_journal.specs.Calls.{call_at, of_next, last_call, device_calls_from, device_calls}
use Rattle.ame_journal.proofs.CallLemmas.{calls-appended}
use Rattle.ame_journal.proofs.UnfoldLemmas.{free-back}
use Rattle.ame_machine.specs.Run.Local.{LocalState, begun_with}
use Rattle.ame_machine.proofs.Run.ReplayLemmas.{free_run}
use Rattle.ame_rows.specs.MemoryView.{MemoryView}
use Rattle.ame_protocol.specs.Row.SeatRun.{IsAtAct}
use Rattle.ame_protocol.specs.declared.types.Attempt.{Attempt}
use Rattle.ame_protocol.specs.declared.types.Task.{Task}
use Rattle.ame_protocol.specs.Engine.Parts.{Parts, whole_journal, task_at, term_at}
use Rattle.ame_protocol.specs.Engine.Simulates.{Simulates}
use Rattle.ame_protocol.specs.Visits.Visit.{StepsTo, answered_at, free_entry, has_visited}
use Rattle.ame_protocol.proofs.Visits.PlaceLemmas.{alone, calm, term-there}

nothing-next : (k : ℕ) (o : Option Replayed) → of_next (λ t. device_calls_from k t []) o ≡ []
nothing-next k None = refl
nothing-next k (Some t) = refl

no-last : (k i n : ℕ) (fresh : List ℕ) (s : State) → last_call k i n fresh None s ≡ []
no-last k i zero fresh s = refl
no-last k i (suc n) fresh s = refl

module _ (parts : Parts) (s : Simulates parts) (k : ℕ) where
  -- one more entry adds its last call
  one-more-call : (entry : Entry) → device_calls k parts.program (whole_journal parts ++ entry ∷ [])
      ≡ device_calls k parts.program (whole_journal parts) ++ last_call k entry.number entry.steps entry.fresh entry.answer s.r.state
  one-more-call entry =
      let calls = device_calls k parts.program (whole_journal parts) in
      let last = last_call k entry.number entry.steps entry.fresh entry.answer s.r.state in
      calls-appended k (begun_at parts.program) s.r (whole_journal parts) (entry ∷ []) s.stands.replayed
      ∙ ap (λ (xs : List (ℤ × ℤ)). calls ++ (last ++ xs)) (nothing-next k (replay_entry s.r entry))
      ∙ ap (λ (xs : List (ℤ × ℤ)). calls ++ xs) (append-nil last)

  pub silent-entry : (entry : Entry) → entry.answer ≡ None
      → device_calls k parts.program (whole_journal parts ++ entry ∷ []) ≡ device_calls k parts.program (whole_journal parts)
  silent-entry entry none =
      let calls = device_calls k parts.program (whole_journal parts) in
      one-more-call entry
      ∙ ap (λ (o : Option ℤ). calls ++ last_call k entry.number entry.steps entry.fresh o s.r.state) none
      ∙ ap (λ (xs : List (ℤ × ℤ)). calls ++ xs) (no-last k entry.number entry.steps entry.fresh s.r.state)
      ∙ append-nil calls

  pub silent-visit : (seat number n : ℕ) (p : LocalState) (inside : Bool) (memory : MemoryView Val) → p.answer ≡ None
      → device_calls k parts.program (whole_journal (has_visited seat number n p inside memory parts)) ≡ device_calls k parts.program (whole_journal parts)
  silent-visit seat number n p inside memory none =
      let entry = free_entry seat number n p in
      ap (device_calls k parts.program) (sym (append_assoc parts.base parts.entries (entry ∷ []))) ∙ silent-entry entry none

  module _ (seat : ℕ) (attempt : Attempt) (task : task_at parts.tasks seat ≡ Task.Free attempt) (n : ℕ) (device : ℕ) (argument answer : ℤ) where
    abbrev number : ℕ
    number = attempt.tried.number

    abbrev the_call : List (ℤ × ℤ)
    the_call = if device == k then (argument, answer) ∷ [] else []

    -- The run holds only its term.
    bare-call : (u : Tree) → StepsTo parts number n (begun_with u []) → IsAtAct Side.Unprotected (Act.Calls device argument) (begun_with u [])
        → last_call k number (n + 1) [] (Some answer) s.r.state ≡ the_call
    bare-call u ran at_it =
        let state = s.r.state in
        let first = term_at parts.pool number in
        let a = free_run state number first [] (term-there parts s seat attempt task) (calm parts s seat attempt task).idle n (begun_with u []) ran
        (record { seen = tt; own = tt; made = tt }) in
        let here : steps (Label.Free number) number n (locations []) state ≡ Some a.behind = free-back number a.kinds n [] None state a.behind a.are a.made in
        let count : n + 1 ≡ suc n = omega arith in
        ap (λ (m : ℕ). last_call k number m [] (Some answer) state) count
        ∙ ap (λ (o : Option State). call_at k (Some answer) (option_and_then (member_act number) o)) here
        ∙ ap (λ (o : Option Tree). call_at k (Some answer) (option_and_then (λ term. redex_act (focus term)) o)) a.member
        ∙ ap (λ (f : Focus). call_at k (Some answer) (redex_act f)) at_it.stands
        ∙ ap (λ (act : Act). call_at k (Some answer) (Some act)) at_it.acts

    pub told-call : (p : LocalState) → StepsTo parts number n p → IsAtAct Side.Unprotected (Act.Calls device argument) p
        → device_calls k parts.program (whole_journal (has_visited seat number (n + 1) (answered_at answer p) true parts.memory parts))
        ≡ device_calls k parts.program (whole_journal parts) ++ the_call
    told-call p ran at_it =
        let calls = device_calls k parts.program (whole_journal parts) in
        let entry = free_entry seat number (n + 1) (answered_at answer p) in
        let is = alone (term_at parts.pool number) n p ran in
        ap (device_calls k parts.program) (sym (append_assoc parts.base parts.entries (entry ∷ [])))
        ∙ one-more-call entry
        ∙ ap (λ (z : LocalState). calls ++ last_call k number (n + 1) z.fresh (Some answer) s.r.state) is
        ∙ ap (λ (xs : List (ℤ × ℤ)). calls ++ xs)
        (bare-call p.term (ran ∙ ap Some is) (subst (IsAtAct Side.Unprotected (Act.Calls device argument)) is at_it))
