-- The entries of runs, by what each of them unfolds to.
use Rattle.std.proofs.Common.{◌≡◌, ℕ, zero, suc, ◌+◌, ◌==◌, ◌<◌, ℤ, Bool, true, false, List, [], ◌∷◌, Option, Some, None, is_none, is_some, option_map, option_and_then, if◌then◌else◌, refl, sym, ap, ◌∙◌, subst, arith}
use Rattle.ame_term.specs.Tree.{Val, Tree}
use Rattle.ame_term.specs.Frame.{Side, side_told}
use Rattle.ame_term.specs.Context.{focus, fill}
use Rattle.ame_term.specs.Height.{max_height}
use Rattle.ame_term.specs.Maps.{at, change, without}
use Rattle.ame_term.specs.State.{State, after, run, departed, ended, closed, closed_value, at_value, at_unprotected}
use Rattle.ame_term.specs.declared.semantics.Label.{Label}
use Rattle.ame_laws.specs.Orderly.{IsOrderly}
use Rattle.ame_laws.proofs.MapLemmas.{at-without_same, at-without_other, at-change_same, at-change_other}
use Rattle.ame_laws.proofs.OrderlyLemmas.{run-goes}
use Rattle.ame_journal.specs.declared.entry.Entry.{Entry}
use Rattle.ame_journal.specs.declared.entry.EntryKind.{EntryKind}
use Rattle.ame_journal.specs.Replayed.{Replayed, is_inside, side_at, has_such, staying, entering, leaving, is_false_condition, coming_height, is_tall}
use Rattle.ame_journal.specs.Labels.{AreSteps, fragment_labels, free_labels, attempt_labels, Unfolds}
use Rattle.ame_journal.specs.Replay.{replay_entry}
use Rattle.ame_journal.specs.UnderWay.{UnderWay}
use Rattle.ame_journal.proofs.LabelLemmas.{run-two, run-one}
use Rattle.ame_journal.proofs.UnfoldLemmas.{entry-back}
use Rattle.ame_journal.proofs.UnderWayLemmas.{UnderWay-runs, replay-ended, replay-left, replay-stuck, replay-cut, replay-tall}
use Rattle.ame_machine.specs.Run.Local.{LocalState}
use Rattle.ame_machine.specs.Run.AgreesWith.{IsAfterRun}
use Rattle.ame_machine.specs.Run.Told.{TellsRun, IsTooHigh}
use Rattle.ame_machine.proofs.Run.ReplayLemmas.{IsActiveRun, IsFreeRun, active_run, free_run}

-- a term that stands on the side of protected code
is-calm : (b : Bool) → side_told b ≡ Side.Protected → b ≡ false
is-calm true e = cc
is-calm false e = refl

module _ (r : Replayed) (entry : Entry) (n : ℕ) (p : LocalState) where
  -- a member that is found
  such : (term : Tree) → at r.state.members entry.number ≡ Some term → (test : Tree → Bool) → has_such test (at r.state.members entry.number) ≡ test term
  such term member test = ap (has_such test) member

  -- Protected code

  module _ (tells : TellsRun r entry Side.Protected n p) (count : entry.steps ≡ n) where
    is_active_run : IsActiveRun r.state entry.number n p
    is_active_run =
        active_run r.state entry.number tells.term tells.inputs tells.member tells.idle
        (is-calm (at_unprotected (focus tells.term)) (sym (ap side_told (such tells.term tells.member (λ t. at_unprotected (focus t)))) ∙ tells.stands))
        n p tells.ran tells.agrees

    way : (a : IsActiveRun r.state entry.number n p) → UnderWay r.state entry.number entry.steps entry.fresh a.behind
    way a =
        subst (λ (m : ℕ). UnderWay r.state entry.number m entry.fresh a.behind) (sym count)
        (subst (λ (f : List ℕ). UnderWay r.state entry.number n f a.behind) (sym tells.fresh) a.way)

    no_answer_told : (a : IsActiveRun r.state entry.number n p) → entry.answer ≡ None
    no_answer_told a = tells.answer ∙ a.quiet

    same-there : (a : IsActiveRun r.state entry.number n p) (test : Tree → Bool) → has_such test (at a.behind.members entry.number) ≡ test p.term
    same-there a test = ap (has_such test) a.member

    can-end : (t : State) → t.active ≡ Some entry.number → at t.members entry.number ≡ Some p.term → at_value (focus p.term) ≡ true
        → after t Label.End ≡ Some (record t { members = without t.members entry.number; active = None })
    unfolding after
    can-end t is member value =
        ap (λ (o : Option ℕ). option_and_then (λ (j : ℕ). ended j t) o) is
        ∙ ap (option_and_then (λ (x : Tree). if at_value (focus x) then Some (record t { members = without t.members entry.number; active = None }) else None)) member
        ∙ ap (λ (b : Bool). if b then Some (record t { members = without t.members entry.number; active = None }) else None) value

    can-leave : (t : State) → t.active ≡ Some entry.number → at t.members entry.number ≡ Some p.term → at_unprotected (focus p.term) ≡ true
        → after t Label.Leave ≡ Some (record t { active = None })
    unfolding after
    can-leave t is member stands =
        ap (λ (o : Option ℕ). option_and_then (λ (j : ℕ). departed j t) o) is
        ∙ ap (option_and_then (λ (x : Tree). if at_unprotected (focus x) then Some (record t { active = None }) else None)) member
        ∙ ap (λ (b : Bool). if b then Some (record t { active = None }) else None) stands

    pub run-ended : entry.kind ≡ EntryKind.Ran → is_inside r entry.number ≡ false → IsOrderly r.state → at_value (focus p.term) ≡ true
        → (t : State) × (replay_entry r entry ≡ Some (staying r t)) × IsAfterRun r.state entry.number p t × (at t.members entry.number ≡ None) × (t.active ≡ None)
    run-ended kind outside orderly value =
        let a = is_active_run in
        let t = a.behind in
        let u = record t { members = without t.members entry.number; active = None } in
        let ends : after t Label.End ≡ Some u = can-end t a.way.active a.member value in
        let rising = (run-goes r.state (fragment_labels entry.number a.way.kinds) t (UnderWay-runs r.state entry.number n p.fresh t a.way)).orderly orderly in
        let h : IsAfterRun r.state entry.number p u = record {
          stored = a.after_run.stored;
          output = a.after_run.output;
          others = λ k apart. at-without_other t.members entry.number k (λ same. apart (sym same)) ∙ a.after_run.others k apart;
          next = a.after_run.next;
        } in
        (u, replay-ended r entry t (way a) (no_answer_told a) kind outside u ends, h, at-without_same t.members entry.number rising.members_rise, refl)

    pub run-left : entry.kind ≡ EntryKind.Ran → is_inside r entry.number ≡ false → at_unprotected (focus p.term) ≡ true
        → (t : State) × (replay_entry r entry ≡ Some (entering r entry.number t)) × IsAfterRun r.state entry.number p t × (at t.members entry.number ≡ Some p.term) × (t.active ≡ None)
    run-left kind outside stands =
        let a = is_active_run in
        let t = a.behind in
        let u = record t { active = None } in
        let leaves : after t Label.Leave ≡ Some u = can-leave t a.way.active a.member stands in
        let h : IsAfterRun r.state entry.number p u = record { stored = a.after_run.stored; output = a.after_run.output; others = a.after_run.others; next = a.after_run.next } in
        (u, replay-left r entry t (way a) (no_answer_told a) kind outside u leaves, h, a.member, refl)

    pub run-stuck : entry.kind ≡ EntryKind.Stuck → is_false_condition (focus p.term) ≡ true → replay_entry r entry ≡ Some r
    run-stuck kind fails =
        let a = is_active_run in
        replay-stuck r entry a.behind (way a) (no_answer_told a) kind (same-there a (λ t. is_false_condition (focus t)) ∙ fails)

    run-cut : entry.kind ≡ EntryKind.Cut → replay_entry r entry ≡ Some r
    run-cut kind = let a = is_active_run in replay-cut r entry a.behind (way a) (no_answer_told a) kind

    run-tall : entry.kind ≡ EntryKind.Tall → IsTooHigh Side.Protected p → replay_entry r entry ≡ Some r
    run-tall kind high =
        let a = is_active_run in
        replay-tall r entry a.behind (way a) (no_answer_told a) kind (same-there a (λ t. coming_height Side.Protected (focus t) == max_height + 1) ∙ high)

  -- Unprotected code

  -- an entry by what it unfolds to
  told : (kind : EntryKind) (m : ℕ) (fresh : List ℕ) (answer : Option ℤ) (labels : List Label) (u : Replayed) → entry.kind ≡ kind → entry.steps ≡ m → entry.fresh ≡ fresh → entry.answer ≡ answer
      → Unfolds r entry.number kind m fresh answer labels u → replay_entry r entry ≡ Some u
  told kind m fresh answer labels u is count new reply unfolds =
      entry-back r entry labels u
      (subst (λ (k : EntryKind). Unfolds r entry.number k entry.steps entry.fresh entry.answer labels u) (sym is)
      (subst (λ (z : ℕ). Unfolds r entry.number kind z entry.fresh entry.answer labels u) (sym count)
      (subst (λ (f : List ℕ). Unfolds r entry.number kind m f entry.answer labels u) (sym new)
      (subst (λ (o : Option ℤ). Unfolds r entry.number kind m fresh o labels u) (sym reply) unfolds))))

  module _ (tells : TellsRun r entry Side.Unprotected n p) where
    is_free_run : IsFreeRun r.state entry.number n p
    is_free_run = free_run r.state entry.number tells.term tells.inputs tells.member tells.idle n p tells.ran tells.agrees

    free-labels : (a : IsFreeRun r.state entry.number n p) → run r.state (attempt_labels (side_at entry.number r.state) entry.number a.kinds) ≡ Some a.behind
    free-labels a = ap (λ (side : Side). run r.state (attempt_labels side entry.number a.kinds)) tells.stands ∙ a.made

    can-close : (t : State) (v : Val) → t.active ≡ None → at t.members entry.number ≡ Some p.term → closed_value (focus p.term) ≡ Some v
        → after t (Label.Close entry.number) ≡ Some (record t { members = change t.members entry.number (fill p.term (Tree.Held v)) })
    unfolding after
    can-close t v idle member value =
        ap (λ (o : Option ℕ). if is_none o then closed entry.number t else None) idle
        ∙ ap (option_and_then (λ (x : Tree). option_map (λ w. record t { members = change t.members entry.number (fill x (Tree.Held w)) }) (closed_value (focus x)))) member
        ∙ ap (option_map (λ w. record t { members = change t.members entry.number (fill p.term (Tree.Held w)) })) value

    pub run-closed : (v : Val) → entry.steps ≡ n + 1 → entry.kind ≡ EntryKind.Free → is_inside r entry.number ≡ true → p.answer ≡ None → closed_value (focus p.term) ≡ Some v
        → (t : State) × (replay_entry r entry ≡ Some (leaving r entry.number t)) × IsAfterRun r.state entry.number p t × (at t.members entry.number ≡ Some (fill p.term (Tree.Held v)))
        × (t.active ≡ None)
    run-closed v count kind inside quiet value =
        let a = is_free_run in
        let t = a.behind in
        let last = fill p.term (Tree.Held v) in
        let u = record t { members = change t.members entry.number last } in
        let closes : after t (Label.Close entry.number) ≡ Some u = can-close t v a.idle a.member value in
        let more : n + 1 ≡ suc n = omega arith in
        let runs = run-two r.state t u (free_labels entry.number a.kinds) (Label.Close entry.number ∷ []) a.made (run-one t u (Label.Close entry.number) closes) in
        let are = subst (AreSteps a.kinds n p.fresh) quiet a.are in
        let h : IsAfterRun r.state entry.number p u = record {
          stored = a.after_run.stored;
          output = a.after_run.output;
          others = λ k apart. at-change_other t.members entry.number k last (λ same. apart (sym same)) ∙ a.after_run.others k apart;
          next = a.after_run.next;
        } in (
          u,
          told EntryKind.Free (suc n) p.fresh None _ (leaving r entry.number u) kind (count ∙ more) tells.fresh (tells.answer ∙ quiet)
              (Unfolds.closes a.kinds n p.fresh u inside are runs),
          h,
          at-change_same t.members entry.number last (ap is_some a.member),
          a.idle,
        )

    free-cut : entry.steps ≡ n → entry.kind ≡ EntryKind.Cut → p.answer ≡ None → replay_entry r entry ≡ Some r
    free-cut count kind quiet =
        let a = is_free_run in
        told EntryKind.Cut n p.fresh None [] r kind count tells.fresh (tells.answer ∙ quiet)
        (Unfolds.is_cut a.kinds n p.fresh a.behind (subst (AreSteps a.kinds n p.fresh) quiet a.are) (free-labels a))

    free-tall : entry.steps ≡ n → entry.kind ≡ EntryKind.Tall → p.answer ≡ None → IsTooHigh Side.Unprotected p → replay_entry r entry ≡ Some r
    free-tall count kind quiet high =
        let a = is_free_run in
        told EntryKind.Tall n p.fresh None [] r kind count tells.fresh (tells.answer ∙ quiet)
        (Unfolds.grows a.kinds n p.fresh a.behind (subst (AreSteps a.kinds n p.fresh) quiet a.are) (free-labels a)
        (ap (λ (side : Side). is_tall side entry.number a.behind) tells.stands
        ∙ ap (has_such (λ t. coming_height Side.Unprotected (focus t) == max_height + 1)) a.member ∙ high))

  pub either-cut : (side : Side) → TellsRun r entry side n p → entry.steps ≡ n → entry.kind ≡ EntryKind.Cut → p.answer ≡ None → replay_entry r entry ≡ Some r
  either-cut Side.Protected tells count kind quiet = run-cut tells count kind
  either-cut Side.Unprotected tells count kind quiet = free-cut tells count kind quiet

  pub either-tall : (side : Side) → TellsRun r entry side n p → entry.steps ≡ n → entry.kind ≡ EntryKind.Tall → p.answer ≡ None → IsTooHigh side p → replay_entry r entry ≡ Some r
  either-tall Side.Protected tells count kind quiet high = run-tall tells count kind high
  either-tall Side.Unprotected tells count kind quiet high = free-tall tells count kind quiet high

-- a run of one step or more
pub run-free : (r : Replayed) (entry : Entry) (n : ℕ) (p : LocalState) → TellsRun r entry Side.Unprotected n p → entry.steps ≡ n → entry.kind ≡ EntryKind.Free → is_inside r entry.number ≡ true → 0 < n
    → (t : State) × (replay_entry r entry ≡ Some (staying r t)) × IsAfterRun r.state entry.number p t × (at t.members entry.number ≡ Some p.term) × (t.active ≡ None)
run-free r entry zero p tells count kind inside some = absurd (omega arith)
run-free r entry (suc n) p tells count kind inside some =
    let a = is_free_run r entry (suc n) p tells in (
      a.behind,
      told r entry (suc n) p EntryKind.Free (suc n) p.fresh p.answer _ (staying r a.behind) kind count tells.fresh tells.answer
          (Unfolds.goes_on a.kinds n p.fresh p.answer a.behind inside a.are a.made),
      a.after_run,
      a.member,
      a.idle,
    )
