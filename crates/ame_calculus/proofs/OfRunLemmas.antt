-- Each entry that is no note is a run of its member.
use Rattle.std.proofs.Common.{◌≡◌, ℕ, suc, ◌+◌, inl, inr, ℤ, true, false, List, [], Option, Some, None, is_some, is_none, option_and_then, option_map, if◌then◌else◌, length, refl, sym, ap, ◌∙◌, arith}
use Rattle.std.specs.Prelude.{IsSome}
use Rattle.std.proofs.lemmas.Option.{option_and_then_some}
use Rattle.ame_term.specs.Tree.{Tree}
use Rattle.ame_term.specs.Frame.{Side, side_told}
use Rattle.ame_term.specs.Context.{focus, fill}
use Rattle.ame_term.specs.Maps.{at, change}
use Rattle.ame_term.specs.State.{State, after, run, activated, closed, closed_value, at_unprotected}
use Rattle.ame_term.specs.declared.semantics.StepKind.{StepKind}
use Rattle.ame_term.specs.declared.semantics.Label.{Label}
use Rattle.ame_journal.specs.declared.entry.Entry.{Entry}
use Rattle.ame_journal.specs.declared.entry.EntryKind.{EntryKind}
use Rattle.ame_journal.specs.Labels.{AreSteps, fragment_labels, free_labels, Unfolds}
use Rattle.ame_journal.specs.Replayed.{Replayed, has_such, is_inside}
use Rattle.ame_journal.specs.Replay.{replay_entry}
use Rattle.ame_journal.specs.Totals.{is_note}
use Rattle.ame_journal.proofs.LabelLemmas.{unfold-entry}
use Rattle.ame_journal.proofs.ReachedLemmas.{IsCalm}
use Rattle.ame_journal.proofs.StepLemmas.{activated-resting}
use Rattle.ame_journal.proofs.UnfoldLemmas.{run-last}
use Rattle.ame_machine.specs.Run.Local.{LocalState, begun_with}
use Rattle.ame_machine.specs.Run.Told.{TellsRun}
use Rattle.ame_machine.proofs.Run.LabelRunLemmas.{fragment_run, free_labels_run}
use Rattle.ame_weak.proofs.HeldSteps.{if-gave, map-gave}
use Rattle.ame_calculus.specs.Independent.{IsOfRun}

abbrev HasRun : Replayed → Entry → Type 0
HasRun r e = (p : LocalState) × IsOfRun r e p

-- a member that is found
has-member : {X : Type 0} (o : Option Tree) (f : Tree → Option X) (x : X) → option_and_then f o ≡ Some x → (term : Tree) × (o ≡ Some term)
has-member o f x e = option_and_then_some f o x e (λ term is e1. (term, is))

begun-member : (s a : State) (i : ℕ) → after s (Label.Activate i) ≡ Some a → (term : Tree) × (at s.members i ≡ Some term)
unfolding after
begun-member s a i e =
    has-member (at s.members i) (λ term. if at_unprotected (focus term) then None else Some (record s { active = Some i })) a (if-gave (is_none s.active) (activated i s) a e).1

such-member : (o : Option Tree) → has_such (λ term. at_unprotected (focus term)) o ≡ true → (term : Tree) × (o ≡ Some term)
such-member None e = cc
such-member (Some term) e = (term, refl)

-- a member that closes stands at a value under `unprotected`
closing : (t u : State) (i : ℕ) (term : Tree) → at t.members i ≡ Some term → after t (Label.Close i) ≡ Some u → IsSome (closed_value (focus term))
unfolding after
closing t u i term member e =
    let made = (if-gave (is_none t.active) (closed i t) u e).1 in
    let here : option_map (λ v. record t { members = change t.members i (fill term (Tree.Held v)) }) (closed_value (focus term)) ≡ Some u =
    sym (ap (option_and_then (λ (z : Tree). option_map (λ v. record t { members = change t.members i (fill z (Tree.Held v)) }) (closed_value (focus z)))) member) ∙ made in
    let m = map-gave (λ v. record t { members = change t.members i (fill term (Tree.Held v)) }) (closed_value (focus term)) u here in
    ap is_some m.1

module _ (r : Replayed) (calm : IsCalm r) (e : Entry) where
  -- a fragment
  of-fragment : (kinds : List StepKind) (n : ℕ) (fresh : List ℕ) (t : State) → AreSteps kinds n fresh None → run r.state (fragment_labels e.number kinds) ≡ Some t
      → e.steps ≡ n → e.fresh ≡ fresh → e.answer ≡ None → HasRun r e
  of-fragment kinds n fresh t are runs n_is fresh_is answer_is =
      option_and_then_some _ (after r.state (Label.Activate e.number)) t runs (λ a begins rest.
      let m = begun-member r.state a e.number begins in
      let x = (fragment_run r.state e.number m.0 kinds t m.1 are.answered runs).run_to in (
        x.place,
        record {
          side = Side.Protected;
          steps = length kinds;
          tells = record {
            idle = calm.idle;
            stands = ap side_told (activated-resting e.number r.state a begins);
            term = m.0;
            member = m.1;
            inputs = x.inputs;
            ran = x.ran;
            agrees = x.agrees;
            fresh = fresh_is ∙ sym are.made ∙ sym x.made;
            answer = answer_is ∙ sym x.told;
          };
          count = inl (n_is ∙ sym are.count);
        },
      ))

  -- steps under `unprotected`
  free-run : (kinds : List StepKind) (answer : Option ℤ) (t : State) (n : ℕ) (fresh : List ℕ) (inside : is_inside r e.number ≡ true) → AreSteps kinds n fresh answer
      → run r.state (free_labels e.number kinds) ≡ Some t → e.fresh ≡ fresh → e.answer ≡ answer
      → (p : LocalState) × ((e.steps ≡ length kinds) → IsOfRun r e p) × (at t.members e.number ≡ Some p.term)
      × ((e.kind ≡ EntryKind.Free) → (e.steps ≡ length kinds + 1) → (e.answer ≡ None) → IsSome (closed_value (focus p.term)) → IsOfRun r e p)
  free-run kinds answer t n fresh inside are runs fresh_is answer_is =
      let stands = calm.standing e.number inside in
      let m = such-member (at r.state.members e.number) stands in
      let x = (free_labels_run r.state e.number m.0 kinds answer t calm.idle m.1 are.answered runs).run_to in
      let tells : TellsRun r e Side.Unprotected (length kinds) x.place = record {
        idle = calm.idle;
        stands = ap side_told stands;
        term = m.0;
        member = m.1;
        inputs = x.inputs;
        ran = x.ran;
        agrees = x.agrees;
        fresh = fresh_is ∙ sym are.made ∙ sym x.made;
        answer = answer_is ∙ sym x.told;
      } in (
        x.place,
        λ count. record { side = Side.Unprotected; steps = length kinds; tells = tells; count = inl count },
        x.member,
        λ kind count quiet some. record { side = Side.Unprotected; steps = length kinds; tells = tells; count = inr (kind, count, quiet, some) },
      )

  has-run : (kind : EntryKind) (n : ℕ) (fresh : List ℕ) (answer : Option ℤ) (labels : List Label) (s : Replayed) → Unfolds r e.number kind n fresh answer labels s
      → is_note kind ≡ false → e.kind ≡ kind → e.steps ≡ n → e.fresh ≡ fresh → e.answer ≡ answer → HasRun r e
  has-run _ _ _ _ _ _ (Unfolds.leaves kinds n fresh s outside are runs) plain k_is n_is fresh_is answer_is =
      let cut = run-last r.state s (fragment_labels e.number kinds) Label.Leave runs in
      of-fragment kinds n fresh cut.0 are cut.1 n_is fresh_is answer_is
  has-run _ _ _ _ _ _ (Unfolds.ends kinds n fresh s outside are runs) plain k_is n_is fresh_is answer_is =
      let cut = run-last r.state s (fragment_labels e.number kinds) Label.End runs in
      of-fragment kinds n fresh cut.0 are cut.1 n_is fresh_is answer_is
  has-run _ _ _ _ _ _ (Unfolds.arrives outside is) plain k_is n_is fresh_is answer_is =
      let m = such-member (at r.state.members e.number) is in (
        begun_with m.0 [],
        record {
          side = Side.Unprotected;
          steps = 0;
          tells = record {
            idle = calm.idle;
            stands = ap side_told is;
            term = m.0;
            member = m.1;
            inputs = [];
            ran = refl;
            agrees = record { seen = tt; own = tt; made = tt };
            fresh = fresh_is;
            answer = answer_is;
          };
          count = inl n_is;
        },
      )
  has-run _ _ _ _ _ _ (Unfolds.goes_on kinds n fresh answer s inside are runs) plain k_is n_is fresh_is answer_is =
      let x = free-run kinds answer s (suc n) fresh inside are runs fresh_is answer_is in
      (x.0, x.1 (n_is ∙ sym are.count))
  has-run _ _ _ _ _ _ (Unfolds.closes kinds n fresh s inside are runs) plain k_is n_is fresh_is answer_is =
      let cut = run-last r.state s (free_labels e.number kinds) (Label.Close e.number) runs in
      let x = free-run kinds None cut.0 n fresh inside are cut.1 fresh_is answer_is in
      let count : length kinds ≡ n = are.count in
      let steps : e.steps ≡ suc n = n_is in
      (x.0, x.3 k_is (omega arith) answer_is (closing cut.0 s e.number x.0.term x.2 cut.2))
  has-run _ _ _ _ _ _ (Unfolds.fails kinds n fresh s are runs fails) plain k_is n_is fresh_is answer_is = cc
  has-run _ _ _ _ _ _ (Unfolds.is_cut kinds n fresh s are runs) plain k_is n_is fresh_is answer_is = cc
  has-run _ _ _ _ _ _ (Unfolds.grows kinds n fresh s are runs tall) plain k_is n_is fresh_is answer_is = cc

  pub of-run : (s : Replayed) → replay_entry r e ≡ Some s → is_note e.kind ≡ false → (p : LocalState) × IsOfRun r e p
  of-run s replayed plain = let u = unfold-entry r e s replayed in has-run e.kind e.steps e.fresh e.answer u.0 s u.1 plain refl refl refl refl
