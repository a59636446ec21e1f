-- The calls that devices hear along the labels of a run.
use Rattle.std.proofs.Common.{◌≡◌, ℕ, inl, inr, List, [], ◌∷◌, ◌++◌, Option, Some, None, option_and_then, append_assoc, append-nil, refl, sym, ap, ◌∙◌, subst}
use Rattle.std.specs.Prelude.{ℤ}
use Rattle.std.proofs.lemmas.Option.{option_and_then_some}
use Rattle.ame_term.specs.Tree.{Typ, Tree}
use Rattle.ame_term.specs.Signature.{listed}
use Rattle.ame_term.specs.Context.{focus}
use Rattle.ame_term.specs.Act.{Act, act_of}
use Rattle.ame_term.specs.Maps.{at}
use Rattle.ame_term.specs.SourceTerm.{IsSourceTerm}
use Rattle.ame_term.specs.Numbered.{IsNumbered}
use Rattle.ame_term.specs.State.{State}
use Rattle.ame_term.specs.Typing.{Accepts}
use Rattle.ame_term.specs.declared.semantics.Label.{Label}
use Rattle.ame_device.specs.declared.told.Told.{Told}
use Rattle.ame_journal.specs.Replay.{redex_act, member_act}
use Rattle.ame_journal.specs.Calls.{call_at, label_call, of_next, device_calls}
use Rattle.ame_strong.specs.Pool.{pool}
use Rattle.ame_strong.specs.Told.{TellsOfMember}
use Rattle.ame_strong.specs.Next.{next_of}
use Rattle.ame_strong.specs.declared.next_label.Next.{Next}
use Rattle.ame_strong.specs.declared.next_label.Next.TheVariants as next
use Rattle.ame_strong.proofs.ToldLemmas.{tells}
use Rattle.ame_strong.proofs.PoolLemmas.{at-pool_found}
use Rattle.ame_weak.specs.Weak.{Weak, weak_start, weak_after, weak_run, weak_calls}
use Rattle.ame_weak.specs.Straight.{straight}
use Rattle.ame_weak.proofs.StraightLemmas.{weak_calls_are_told}
use Rattle.ame_weak.proofs.TypedRuns.{weak_runs_are_typed}
use Rattle.ame_shell.specs.Ends.{told_at}
use Rattle.ame_shell.specs.Heard.{HaveHeard, NoneFailed, OneFailed}
use Rattle.ame_shell.proofs.ToldLemmas.{called-faults, fail-count, failed-heard, failed-kind, failed-one}
use Rattle.ame_shell.proofs.HeardLemmas.{heard-silent, heard-failed, heard-call}
use Rattle.ame_runner.specs.Freeing.{IsSilent, FailsFor, HasCalledFor}
use Rattle.ame_runner.specs.Run.{IsOwn}
use Rattle.ame_runner.proofs.PlayLemmas.{run-more}

pub own-silent : (label : Label) → IsOwn label → IsSilent label
own-silent (Label.Activate i) own = λ k s. refl
own-silent (Label.Step kind) own = λ k s. refl
own-silent Label.Leave own = λ k s. refl
own-silent Label.End own = λ k s. refl
own-silent (Label.Free i kind) own = absurd own
own-silent (Label.Close i) own = absurd own

calls-more : (k : ℕ) (w v u : Weak) (xs : List Label) (y : Label) → weak_run w xs ≡ Some v → weak_after v y ≡ Some u
    → weak_calls k w (xs ++ y ∷ []) ≡ weak_calls k w xs ++ label_call k v.state y
calls-more k w v u [] y e f =
    let same : w ≡ v = cc in
    ap (λ (o : Option Weak). label_call k w.state y ++ of_next (λ z. weak_calls k z []) o) (ap (λ (z : Weak). weak_after z y) same ∙ f)
    ∙ append-nil (label_call k w.state y) ∙ ap (λ (z : Weak). label_call k z.state y) same
calls-more k w v u (x ∷ xs) y e f =
    option_and_then_some _ _ _ e (λ a first rest.
    ap (λ (o : Option Weak). label_call k w.state x ++ of_next (λ z. weak_calls k z (xs ++ y ∷ [])) o) first
    ∙ ap (λ cs. label_call k w.state x ++ cs) (calls-more k a v u xs y rest f)
    ∙ sym (append_assoc (label_call k w.state x) (weak_calls k a xs) (label_call k v.state y))
    ∙ ap (λ (o : Option Weak). (label_call k w.state x ++ of_next (λ z. weak_calls k z xs) o) ++ label_call k v.state y) (sym first))

none-else : {X : Type 0} (o : Option X) (P : Type 0) → (o ≡ None → P) → ((x : X) → o ≡ Some x → P) → P
none-else None P none some = none refl
none-else (Some x) P none some = some x refl

-- a member whose next step is the call of a device stands at that call
call-act : (s : State) (i device : ℕ) (argument : ℤ) → TellsOfMember s i (next_of s (Some i)) → next_of s (Some i) ≡ next.Device device argument
    → member_act i s ≡ Some (Act.Calls device argument)
unfolding act_of
call-act s i device argument told stands =
    none-else (at (pool s) i) (member_act i s ≡ Some (Act.Calls device argument))
    (λ none. let clash : ◌≡◌ {A = Next} (next.Device device argument) next.Nothing = sym stands ∙ told.absent.1 none in absurd (cc))
    (λ term is.
    let here = (told.present term is).calls device argument in
    ap (option_and_then (λ (t : Tree). redex_act (focus t))) (at-pool_found s i term is) ∙ ap redex_act (here.0 stands))

module _ (devices : ℕ) (places : List ℕ) (program : Tree) (refs : List Typ) (accepts : Accepts devices places program refs) (source : IsSourceTerm program) (numbered : IsNumbered 0 program) where
  module _ (labels : List Label) (w u : Weak) (label : Label) (leads : weak_run (weak_start program) labels ≡ Some w) (goes : weak_after w label ≡ Some u) where
    device-more : (k : ℕ) → device_calls k program (straight (labels ++ label ∷ [])) ≡ device_calls k program (straight labels) ++ label_call k w.state label
    device-more k =
        weak_calls_are_told devices places program refs accepts source numbered k (labels ++ label ∷ []) u (run-more (weak_start program) w u labels label leads goes)
        ∙ calls-more k (weak_start program) w u labels label leads goes
        ∙ ap (λ cs. cs ++ label_call k w.state label) (sym (weak_calls_are_told devices places program refs accepts source numbered k labels w leads))

    module _ (opened now : List Told) (h : HaveHeard program (straight labels) opened now) where
      -- a label that calls none
      pub heard-still : IsSilent label → HaveHeard program (straight (labels ++ label ∷ [])) opened now
      heard-still silent =
          heard-silent program [] opened (straight labels) (straight (labels ++ label ∷ [])) now
          (λ k. device-more k ∙ ap (λ cs. device_calls k program (straight labels) ++ cs) (silent k w.state) ∙ append-nil (device_calls k program (straight labels))) h

      -- a label by which a member goes on under `unprotected`
      pub heard-more : (i : ℕ) (after : List Told) → HasCalledFor w i now after label → HaveHeard program (straight (labels ++ label ∷ [])) opened after
      heard-more i after (inl is) = subst (HaveHeard program (straight (labels ++ label ∷ [])) opened) (sym is.1) (heard-still is.0)
      heard-more i after (inr is) =
          let c = is.1 in
          let typed = weak_runs_are_typed devices places program refs accepts source numbered labels w leads in
          let told = tells w.state (listed devices refs) typed.0 typed.1 (Some i) (next_of w.state (Some i)) refl in
          let act = call-act w.state i is.0 c.argument told c.stands in
          heard-call program [] opened (straight labels) (straight (labels ++ label ∷ [])) now after is.0 c.argument c.answer c.called
          (λ k. device-more k ∙ ap (λ cs. device_calls k program (straight labels) ++ cs)
          (ap (label_call k w.state) c.is ∙ ap (call_at k (Some c.answer)) act)) h

-- no device failed, if one answered
pub none-failed : (w : Weak) (i : ℕ) (before after : List Told) (label : Label) → HasCalledFor w i before after label → NoneFailed before after
none-failed w i before after label (inl is) = λ k. ap (λ (ts : List Told). (told_at ts k).faults) is.1
none-failed w i before after label (inr is) = called-faults before after is.0 is.1.argument is.1.answer is.1.called

-- a device failed
module _ (w : Weak) (i device : ℕ) (before after : List Told) (f : FailsFor w i device before after) where
  pub one-failed : OneFailed device before after
  one-failed = failed-one before after device f.argument f.called

  pub heard-fault : (program : Tree) (opened : List Told) (labels : List Label)
      → HaveHeard program (straight labels) opened before → HaveHeard program (straight labels) opened after
  heard-fault program opened labels h =
      heard-failed program [] opened (straight labels) before after (fail-count before after device f.argument f.called)
      (failed-heard before after device f.argument f.called) (failed-kind before after device f.argument f.called) h
