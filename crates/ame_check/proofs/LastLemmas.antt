-- The last step under `unprotected`, and what it leaves of an answer.
use Rattle.std.proofs.Common.{◌≡◌, ℕ, ℤ, Bool, true, false, List, [], ◌∷◌, Option, Some, None, refl, sym, ap, ◌∙◌, subst, if◌then◌else◌, nat_lt}
use Rattle.std.specs.Option.{option_and_then}
use Rattle.std.proofs.lemmas.Option.{option_and_then_some}
use Rattle.ame_term.specs.Tree.{Tree}
use Rattle.ame_term.specs.Frame.{Side, side_told}
use Rattle.ame_term.specs.Context.{Focus}
use Rattle.ame_term.specs.Act.{Act, act_of, StepName}
use Rattle.ame_term.specs.Height.{max_height}
use Rattle.ame_term.specs.State.{State, after, closed_value}
use Rattle.ame_term.specs.declared.semantics.StepKind.{StepKind}
use Rattle.ame_term.specs.declared.semantics.Label.{Label}
use Rattle.ame_journal.specs.Replayed.{value_height}
use Rattle.ame_journal.specs.Replay.{Supply, steps, is_nothing, is_used, redex_act, member_act, making_name, next_kind, step_by_name}
use Rattle.ame_machine.specs.Need.{Need, need_at, need_of_focus, need_told}
use Rattle.ame_machine.specs.declared.wants.Wants.{Wants}
use Rattle.ame_machine.specs.declared.wants.Wants.TheVariants as wants

-- If the last step leaves something, there is none

module _ (label : StepKind → Label) (i : ℕ) (t : State) where
  spent : (o : Option State) (supply : Supply) → is_used supply ≡ false → option_and_then (λ u. steps label i 0 supply u) o ≡ None
  spent None supply e = refl
  spent (Some u) supply e = ap (λ (b : Bool). if b then Some u else None) e

  leaves-some : (o : Option (StepKind × Supply)) → ((q : StepKind × Supply) → o ≡ Some q → is_used q.1 ≡ false)
      → option_and_then (λ q. option_and_then (λ u. steps label i 0 q.1 u) (after t (label q.0))) o ≡ None
  leaves-some None some = refl
  leaves-some (Some q) some = spent (after t (label q.0)) q.1 (some q refl)

  by-act : (fresh : List ℕ) (answer : Option ℤ) (o : Option Act) → ((act : Act) (q : StepKind × Supply) → o ≡ Some act → next_kind true act fresh answer ≡ Some q → is_used q.1 ≡ false)
      → option_and_then (λ act. option_and_then (λ q. option_and_then (λ u. steps label i 0 q.1 u) (after t (label q.0))) (next_kind true act fresh answer)) o ≡ None
  by-act fresh answer None some = refl
  by-act fresh answer (Some act) some = leaves-some (next_kind true act fresh answer) (λ q e. some act q refl e)

  no-last : (fresh : List ℕ) (answer : Option ℤ) → ((act : Act) (q : StepKind × Supply) → member_act i t ≡ Some act → next_kind true act fresh answer ≡ Some q → is_used q.1 ≡ false)
      → steps label i 1 (record { fresh = fresh; answer = answer }) t ≡ None
  no-last fresh answer some = by-act fresh answer (member_act i t) some

  -- an answer that the last step doesn't use

  kept-is : (a : ℤ) (p q : StepKind × Supply) → Some p ≡ Some q → p.1.answer ≡ Some a → q.1.answer ≡ Some a
  kept-is a p q e is = let same : p ≡ q = cc in subst (λ (k : StepKind × Supply). k.1.answer ≡ Some a) same is

  keeps-answer : (name : StepName) (fresh : List ℕ) (a : ℤ) (q : StepKind × Supply) → (name ≡ StepName.Device → ⊥) → step_by_name name true fresh (Some a) ≡ Some q → q.1.answer ≡ Some a
  keeps-answer StepName.Alloc [] a q apart e = cc
  keeps-answer StepName.Alloc (l ∷ fresh) a q apart e = kept-is a _ q e refl
  keeps-answer StepName.Device fresh a q apart e = absurd (apart refl)
  keeps-answer _ fresh a q apart e = kept-is a _ q e refl

  something : (fresh : List ℕ) (o : Option ℤ) (a : ℤ) → o ≡ Some a → is_nothing fresh o ≡ false
  something [] None a e = cc
  something [] (Some b) a e = refl
  something (l ∷ fresh) None a e = refl
  something (l ∷ fresh) (Some b) a e = refl

  pub no-answer : (fresh : List ℕ) (a : ℤ) → ((act : Act) → member_act i t ≡ Some act → making_name act ≡ Some StepName.Device → ⊥)
      → steps label i 1 (record { fresh = fresh; answer = Some a }) t ≡ None
  no-answer fresh a apart = no-last fresh (Some a) (λ act q is e.
      option_and_then_some _ _ _ e (λ name named made.
      something q.1.fresh q.1.answer a (keeps-answer name fresh a q (λ device. apart act is (named ∙ ap (λ (n : StepName). Some n) device)) made)))

  -- a location that a call leaves

  call-leaves : (l : ℕ) (more : List ℕ) (a : ℤ) (q : StepKind × Supply) → step_by_name StepName.Device true (l ∷ more) (Some a) ≡ Some q → is_used q.1 ≡ false
  call-leaves l more a q e =
      let p : StepKind × Supply = (StepKind.Device a, record { fresh = l ∷ more; answer = None }) in
      let same : p ≡ q = cc in subst (λ (k : StepKind × Supply). is_used k.1 ≡ false) same refl

  pub no-location : (l : ℕ) (more : List ℕ) (a : ℤ) (device : ℕ) (n : ℤ) → member_act i t ≡ Some (Act.Calls device n)
      → steps label i 1 (record { fresh = l ∷ more; answer = Some a }) t ≡ None
  no-location l more a device n calls = no-last (l ∷ more) (Some a) (λ act q is e.
      let both : Some (Act.Calls device n) ≡ Some act = sym calls ∙ is in
      let one : Act.Calls device n ≡ act = cc in
      call-leaves l more a q (ap (λ (z : Act). next_kind true z (l ∷ more) (Some a)) one ∙ e))

-- Consequences of a want under `unprotected`

untold-stuck : (want : Wants) → need_told want ≡ Need.Stuck → ⊥
untold-stuck wants.Done e = cc
untold-stuck _ e = cc

tall-is-told : (want : Wants) → need_told want ≡ Need.Tall → want ≡ wants.Tall
tall-is-told wants.Tall e = refl
tall-is-told _ e = cc

close-is-told : (want : Wants) → need_told want ≡ Need.Close → want ≡ wants.Close
close-is-told wants.Close e = refl
close-is-told _ e = cc

device-is-told : (want : Wants) (device : ℕ) (n : ℤ) → need_told want ≡ Need.Device device n → ((k : ℕ) (m : ℤ) → want ≡ wants.Device k m → ⊥) → ⊥
device-is-told (wants.Device k m) device n e apart = apart k m refl
device-is-told wants.Done device n e apart = cc
device-is-told _ device n e apart = cc

module _ (want : Wants) (tall : want ≡ wants.Tall → ⊥) (device : (k : ℕ) (n : ℤ) → want ≡ wants.Device k n → ⊥) where
  act-apart : (act : Act) → need_told want ≡ need_at Side.Unprotected act → making_name act ≡ Some StepName.Device → ⊥
  act-apart (Act.Calls k n) e named = device-is-told want k n e device
  act-apart (Act.Becomes term) e named = cc
  act-apart _ e named = cc

  low-apart : (redex : Tree) (b : Bool) → need_told want ≡ (if b then Need.Tall else need_at Side.Unprotected (act_of redex)) → making_name (act_of redex) ≡ Some StepName.Device → ⊥
  low-apart redex true e named = tall (tall-is-told want e)
  low-apart redex false e named = act-apart (act_of redex) e named

  -- the next act is no call of a device
  pub calls-none : (f : Focus) → need_told want ≡ need_of_focus true f → (act : Act) → redex_act f ≡ Some act → making_name act ≡ Some StepName.Device → ⊥
  unfolding act_of
  calls-none (Focus.AtValue v) e act is named = cc
  calls-none (Focus.AtRedex Side.Unprotected redex) e act is named =
      let same : act_of redex ≡ act = cc in
      low-apart redex (nat_lt max_height (value_height redex)) e (ap making_name same ∙ named)
  calls-none (Focus.AtRedex Side.Protected (Tree.Unprotected (Tree.Held v))) e act is named =
      let same : Act.Closes v ≡ act = cc in
      let clash : None ≡ Some StepName.Device = ap making_name same ∙ named in
      cc
  calls-none (Focus.AtRedex Side.Protected _) e act is named = untold-stuck want e

-- a machine that doesn't want to close can't
pub closes-none : (want : Wants) → (want ≡ wants.Close → ⊥) → (f : Focus) → need_told want ≡ need_of_focus true f → closed_value f ≡ None
closes-none want apart (Focus.AtRedex Side.Protected (Tree.Unprotected (Tree.Held v))) e = absurd (apart (close-is-told want e))
closes-none want apart _ e = refl

pub told-inside : (b : Bool) → side_told b ≡ Side.Unprotected → b ≡ true
told-inside true e = refl
told-inside false e = absurd (cc)
