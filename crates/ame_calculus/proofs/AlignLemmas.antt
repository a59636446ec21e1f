-- A state and the same state renamed, and a label of each that is the same but for its location.
use Rattle.std.proofs.Common.{◌≡◌, ℕ, true, Option, Some, None, is_some, option_map, if◌then◌else◌, refl, sym, ap, ◌∙◌, subst}
use Rattle.std.proofs.lemmas.Option.{option_and_then_some}
use Rattle.ame_term.specs.Tree.{Val, Tree}
use Rattle.ame_term.specs.Frame.{Side}
use Rattle.ame_term.specs.Act.{Act, StepName, makes}
use Rattle.ame_term.specs.Maps.{at, put}
use Rattle.ame_term.specs.Signature.{Signature}
use Rattle.ame_term.specs.State.{State, after, performed, reduce}
use Rattle.ame_term.specs.declared.semantics.StepKind.{StepKind}
use Rattle.ame_term.specs.declared.semantics.Label.{Label}
use Rattle.ame_term.specs.declared.types.Loc.{Loc}
use Rattle.ame_laws.specs.Orderly.{IsOrderly}
use Rattle.ame_laws.specs.Typed.StoreTyping.{StoreTyping}
use Rattle.ame_laws.specs.Typed.TypedState.{IsTyped}
use Rattle.ame_journal.specs.Replay.{making_name}
use Rattle.ame_journal.proofs.StepLemmas.{IsReduced, reduced, named}
use Rattle.ame_calculus.specs.Renamed.{renamed_value, renamed, AreInverse, renamed_kind, renamed_label, IsRenamed}
use Rattle.ame_calculus.proofs.AgreeLemmas.{renamed-itself, value-itself}
use Rattle.ame_calculus.proofs.RenamedRuns.{label-too}
use Rattle.ame_calculus.proofs.SwapLemmas.{swap, swap-first, swapped-inverse, swapped-renames}

-- the second state is the first renamed
pub record IsAligned (v w : State) : Type 0 where
  pub to : ℕ → ℕ
  pub from : ℕ → ℕ
  pub inverse : AreInverse to from
  pub renames : IsRenamed to v w

-- no location is renamed

value_option : (o : Option Val) → o ≡ option_map (renamed_value (λ l. l)) o
value_option None = refl
value_option (Some v) = ap Some (sym (value-itself v))

term_option : (o : Option Tree) → o ≡ option_map (renamed (λ l. l)) o
term_option None = refl
term_option (Some t) = ap Some (sym (renamed-itself t))

pub itself : (s : State) → IsRenamed (λ l. l) s s
itself s = record { store = λ l. value_option (at s.store l); members = λ i. term_option (at s.members i); active = refl; output = refl; next = refl }

pub no_change : AreInverse (λ l. l) (λ l. l)
no_change = record { back = λ l. refl; forth = λ l. refl }

-- a step that makes a location makes one that isn't there
alloc-unstored : (l : Loc) (act : Act) (s : State) (made : Tree × State) → making_name act ≡ Some StepName.Alloc → performed (StepKind.Alloc l) act s ≡ Some made → at s.store l.0 ≡ None
alloc-unstored l (Act.Allocates sort number v) s made name e = by (at s.store l.0) e
  where
    by : (o : Option Val) → (if is_some o then None else Some (Tree.Held (Val.Loc l.0), record s { store = put s.store l.0 v })) ≡ Some made → o ≡ None
    by None e1 = refl
    by (Some x) e1 = cc
alloc-unstored l _ s made name e = cc

pub reduced-unstored : (side : Side) (kind : StepKind) (l : Loc) (i : ℕ) (s u : State) → kind ≡ StepKind.Alloc l → IsReduced side kind i s u → at s.store l.0 ≡ None
reduced-unstored side kind l i s u is r =
    let named_so : making_name r.act ≡ Some StepName.Alloc = named side (StepKind.Alloc l) r.act (subst (λ (z : StepKind). makes side z r.act ≡ true) is r.can) in
    alloc-unstored l r.act s r.result named_so (ap (λ (z : StepKind). performed z r.act s) (sym is) ∙ r.made)

pub step-unstored : (kind : StepKind) (l : Loc) (s u : State) → kind ≡ StepKind.Alloc l → after s (Label.Step kind) ≡ Some u → at s.store l.0 ≡ None
unfolding after
step-unstored kind l s u is e =
    option_and_then_some (λ (i : ℕ). reduce Side.Protected kind i s) s.active u e (λ i active e1. reduced-unstored Side.Protected kind l i s u is (reduced Side.Protected kind i s u e1))

one-state : (o : Option State) (v w : State) → o ≡ Some v → o ≡ Some w → v ≡ w
one-state o v w p q = let e : ◌≡◌ {A = Option State} (Some v) (Some w) = sym p ∙ q in cc

-- One label in a state and in the same state renamed

module _ (signature : Signature) (cells : StoreTyping) (a b : State) (typed : IsTyped signature cells a) (ordered : IsOrderly a) (others : IsOrderly b) where
  pub same-label : (f g : ℕ → ℕ) → AreInverse f g → IsRenamed f a b → (label other : Label) (v w : State) → renamed_label f label ≡ other → after a label ≡ Some v → after b other ≡ Some w → IsAligned v w
  same-label f g inverse r label other v w same first second =
      let x = label-too f g inverse a b v r ordered.members_rise others.members_rise label first in
      let there : x.behind ≡ w = one-state (after b other) x.behind w (ap (after b) (sym same) ∙ x.leads) second in
      record { to = f; from = g; inverse = inverse; renames = subst (λ (z : State). IsRenamed f v z) there x.renames }

  module _ (f g : ℕ → ℕ) (inverse : AreInverse f g) (r : IsRenamed f a b) where
    -- both make a location, which isn't there
    pub both-alloc : (form : StepKind → Label) → ((h : ℕ → ℕ) (k : StepKind) → renamed_label h (form k) ≡ form (renamed_kind h k)) → (l m : Loc) (v w : State) → at a.store l.0 ≡ None → at b.store m.0 ≡ None
        → after a (form (StepKind.Alloc l)) ≡ Some v → after b (form (StepKind.Alloc m)) ≡ Some w → IsAligned v w
    both-alloc form forms l m v w free unused first second =
        let to = λ (n : ℕ). swap (f l.0) m.0 (f n) in
        let from = λ (n : ℕ). g (swap (f l.0) m.0 n) in
        same-label to from (swapped-inverse f g inverse (f l.0) m.0) (swapped-renames signature cells f g inverse a b typed r l.0 m.0 free unused) (form (StepKind.Alloc l)) (form (StepKind.Alloc m)) v w
        (forms to (StepKind.Alloc l) ∙ ap (λ (n : ℕ). form (StepKind.Alloc (record { 0 = n }))) (swap-first (f l.0) m.0)) first second
