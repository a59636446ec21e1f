-- The part of a supply that a step takes.
use Rattle.std.proofs.Common.{◌≡◌, ℕ, ◌⊎◌, inl, inr, ℤ, Bool, true, false, List, [], ◌∷◌, ◌++◌, Option, Some, None, option_and_then, refl, ap, ◌∙◌, subst}
use Rattle.std.proofs.lemmas.Option.{option_and_then_some}
use Rattle.ame_term.specs.Act.{Act, StepName, step_name, device_answer}
use Rattle.ame_term.specs.declared.semantics.StepKind.{StepKind}
use Rattle.ame_journal.specs.Labels.{fresh_of}
use Rattle.ame_journal.specs.Replay.{Supply, locations, step_by_name, making_name, next_kind}

-- It takes its fresh location and its answer, which no step but the last one has.
pub record Taken (last : Bool) (fresh : List ℕ) (answer : Option ℤ) (kind : StepKind) (rest : Supply) : Type 0 where
  pub used : fresh ≡ fresh_of kind ++ rest.fresh
  pub kept : ((device_answer kind ≡ None) × (rest.answer ≡ answer)) ⊎ ((last ≡ true) × (answer ≡ device_answer kind) × (rest.answer ≡ None))

taken_is : (last : Bool) (fresh : List ℕ) (answer : Option ℤ) (p q : StepKind × Supply) → Some p ≡ Some q → Taken last fresh answer p.0 p.1 → Taken last fresh answer q.0 q.1
taken_is last fresh answer p q e t = let same : p ≡ q = cc in subst (λ (k : StepKind × Supply). Taken last fresh answer k.0 k.1) same t

name-taken : (name : StepName) (last : Bool) (fresh : List ℕ) (answer : Option ℤ) (q : StepKind × Supply) → step_by_name name last fresh answer ≡ Some q →
    Taken last fresh answer q.0 q.1
name-taken StepName.Alloc last [] answer q e = cc
name-taken StepName.Alloc last (l ∷ fresh) answer q e = taken_is last (l ∷ fresh) answer _ q e (record { used = refl; kept = inl (refl, refl) })
name-taken StepName.Device true fresh (Some a) q e = taken_is true fresh (Some a) _ q e (record { used = refl; kept = inr (refl, refl, refl) })
name-taken StepName.Device true fresh None q e = cc
name-taken StepName.Device false fresh answer q e = cc
name-taken _ last fresh answer q e = taken_is last fresh answer _ q e (record { used = refl; kept = inl (refl, refl) })

pub taken : (last : Bool) (act : Act) (fresh : List ℕ) (answer : Option ℤ) (q : StepKind × Supply) → next_kind last act fresh answer ≡ Some q → Taken last fresh answer q.0 q.1
taken last act fresh answer q e = option_and_then_some _ _ _ e (λ name is e1. name-taken name last fresh answer q e1)

-- without an answer, none is left
pub none_left : (last : Bool) (act : Act) (fresh : List ℕ) (q : StepKind × Supply) → next_kind last act fresh None ≡ Some q → q.1 ≡ locations q.1.fresh
none_left last act fresh q e = ap (λ answer. record { fresh = q.1.fresh; answer = answer }) none
  where
    none : q.1.answer ≡ None
    none = elim (taken last act fresh None q e).kept [ inl k ↦ k.1 | inr k ↦ k.2 ]

-- and it is the same whether the step is the last one or not
name-anywhere : (name : StepName) (last other : Bool) (fresh : List ℕ) → step_by_name name last fresh None ≡ step_by_name name other fresh None
name-anywhere StepName.Alloc last other [] = refl
name-anywhere StepName.Alloc last other (l ∷ fresh) = refl
name-anywhere StepName.Device true true fresh = refl
name-anywhere StepName.Device true false fresh = refl
name-anywhere StepName.Device false true fresh = refl
name-anywhere StepName.Device false false fresh = refl
name-anywhere _ last other fresh = refl

pub anywhere : (last other : Bool) (act : Act) (fresh : List ℕ) → next_kind last act fresh None ≡ next_kind other act fresh None
anywhere last other act fresh = by (making_name act)
  where
    by : (o : Option StepName) → option_and_then (λ name. step_by_name name last fresh None) o ≡ option_and_then (λ name. step_by_name name other fresh None) o
    by None = refl
    by (Some name) = name-anywhere name last other fresh

-- a step that calls no device takes its locations from the beginning of a supply
name-more : (last : Bool) (kind : StepKind) (xs : List ℕ) (answer : Option ℤ) → device_answer kind ≡ None →
    step_by_name (step_name kind) last (fresh_of kind ++ xs) answer ≡ Some (kind, record { fresh = xs; answer = answer })
name-more last StepKind.Local xs answer none = refl
name-more last (StepKind.Device a) xs answer none = cc
name-more last _ xs answer none = refl

-- the last step uses up what is left
name-last : (kind : StepKind) → step_by_name (step_name kind) true (fresh_of kind ++ []) (device_answer kind) ≡ Some (kind, locations [])
name-last StepKind.Local = refl
name-last _ = refl

module _ (kind : StepKind) (act : Act) (named : making_name act ≡ Some (step_name kind)) where
  pub takes-more : (last : Bool) (xs : List ℕ) (answer : Option ℤ) → device_answer kind ≡ None →
      next_kind last act (fresh_of kind ++ xs) answer ≡ Some (kind, record { fresh = xs; answer = answer })
  takes-more last xs answer none = ap (λ o. option_and_then (λ name. step_by_name name last (fresh_of kind ++ xs) answer) o) named ∙ name-more last kind xs answer none

  pub takes-last : next_kind true act (fresh_of kind ++ []) (device_answer kind) ≡ Some (kind, locations [])
  takes-last = ap (λ o. option_and_then (λ name. step_by_name name true (fresh_of kind ++ []) (device_answer kind)) o) named ∙ name-last kind
