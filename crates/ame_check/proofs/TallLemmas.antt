-- Steps that pass no form that would become a value that is too high.
use Rattle.std.proofs.Common.{◌≡◌, ℕ, zero, suc, ◌+◌, ◌<◌, ◌==◌, ◌⊎◌, inl, inr, Bool, true, false, List, [], ◌∷◌, ◌++◌, append-nil, append_assoc, Some, None, refl, sym, ap, ◌∙◌, subst, arith, if◌then◌else◌}
use Rattle.std.specs.Option.{option_and_then}
use Rattle.std.proofs.lemmas.Option.{option_and_then_some}
use Rattle.ame_term.specs.Frame.{Side}
use Rattle.ame_term.specs.Act.{Act, StepName}
use Rattle.ame_term.specs.State.{State}
use Rattle.ame_term.specs.declared.semantics.StepKind.{StepKind}
use Rattle.ame_term.specs.declared.semantics.Label.{Label}
use Rattle.ame_laws.specs.Typed.StoreTyping.{StoreTyping}
use Rattle.ame_journal.specs.Replayed.{is_tall}
use Rattle.ame_journal.specs.Labels.{fresh_of}
use Rattle.ame_journal.specs.Replay.{Supply, steps, locations, is_nothing, next_kind, step_by_name}
use Rattle.ame_journal.proofs.SupplyLemmas.{taken, none_left}
use Rattle.ame_journal.proofs.ReplayLemmas.{steps-behind}
use Rattle.ame_machine.specs.Run.Local.{LocalState}
use Rattle.ame_check.specs.Walk.{label_by, begun_on, steps_on, StaysLow, IsStepping}
use Rattle.ame_term.specs.Signature.{Signature}

-- Steps and locations after those that they use

pub two-fronts : (a b c d : List ℕ) → a ++ b ≡ c ++ d → ((x : List ℕ) × (c ≡ a ++ x)) ⊎ ((x : List ℕ) × (a ≡ c ++ x))
two-fronts [] b c d e = inl (c, refl)
two-fronts (k ∷ a) b [] d e = inr (k ∷ a, refl)
two-fronts (k ∷ a) b (l ∷ c) d e =
    let head : k ≡ l = cc in
    let tail : a ++ b ≡ c ++ d = cc in
    by head (two-fronts a b c d tail)
  where
    by : k ≡ l → ((x : List ℕ) × (c ≡ a ++ x)) ⊎ ((x : List ℕ) × (a ≡ c ++ x)) → ((x : List ℕ) × (l ∷ c ≡ k ∷ a ++ x)) ⊎ ((x : List ℕ) × (k ∷ a ≡ l ∷ c ++ x))
    by same (inl (x, is)) = inl (x, ap (λ (z : ℕ). z ∷ c) (sym same) ∙ ap (λ (zs : List ℕ). k ∷ zs) is)
    by same (inr (x, is)) = inr (x, ap (λ (z : ℕ). z ∷ a) same ∙ ap (λ (zs : List ℕ). l ∷ zs) is)

-- a step without an answer takes the first location, whatever comes after it
front-is : (name : StepName) (other : Bool) (x : List ℕ) (p q : StepKind × Supply) → Some p ≡ Some q → step_by_name name other (fresh_of p.0 ++ x) None ≡ Some (p.0, locations x)
    → step_by_name name other (fresh_of q.0 ++ x) None ≡ Some (q.0, locations x)
front-is name other x p q e is = let same : p ≡ q = cc in subst (λ (k : StepKind × Supply). step_by_name name other (fresh_of k.0 ++ x) None ≡ Some (k.0, locations x)) same is

name-front : (name : StepName) (last other : Bool) (used x : List ℕ) (q : StepKind × Supply) → step_by_name name last used None ≡ Some q
    → step_by_name name other (fresh_of q.0 ++ x) None ≡ Some (q.0, locations x)
name-front StepName.Alloc last other [] x q e = cc
name-front StepName.Alloc last other (l ∷ used) x q e = front-is StepName.Alloc other x _ q e refl
name-front StepName.Device true other used x q e = cc
name-front StepName.Device false other used x q e = cc
name-front name last other used x q e = front-is name other x _ q e refl

kind-front : (last other : Bool) (act : Act) (used x : List ℕ) (q : StepKind × Supply) → next_kind last act used None ≡ Some q
    → next_kind other act (fresh_of q.0 ++ x) None ≡ Some (q.0, locations x)
kind-front last other act used x q e =
    option_and_then_some _ _ _ e (λ name is made.
    ap (option_and_then (λ (z : StepName). step_by_name z other (fresh_of q.0 ++ x) None)) is ∙ name-front name last other used x q made)

module _ (label : StepKind → Label) (i : ℕ) where
  -- where steps lead with all that they use, they can't be made with more
  pub steps-all : (n : ℕ) (used x : List ℕ) (s there : State) → steps label i n (locations used) s ≡ Some there
      → steps label i n (locations (used ++ x)) s ≡ (if is_nothing x None then Some there else None)
  steps-all zero [] x s there e = let same : s ≡ there = cc in ap (λ (z : State). if is_nothing x None then Some z else None) same
  steps-all zero (l ∷ used) x s there e = cc
  steps-all (suc n) used x s there e =
      option_and_then_some _ _ _ e (λ act is first.
      option_and_then_some _ _ _ first (λ next is_next second.
      option_and_then_some _ _ _ second (λ t legal third.
      let front = ap (λ (xs : List ℕ). xs ++ x) (taken (n == 0) act used None next is_next).used ∙ append_assoc (fresh_of next.0) next.1.fresh x in
      steps-behind label i n (locations (used ++ x)) s t act (next.0, locations (next.1.fresh ++ x)) is
      (ap (λ (xs : List ℕ). next_kind (n == 0) act xs None) front ∙ kind-front (n == 0) (n == 0) act used (next.1.fresh ++ x) next is_next) legal
      ∙ steps-all n next.1.fresh x t there (ap (λ (z : Supply). steps label i n z t) (sym (none_left (n == 0) act used next is_next)) ∙ third))))

  -- the state to which the first of some steps lead, and the others from there
  pub record AreSplit (n left : ℕ) (used : List ℕ) (s there : State) : Type 0 where
    pub first : List ℕ
    pub others : List ℕ
    pub are : used ≡ first ++ others
    pub between : State
    pub before : steps label i n (locations first) s ≡ Some between
    pub behind : steps label i left (locations others) between ≡ Some there

  pub steps-split : (n left : ℕ) (used : List ℕ) (s there : State) → steps label i (n + left) (locations used) s ≡ Some there → AreSplit n left used s there
  steps-split zero left used s there e = record { first = []; others = used; are = refl; between = s; before = refl; behind = (let none : zero + left ≡ left = omega arith in ap (λ (k : ℕ). steps label i k (locations used) s) (sym none) ∙ e) }
  steps-split (suc n) left used s there e =
      let count : suc n + left ≡ suc (n + left) = omega arith in
      option_and_then_some _ _ _ (ap (λ (k : ℕ). steps label i k (locations used) s) (sym count) ∙ e) (λ act is first.
      option_and_then_some _ _ _ first (λ next is_next second.
      option_and_then_some _ _ _ second (λ t legal third.
      let h = steps-split n left next.1.fresh t there (ap (λ (z : Supply). steps label i (n + left) z t) (sym (none_left (n + left == 0) act used next is_next)) ∙ third) in
      record {
        first = fresh_of next.0 ++ h.first;
        others = h.others;
        are =
            (taken (n + left == 0) act used None next is_next).used ∙ ap (λ (xs : List ℕ). fresh_of next.0 ++ xs) h.are
            ∙ sym (append_assoc (fresh_of next.0) h.first h.others);
        between = h.between;
        before =
            steps-behind label i n (locations (fresh_of next.0 ++ h.first)) s t act (next.0, locations h.first) is (kind-front (n + left == 0) (n == 0) act used h.first next is_next) legal
            ∙ h.before;
        behind = h.behind;
      })))

-- Walks

below-or-same : (m n : ℕ) → m < n + 1 → (m < n) ⊎ (m ≡ n)
below-or-same m n under = grind arith

module _ {types : StoreTyping} (signature : Signature) (s : State) (i : ℕ) (side : Side) (p : LocalState) (n : ℕ) (g : IsStepping signature types s i side p n) where
  from-here : (x : List ℕ) → steps_on side i n (p.fresh ++ x) None (begun_on side i s) ≡ (if is_nothing x None then Some g.now else None)
  from-here x =
      let none : n ≡ n + 0 = omega arith in
      ap (λ (k : ℕ). steps_on side i k (p.fresh ++ x) None (begun_on side i s)) none ∙ g.goes 0 x None

  -- as many steps use as many locations, and lead to its place
  pub same-there : (more used rest : List ℕ) (there : State) → p.fresh ++ more ≡ used ++ rest → steps_on side i n used None (begun_on side i s) ≡ Some there → (p.fresh ≡ used) × (g.now ≡ there)
  same-there more used rest there e leads = by (two-fronts p.fresh more used rest e)
    where
      exact : (a b : List ℕ) (t u : State) (x : List ℕ) → b ≡ a ++ x → (if is_nothing x None then Some t else None) ≡ Some u → (a ≡ b) × (t ≡ u)
      exact a b t u [] is e = (sym (is ∙ append-nil a), cc)
      exact a b t u (l ∷ x) is e = cc

      by : ((x : List ℕ) × (used ≡ p.fresh ++ x)) ⊎ ((x : List ℕ) × (p.fresh ≡ used ++ x)) → (p.fresh ≡ used) × (g.now ≡ there)
      by (inl (x, is)) = exact p.fresh used g.now there x is (sym (from-here x) ∙ ap (λ (xs : List ℕ). steps_on side i n xs None (begun_on side i s)) (sym is) ∙ leads)
      by (inr (x, is)) =
          let same = exact used p.fresh there g.now x is (sym (steps-all (label_by side i) i n used x (begun_on side i s) there leads)
          ∙ ap (λ (xs : List ℕ). steps_on side i n xs None (begun_on side i s)) (sym is ∙ sym (append-nil p.fresh)) ∙ from-here []) in
          (sym same.0, sym same.1)

  -- with one more step
  pub low-more : (is_tall side i g.now ≡ true → ⊥) → (more : List ℕ) → StaysLow side i (n + 1) (p.fresh ++ more) s
  low-more calm more c = by (below-or-same c.made n c.below)
    where
      by : (c.made < n) ⊎ (c.made ≡ n) → ⊥
      by (inl below) =
          g.low more (record { made = c.made; below = below; used = c.used; rest = c.rest; front = c.front; there = c.there; leads = c.leads; tall = c.tall })
      by (inr count) =
          calm (ap (is_tall side i) (same-there more c.used c.rest c.there c.front
          (ap (λ (k : ℕ). steps_on side i k c.used None (begun_on side i s)) (sym count) ∙ c.leads)).1 ∙ c.tall)
