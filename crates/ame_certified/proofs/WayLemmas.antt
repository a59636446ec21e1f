-- The steps of a fragment under way that are at no form that would become a value that is too high.
use Rattle.std.proofs.Common.{◌≡◌, ℕ, ◌+◌, ◌≤◌, ◌<◌, ◌==◌, ◌⊎◌, inl, inr, Bool, true, false, List, ◌++◌, append_assoc, Option, Some, None, if◌then◌else◌, sym, ap, ◌∙◌, subst, arith, eqb-true}
use Rattle.std.specs.Prelude.{◌||◌}
use Rattle.std.proofs.lemmas.Bool.{ltb-false, cases_lt}
use Rattle.ame_term.specs.Tree.{Val, Tree}
use Rattle.ame_term.specs.Frame.{Side, same_side}
use Rattle.ame_term.specs.Context.{Focus, focus}
use Rattle.ame_term.specs.Height.{max_height}
use Rattle.ame_term.specs.Maps.{at}
use Rattle.ame_term.specs.State.{State, at_unprotected}
use Rattle.ame_journal.specs.Replayed.{has_such, value_height, coming_height, is_tall}
use Rattle.ame_journal.specs.Replay.{fragment}
use Rattle.ame_machine.specs.Run.Local.{LocalState, begun_with, local}
use Rattle.ame_machine.specs.Run.AgreesWith.{AgreesWith}
use Rattle.ame_machine.specs.Run.Told.{IsTooHigh}
use Rattle.ame_machine.specs.Move.{GoesLow}
use Rattle.ame_weak.specs.Bounds.{max_frames, is_deeper, is_tall_at, IsTermWithinBounds}
use Rattle.ame_certified.proofs.FrontLemmas.{has-passed, fragment-one, leads-protected}
use Rattle.ame_certified.proofs.MetLemmas.{high-there}

-- fewer than n steps of a member's fragment, which make the first of these locations, lead to no such form
abbrev pub WayIsLow : State → ℕ → ℕ → List ℕ → Type 0
WayIsLow s i n fresh =
    (j : ℕ) (used more : List ℕ) (there : State) → j < n → fresh ≡ used ++ more → fragment i j used s ≡ Some there → is_tall Side.Protected i there ≡ true → ⊥

pub way-none : (s : State) (i : ℕ) (fresh : List ℕ) → WayIsLow s i 0 fresh
way-none s i fresh j used more there below front leads tall = omega arith

-- By a run of the member that agrees with the state

module _ (s : State) (i : ℕ) (term : Tree) (inputs : List Val) (member : at s.members i ≡ Some term) (idle : s.active ≡ None)
    (calm : at_unprotected (focus term) ≡ false) (n : ℕ) (p : LocalState) (ran : local Side.Protected term inputs n ≡ Some p) (agrees : AgreesWith s.store p) where
  pub way-of : (m : ℕ) (extra : List ℕ) → m ≤ n + 1 → GoesLow Side.Protected (begun_with term inputs) m → WayIsLow s i m (p.fresh ++ extra)
  way-of m extra within low j used more there below front leads tall =
      let x = has-passed Side.Protected s.store (begun_with term inputs) n j p (omega arith) ran agrees in
      let y = leads-protected s i term inputs member idle j x.there calm x.ran x.agrees in
      let whole = sym (append_assoc x.there.fresh x.more extra) ∙ ap (λ (xs : List ℕ). xs ++ extra) (sym x.front) ∙ front in
      let one = fragment-one i j s x.there.fresh used (x.more ++ extra) more y.behind there whole y.is leads in
      low j x.there below x.ran (high-there Side.Protected i x.there y.behind there y.member one.1 tall)

  pub low-of : WayIsLow s i n p.fresh → GoesLow Side.Protected (begun_with term inputs) n
  low-of way j q below there high =
      let x = has-passed Side.Protected s.store (begun_with term inputs) n j p (omega arith) ran agrees in
      let both : Some x.there ≡ Some q = sym x.ran ∙ there in
      let same : x.there ≡ q = cc in
      let y = leads-protected s i term inputs member idle j x.there calm x.ran x.agrees in
      let its : IsTooHigh Side.Protected x.there = subst (IsTooHigh Side.Protected) (sym same) high in
      let tall : is_tall Side.Protected i y.behind ≡ true = ap (has_such (λ (t : Tree). coming_height Side.Protected (focus t) == max_height + 1)) y.member ∙ its in
      way j x.there.fresh x.more y.behind below x.front y.is tall

  -- and one step more
  pub low-more : GoesLow Side.Protected (begun_with term inputs) n → (IsTooHigh Side.Protected p → ⊥) → GoesLow Side.Protected (begun_with term inputs) (n + 1)
  low-more low calm_there j q below there high = by (cases_lt j n)
    where
      by : (j < n) ⊎ (n ≤ j) → ⊥
      by (inl under) = low j q under there high
      by (inr over) =
          let last : n ≡ j = omega arith in
          let both : Some p ≡ Some q = sym ran ∙ ap (local Side.Protected term inputs) last ∙ there in
          let same : p ≡ q = cc in
          calm_there (subst (IsTooHigh Side.Protected) (sym same) high)

-- Within the bounds

not-high : (side : Side) (f : Focus) → is_tall_at f ≡ false → (coming_height side f == max_height + 1) ≡ true → ⊥
not-high side (Focus.AtValue v) small high = let clash : 0 ≡ max_height + 1 = eqb-true 0 (max_height + 1) high in omega arith
not-high side (Focus.AtRedex under redex) small high = by (same_side side under) high
  where
    by : (b : Bool) → ((if b then value_height redex else 0) == max_height + 1) ≡ true → ⊥
    by true high =
        let is : value_height redex ≡ max_height + 1 = eqb-true (value_height redex) (max_height + 1) high in
        let most = ltb-false max_height (value_height redex) small in
        omega arith
    by false high = let clash : 0 ≡ max_height + 1 = eqb-true 0 (max_height + 1) high in omega arith

no-taller : (a b : Bool) → (a || b) ≡ false → b ≡ false
no-taller true b e = cc
no-taller false b e = e

-- a member that is within the bounds is at no such form
pub within-low : (side : Side) (o : Option Tree) → IsTermWithinBounds o → has_such (λ (t : Tree). coming_height side (focus t) == max_height + 1) o ≡ true → ⊥
within-low side None within high = cc
within-low side (Some t) within high = not-high side (focus t) (no-taller (is_deeper max_frames t) (is_tall_at (focus t)) within) high
