-- A machine makes no step at a form that would become a value that is too high.
use Rattle.std.proofs.Common.{◌≡◌, ◌≢◌, ℕ, zero, suc, ◌+◌, ◌≤◌, ◌<◌, ◌==◌, ◌⊎◌, inl, inr, Bool, true, false, List, [], ◌∷◌, ◌++◌, Some, option_and_then, if◌then◌else◌, refl, sym, ap, ◌∙◌, subst, arith, eqb-true}
use Rattle.std.specs.Prelude.{nat_lt}
use Rattle.std.proofs.lemmas.Bool.{cases_lt, ltb-false}
use Rattle.std.proofs.lemmas.Option.{option_and_then_some}
use Rattle.ame_term.specs.Tree.{Val, Tree}
use Rattle.ame_term.specs.Frame.{Side, side_told}
use Rattle.ame_term.specs.Act.{Act, act_of}
use Rattle.ame_term.specs.Context.{Focus, focus}
use Rattle.ame_term.specs.Height.{max_height}
use Rattle.ame_journal.specs.Replayed.{value_height, coming_height}
use Rattle.ame_machine.specs.Need.{Need, need_at_redex, leaving_need, need_of_focus, need_of, need_at}
use Rattle.ame_machine.specs.MachineView.{MachineView, running_side, without_footprint, OnRun}
use Rattle.ame_machine.specs.Move.{GoesLow, AdvancesWithin, fed_stage}
use Rattle.ame_machine.specs.Run.Local.{LocalState, begun_with, acted, one_step, goes, given_more}
use Rattle.ame_machine.specs.Run.Told.{IsTooHigh}
use Rattle.ame_machine.proofs.Run.RunLemmas.{Acts, step-is, step-of, goes-more}
use Rattle.ame_machine.proofs.MoveLemmas.{low-once, low-added, on-place, fed-to}

-- A run with nothing to take, and the same one without its footprint

acts-bare : (p : LocalState) (side : Side) (act : Act) (part : Tree) (q : LocalState) → p.inputs ≡ [] → Acts p side act part q
    → (acted act side (without_footprint p) ≡ Some (part, without_footprint q)) × (q.inputs ≡ [])
acts-bare p _ _ _ _ empty (Acts.becomes side term) = (refl, empty)
acts-bare p _ _ _ _ empty (Acts.spawns body) = (refl, empty)
acts-bare p _ _ _ _ empty (Acts.prints n) = (refl, empty)
acts-bare p _ _ _ _ empty Acts.passes = (refl, empty)
acts-bare p _ _ _ _ empty (Acts.feeds side act v inputs part q is given) = absurd (let clash : v ∷ inputs ≡ [] = sym is ∙ empty in cc)

step-bare : (side : Side) (p q : LocalState) → p.inputs ≡ [] → one_step side p ≡ Some q → (one_step side (without_footprint p) ≡ Some (without_footprint q)) × (q.inputs ≡ [])
step-bare side p q empty step =
    let x = step-is side p q step in
    let a = acts-bare p side (act_of x.redex) x.part x.behind empty x.acts in (
      step-of side (without_footprint p) x.redex (x.part, without_footprint x.behind) x.resting x.stands a.0 ∙ ap (λ (z : LocalState). Some (without_footprint z)) (sym x.is),
      ap (λ (z : LocalState). z.inputs) x.is ∙ a.1,
    )

goes-bare : (side : Side) (p q : LocalState) (k : ℕ) → p.inputs ≡ [] → goes side p k ≡ Some q → (goes side (without_footprint p) k ≡ Some (without_footprint q)) × (q.inputs ≡ [])
goes-bare side p q zero empty e = let same : p ≡ q = cc in (ap (λ (z : LocalState). Some (without_footprint z)) same, ap (λ (z : LocalState). z.inputs) (sym same) ∙ empty)
goes-bare side p q (suc k) empty e =
    option_and_then_some _ _ _ e (λ r first second.
    let x = goes-bare side p r k empty first in
    let y = step-bare side r q x.1 second in
    (ap (option_and_then (one_step side)) x.0 ∙ y.0, y.1))

low-whole : (side : Side) (p : LocalState) (k : ℕ) → p.inputs ≡ [] → GoesLow side (without_footprint p) k → GoesLow side p k
low-whole side p k empty low j r below there high = low j (without_footprint r) below (goes-bare side p r j empty there).0 high

pub advanced-low : (start : Tree) (inputs : List Val) (fuel : ℕ) (m n : MachineView) → OnRun start inputs m → GoesLow (running_side m) (begun_with start inputs) m.steps
    → AdvancesWithin fuel m n → GoesLow (running_side n) (begun_with start inputs) n.steps
advanced-low start inputs fuel m n on low a =
    let o = on-place start inputs m on in
    let empty : o.place.inputs ≡ [] = ap (λ (z : LocalState). z.inputs) o.shown in
    let more = low-whole (running_side m) o.place a.made empty (subst (λ (z : LocalState). GoesLow (running_side m) z a.made) (sym o.shown) a.low) in
    let all = low-added (running_side m) (begun_with start inputs) o.place m.steps a.made o.ran low more in
    subst (λ (side : Side). GoesLow side (begun_with start inputs) n.steps) (ap side_told (sym a.advances.inside))
    (subst (GoesLow (running_side m) (begun_with start inputs)) (sym a.advances.steps) all)

-- A machine that needs something else

none-high : (0 == max_height + 1) ≡ true → ⊥
none-high high = let clash : 0 ≡ max_height + 1 = eqb-true 0 (max_height + 1) high in omega arith

redex-calm : (side : Side) (redex : Tree) → need_at_redex side redex ≢ Need.Tall → (value_height redex == max_height + 1) ≡ true → ⊥
redex-calm side redex other high = by (nat_lt max_height (value_height redex)) refl
  where
    by : (b : Bool) → nat_lt max_height (value_height redex) ≡ b → ⊥
    by true is = other (ap (λ (b : Bool). if b then Need.Tall else need_at side (act_of redex)) is)
    by false is =
        let exact : value_height redex ≡ max_height + 1 = eqb-true (value_height redex) (max_height + 1) high in
        let most = ltb-false max_height (value_height redex) is in
        omega arith

leaving-calm : (redex : Tree) → leaving_need redex ≢ Need.Tall → (value_height redex == max_height + 1) ≡ true → ⊥
leaving-calm (Tree.Unprotected part) other high = none-high high
leaving-calm redex other high = redex-calm Side.Protected redex other high

calm-at : (inside : Bool) (f : Focus) → need_of_focus inside f ≢ Need.Tall → (coming_height (side_told inside) f == max_height + 1) ≡ true → ⊥
calm-at false (Focus.AtValue v) other high = none-high high
calm-at false (Focus.AtRedex Side.Unprotected redex) other high = none-high high
calm-at false (Focus.AtRedex Side.Protected redex) other high = leaving-calm redex other high
calm-at true (Focus.AtValue v) other high = none-high high
calm-at true (Focus.AtRedex Side.Unprotected redex) other high = redex-calm Side.Unprotected redex other high
calm-at true (Focus.AtRedex Side.Protected redex) other high = none-high high

pub next-low : (start : Tree) (inputs : List Val) (m : MachineView) → OnRun start inputs m → GoesLow (running_side m) (begun_with start inputs) m.steps
    → need_of m ≢ Need.Tall → GoesLow (running_side m) (begun_with start inputs) (m.steps + 1)
next-low start inputs m on low other =
    let o = on-place start inputs m on in
    let its : o.place.term ≡ m.term = ap (λ (z : LocalState). z.term) o.shown in
    low-added (running_side m) (begun_with start inputs) o.place m.steps 1 o.ran low
    (low-once (running_side m) o.place (λ high.
    calm-at m.inside (focus m.term) other (ap (λ (t : Tree). coming_height (running_side m) (focus t) == max_height + 1) (sym its) ∙ high)))

-- One more input

has-front : (side : Side) (p q : LocalState) (n j : ℕ) → j ≤ n → goes side p n ≡ Some q → (r : LocalState) × (goes side p j ≡ Some r)
has-front side p q zero j within e = let none : 0 ≡ j = omega arith in (q, ap (goes side p) (sym none) ∙ e)
has-front side p q (suc n) j within e = by (λ r. has-front side p r n j) (cases_lt j (suc n))
  where
    by : ((r : LocalState) → j ≤ n → goes side p n ≡ Some r → (t : LocalState) × (goes side p j ≡ Some t)) → (j < suc n) ⊎ (suc n ≤ j)
        → (t : LocalState) × (goes side p j ≡ Some t)
    by earlier (inl below) = option_and_then_some _ _ _ e (λ r before last. earlier r (omega arith) before)
    by earlier (inr above) = let same : suc n ≡ j = omega arith in (q, ap (goes side p) (sym same) ∙ e)

low-given : (side : Side) (p q : LocalState) (more : List Val) (n k : ℕ) → k ≤ n + 1 → goes side p n ≡ Some q → GoesLow side p k → GoesLow side (given_more more p) k
low-given side p q more n k within ran low j r below there high =
    let x = has-front side p q n j (omega arith) ran in
    let both : Some (given_more more x.0) ≡ Some r = sym (goes-more side p x.0 more j x.1) ∙ there in
    let same : given_more more x.0 ≡ r = cc in
    low j x.0 below x.1 (subst (IsTooHigh side) (sym same) high)

pub fed-low : (start : Tree) (inputs : List Val) (v : Val) (m n : MachineView) → OnRun start inputs m → GoesLow (running_side m) (begun_with start inputs) m.steps
    → need_of m ≢ Need.Tall → fed_stage v m ≡ Some n → GoesLow (running_side n) (begun_with start (inputs ++ v ∷ [])) n.steps
fed-low start inputs v m n on low other fed =
    let o = on-place start inputs m on in
    let all = low-given (running_side m) (begun_with start inputs) o.place (v ∷ []) m.steps (m.steps + 1) (omega arith) o.ran (next-low start inputs m on low other) in
    subst (λ (z : MachineView). GoesLow (running_side z) (begun_with start (inputs ++ v ∷ [])) z.steps) (sym (fed-to v m n fed).is) all
