-- There is one place and one want for a prepared machine of a seat.
use Rattle.std.proofs.Common.{◌≡◌, ℕ, ◌+◌, ◌-◌, ◌==◌, ◌<◌, ◌≤◌, ◌⊎◌, inl, inr, Bool, true, false, [], ◌∷◌, Option, Some, None, IsTrue, arith, refl, sym, ap, ◌∙◌, subst}
use Rattle.std.specs.Prelude.{option_and_then, nat_lt, if◌then◌else◌, is_some}
use Rattle.std.proofs.lemmas.Bool.{cases_lt, eq-eqb}
use Rattle.ame_term.specs.Tree.{Tree}
use Rattle.ame_term.specs.Frame.{Side, side_told}
use Rattle.ame_term.specs.Act.{Act, act_of}
use Rattle.ame_term.specs.Context.{Focus, focus}
use Rattle.ame_term.specs.declared.types.Loc.{Loc}
use Rattle.ame_term.specs.Height.{max_height}
use Rattle.ame_journal.specs.Replayed.{value_height}
use Rattle.ame_machine.specs.declared.wants.Wants.{Wants}
use Rattle.ame_machine.specs.declared.wants.Wants.TheVariants as wants
use Rattle.ame_machine.specs.MachineView.{MachineView, place_shown, without_footprint, running_side}
use Rattle.ame_machine.specs.Need.{Need, need_at, need_of, need_of_focus, need_told, leaving_need}
use Rattle.ame_machine.specs.Run.Local.{LocalState, one_step, goes, begun_with}
use Rattle.ame_machine.proofs.MoveLemmas.{on-place}
use Rattle.ame_machine.specs.Run.Told.{IsTooHigh}
use Rattle.ame_machine.proofs.LowLemmas.{too-high}
use Rattle.ame_machine.proofs.Run.RunLemmas.{Acts, step-is, goes-added, goes-on}
use Rattle.ame_rows.specs.MemoryView.{row_at}
use Rattle.ame_protocol.specs.declared.types.Attempt.{Attempt}
use Rattle.ame_protocol.specs.Engine.Parts.{Parts, term_at}
use Rattle.ame_engine.specs.AtWork.{IsOnSeat}
use Rattle.ame_sim.specs.Prepared.{IsPreparedStage, IsPreparedHand}
use Rattle.ame_repeats.proofs.VisitsLemmas.{false-apart}

-- A step without an input

acts-step : (p : LocalState) (side : Side) (act : Act) (part : Tree) (q : LocalState) → p.inputs ≡ [] → Acts p side act part q → need_at side act ≡ Need.Step
acts-step p _ _ _ _ none (Acts.becomes side term) = refl
acts-step p _ _ _ _ none (Acts.spawns body) = refl
acts-step p _ _ _ _ none (Acts.prints n) = refl
acts-step p _ _ _ _ none Acts.passes = refl
acts-step p _ _ _ _ none (Acts.feeds side act v inputs part q some fed) = absurd (let clash : [] ≡ v ∷ inputs = sym none ∙ some in cc)

tall-or : (b : Bool) (need : Need) → need ≡ Need.Step → ((if b then Need.Tall else need) ≡ Need.Step) ⊎ ((if b then Need.Tall else need) ≡ Need.Tall)
tall-or true need e = inr refl
tall-or false need e = inl e

-- protected code
leaving : (redex : Tree) → need_at Side.Protected (act_of redex) ≡ Need.Step → (leaving_need redex ≡ Need.Step) ⊎ (leaving_need redex ≡ Need.Tall)
unfolding act_of
leaving (Tree.Unprotected (Tree.Held v)) e = absurd (let clash : Need.Stuck ≡ Need.Step = e in cc)
leaving (Tree.Unprotected part) e = absurd (let clash : Need.Stuck ≡ Need.Step = e in cc)
leaving redex e = tall-or (nat_lt max_height (value_height redex)) (need_at Side.Protected (act_of redex)) e

by-focus : (inside : Bool) (redex : Tree) → need_at (side_told inside) (act_of redex) ≡ Need.Step
    → (need_of_focus inside (Focus.AtRedex (side_told inside) redex) ≡ Need.Step) ⊎ (need_of_focus inside (Focus.AtRedex (side_told inside) redex) ≡ Need.Tall)
by-focus false redex e = leaving redex e
by-focus true redex e = tall-or (nat_lt max_height (value_height redex)) (need_at Side.Unprotected (act_of redex)) e

step-need : (m : MachineView) (p q : LocalState) → p.term ≡ m.term → p.inputs ≡ [] → one_step (running_side m) p ≡ Some q → (need_of m ≡ Need.Step) ⊎ (need_of m ≡ Need.Tall)
step-need m p q term none step =
    let x = step-is (running_side m) p q step in
    let stands : focus m.term ≡ Focus.AtRedex (side_told m.inside) x.redex = sym (ap focus term) ∙ x.stands in
    subst (λ (f : Focus). (need_of_focus m.inside f ≡ Need.Step) ⊎ (need_of_focus m.inside f ≡ Need.Tall)) (sym stands)
    (by-focus m.inside x.redex (acts-step p (running_side m) (act_of x.redex) x.part x.behind none x.acts))

-- Wants by needs

abbrev number : Wants → ℕ
number (wants.Read l) = 1
number (wants.Write l) = 2
number (wants.Alloc sort ty) = 3
number (wants.Peek l) = 4
number wants.Block = 5
number wants.Done = 6
number wants.Leave = 7
number wants.Close = 8
number (wants.Device device n) = 9
number wants.Spawn = 10
number (wants.Print n) = 11
number wants.Tall = 12
number wants.OutOfFuel = 13

abbrev number_of : Need → ℕ
number_of Need.Step = 13
number_of (Need.Read l) = 1
number_of (Need.Write l) = 2
number_of (Need.Alloc sort ty) = 3
number_of (Need.Peek l) = 4
number_of Need.Block = 5
number_of Need.Done = 6
number_of Need.Leave = 7
number_of Need.Close = 8
number_of (Need.Device device n) = 9
number_of Need.Spawn = 10
number_of (Need.Print n) = 11
number_of Need.Tall = 12
number_of Need.Stuck = 14

fuel-alone : (w : Wants) → need_told w ≡ Need.Step → w ≡ wants.OutOfFuel
fuel-alone wants.OutOfFuel e = refl
fuel-alone (wants.Read l) e = cc
fuel-alone (wants.Write l) e = cc
fuel-alone (wants.Alloc sort ty) e = cc
fuel-alone (wants.Peek l) e = cc
fuel-alone wants.Block e = cc
fuel-alone wants.Done e = cc
fuel-alone wants.Leave e = cc
fuel-alone wants.Close e = cc
fuel-alone (wants.Device device n) e = cc
fuel-alone wants.Spawn e = cc
fuel-alone (wants.Print n) e = cc
fuel-alone wants.Tall e = cc

loc-one : (l k : Loc) → l.0 ≡ k.0 → l ≡ k
loc-one l k e = ap (λ i. let x : Loc = record { 0 = i } in x) e

want-by : (w x : Wants) → need_told w ≡ need_told x → IsTrue (number w == number x) → w ≡ x
want-by (wants.Read l) (wants.Read k) e h = let is : l.0 ≡ k.0 = cc in ap (λ i. wants.Read i) (loc-one l k is)
want-by (wants.Write l) (wants.Write k) e h = let is : l.0 ≡ k.0 = cc in ap (λ i. wants.Write i) (loc-one l k is)
want-by (wants.Peek l) (wants.Peek k) e h = let is : l.0 ≡ k.0 = cc in ap (λ i. wants.Peek i) (loc-one l k is)
want-by (wants.Alloc sort ty) (wants.Alloc sort' ty') e h = cc
want-by wants.Block wants.Block e h = refl
want-by wants.Done wants.Done e h = refl
want-by wants.Leave wants.Leave e h = refl
want-by wants.Close wants.Close e h = refl
want-by (wants.Device device n) (wants.Device device' n') e h = cc
want-by wants.Spawn wants.Spawn e h = refl
want-by (wants.Print n) (wants.Print n') e h = cc
want-by wants.Tall wants.Tall e h = refl
want-by wants.OutOfFuel wants.OutOfFuel e h = refl
want-by _ _ e h = absurd (false-apart h)

number-is : (w : Wants) → number_of (need_told w) ≡ number w
number-is (wants.Read l) = refl
number-is (wants.Write l) = refl
number-is (wants.Alloc sort ty) = refl
number-is (wants.Peek l) = refl
number-is wants.Block = refl
number-is wants.Done = refl
number-is wants.Leave = refl
number-is wants.Close = refl
number-is (wants.Device device n) = refl
number-is wants.Spawn = refl
number-is (wants.Print n) = refl
number-is wants.Tall = refl
number-is wants.OutOfFuel = refl

want-one : (w x : Wants) → need_told w ≡ need_told x → w ≡ x
want-one w x e = want-by w x e (eq-eqb (number w) (number x) (sym (number-is w) ∙ ap number_of e ∙ number-is x))

-- One place

first-step : (side : Side) (p r : LocalState) (k : ℕ) → goes side p (1 + k) ≡ Some r → (q : LocalState) × (one_step side p ≡ Some q)
first-step side p r k e = by (one_step side p) refl
  where
    by : (o : Option LocalState) → one_step side p ≡ o → (q : LocalState) × (one_step side p ≡ Some q)
    by (Some q) is = (q, is)
    by None is =
        let stops : option_and_then (λ x. goes side x k) (one_step side p) ≡ Some r = sym (goes-added side p 1 k) ∙ e in
        absurd (let clash : ◌≡◌ {A = Option LocalState} None (Some r) = sym (ap (option_and_then (λ x. goes side x k)) is) ∙ stops in cc)

module _ (parts : Parts) (seat : ℕ) where
  abbrev begins : ℕ → LocalState
  begins number = begun_with (term_at parts.pool number) (row_at parts.memory.rows seat).inputs

  attempt-one : (s t : MachineView) (x : IsOnSeat parts seat s) (y : IsOnSeat parts seat t) → x.attempt ≡ y.attempt
  attempt-one s t x y = let both : Some x.attempt ≡ Some y.attempt = sym x.has ∙ y.has in cc

  side-one : (s t : MachineView) → IsOnSeat parts seat s → IsOnSeat parts seat t → running_side s ≡ running_side t
  side-one s t x y = ap side_told (x.side ∙ sym y.side)

  earlier : (s t : MachineView) → IsPreparedStage parts seat s → IsPreparedStage parts seat t → s.steps < t.steps → ⊥
  earlier s t x y before =
      let its = on-place (term_at parts.pool x.stands.attempt.tried.number) (row_at parts.memory.rows seat).inputs s x.stands.run in
      let its' = on-place (term_at parts.pool y.stands.attempt.tried.number) (row_at parts.memory.rows seat).inputs t y.stands.run in
      let one = attempt-one s t x.stands y.stands in
      let side = side-one s t x.stands y.stands in
      let here : goes (running_side t) (begins y.stands.attempt.tried.number) s.steps ≡ Some its.place =
      ap (λ (a : Attempt). goes (running_side t) (begins a.tried.number) s.steps) (sym one) ∙ ap (λ (z : Side). goes z (begins x.stands.attempt.tried.number) s.steps) (sym side) ∙ its.ran in
      let k = t.steps - s.steps - 1 in
      let sum : s.steps + (1 + k) ≡ t.steps = omega (arith, before) in
      let there : goes (running_side t) (begins y.stands.attempt.tried.number) (s.steps + (1 + k)) ≡ Some its'.place =
      ap (goes (running_side t) (begins y.stands.attempt.tried.number)) sum ∙ its'.ran in
      let more = first-step (running_side t) its.place its'.place k (goes-on (running_side t) (begins y.stands.attempt.tried.number) its.place its'.place s.steps (1 + k) here there) in
      let step : one_step (running_side s) its.place ≡ Some more.0 = ap (λ (z : Side). one_step z its.place) side ∙ more.1 in
      let term : its.place.term ≡ s.term = ap (λ (z : LocalState). z.term) its.shown in
      by (step-need s its.place more.0 term (ap (λ (z : LocalState). z.inputs) its.shown) step) here term one
    where
      by : (need_of s ≡ Need.Step) ⊎ (need_of s ≡ Need.Tall) → {p : LocalState} → goes (running_side t) (begins y.stands.attempt.tried.number) s.steps ≡ Some p
          → p.term ≡ s.term → x.stands.attempt ≡ y.stands.attempt → ⊥
      by (inl alone) here term one =
          let fuel = fuel-alone x.ready.want (x.sound.told x.ready.want x.ready.told ∙ alone) in
          let full = x.ready.full fuel in
          let same : x.stands.attempt.tried.steps ≡ y.stands.attempt.tried.steps = ap (λ (a : Attempt). a.tried.steps) one in
          let counts = x.stands.since in
          let counts' = y.stands.since in
          let within = y.within in
          omega (arith, full.0, same, counts, counts', within, before)
      by (inr tall) {p} here term one =
          let high = too-high s p x.sound.low tall term in
          y.low s.steps p before here (subst (λ (z : Side). IsTooHigh z p) (side-one s t x.stands y.stands) high)

  -- the machine is as its place, its want and its counts are
  view-one : (s t : MachineView) → s.inside ≡ t.inside → s.steps ≡ t.steps → s.since ≡ t.since → s.want ≡ t.want → place_shown s ≡ place_shown t → s ≡ t
  view-one s t inside steps since want place =
      ap (λ (p : LocalState). let m : MachineView = record { term = p.term; inside = s.inside; steps = s.steps; since = s.since; prints = p.prints; spawns = p.spawns; fresh = p.fresh; want = s.want } in m) place
      ∙ ap (λ (b : Bool). record t { inside = b; steps = s.steps; since = s.since; want = s.want }) inside
      ∙ ap (λ (n : ℕ). record t { steps = n; since = s.since; want = s.want }) steps
      ∙ ap (λ (n : ℕ). record t { since = n; want = s.want }) since
      ∙ ap (λ (w : Option Wants). record t { want = w }) want

  stage-same : (s t : MachineView) → IsPreparedStage parts seat s → IsPreparedStage parts seat t → s.steps ≡ t.steps → s ≡ t
  stage-same s t x y steps =
      let its = on-place (term_at parts.pool x.stands.attempt.tried.number) (row_at parts.memory.rows seat).inputs s x.stands.run in
      let its' = on-place (term_at parts.pool y.stands.attempt.tried.number) (row_at parts.memory.rows seat).inputs t y.stands.run in
      let one = attempt-one s t x.stands y.stands in
      let side = side-one s t x.stands y.stands in
      let there : goes (running_side s) (begins x.stands.attempt.tried.number) s.steps ≡ Some its'.place =
      ap (λ (a : Attempt). goes (running_side s) (begins a.tried.number) s.steps) one ∙ ap (λ (z : Side). goes z (begins y.stands.attempt.tried.number) s.steps) side
      ∙ ap (goes (running_side t) (begins y.stands.attempt.tried.number)) steps ∙ its'.ran in
      let both : Some its.place ≡ Some its'.place = sym its.ran ∙ there in
      let places : its.place ≡ its'.place = cc in
      let place : place_shown s ≡ place_shown t = sym its.shown ∙ ap without_footprint places ∙ its'.shown in
      let inside : s.inside ≡ t.inside = x.stands.side ∙ sym y.stands.side in
      let needs : need_of s ≡ need_of t = ap (λ (b : Bool). need_of_focus b (focus s.term)) inside ∙ ap (λ (p : LocalState). need_of_focus t.inside (focus p.term)) place in
      let wanted : x.ready.want ≡ y.ready.want = want-one x.ready.want y.ready.want (x.sound.told x.ready.want x.ready.told ∙ needs ∙ sym (y.sound.told y.ready.want y.ready.told)) in
      let want : s.want ≡ t.want = x.ready.told ∙ ap (λ w. Some w) wanted ∙ sym y.ready.told in
      let counted : x.stands.attempt.tried.steps ≡ y.stands.attempt.tried.steps = ap (λ (a : Attempt). a.tried.steps) one in
      let left = x.stands.since in
      let right = y.stands.since in
      let since : s.since ≡ t.since = omega (arith, left, right, counted, steps) in
      view-one s t inside steps since want place

  stage-one : (s t : MachineView) → IsPreparedStage parts seat s → IsPreparedStage parts seat t → s ≡ t
  stage-one s t x y = by (cases_lt s.steps t.steps) (cases_lt t.steps s.steps)
    where
      by : (s.steps < t.steps) ⊎ (t.steps ≤ s.steps) → (t.steps < s.steps) ⊎ (s.steps ≤ t.steps) → s ≡ t
      by (inl less) _ = absurd (earlier s t x y less)
      by (inr most) (inl less) = absurd (earlier t s y x less)
      by (inr most) (inr least) = stage-same s t x y (omega (arith, most, least))

  pub hand-one : (h k : Option MachineView) → IsPreparedHand parts seat h → IsPreparedHand parts seat k → h ≡ k
  hand-one None None x y = refl
  hand-one (Some s) (Some t) x y = ap (λ m. Some m) (stage-one s t (x.prepared s refl) (y.prepared t refl))
  hand-one None (Some t) x y = absurd (missing x (y.prepared t refl).stands)
    where
      missing : IsPreparedHand parts seat None → IsOnSeat parts seat t → ⊥
      missing p on = absurd (false-apart (p.there (ap is_some on.has)))
  hand-one (Some s) None x y = absurd (missing y (x.prepared s refl).stands)
    where
      missing : IsPreparedHand parts seat None → IsOnSeat parts seat s → ⊥
      missing p on = absurd (false-apart (p.there (ap is_some on.has)))
