-- An entry of a run that is at no form that would become a value that is too high meets none.
use Rattle.std.proofs.Common.{◌≡◌, ℕ, zero, suc, ◌+◌, ◌≤◌, ◌<◌, ◌==◌, Bool, true, false, List, [], ◌++◌, Option, Some, None, refl, sym, ap, ◌∙◌, subst, arith}
use Rattle.ame_term.specs.Tree.{Val, Tree}
use Rattle.ame_term.specs.Frame.{Side, side_told}
use Rattle.ame_term.specs.Context.{focus}
use Rattle.ame_term.specs.Height.{max_height}
use Rattle.ame_term.specs.Maps.{at}
use Rattle.ame_term.specs.State.{State, at_unprotected}
use Rattle.ame_term.specs.declared.semantics.Label.{Label}
use Rattle.ame_journal.specs.declared.entry.Entry.{Entry}
use Rattle.ame_journal.specs.Replayed.{Replayed, has_such, side_at, coming_height, is_tall}
use Rattle.ame_journal.specs.Replay.{attempt_on}
use Rattle.ame_machine.specs.Run.Local.{LocalState, begun_with, local}
use Rattle.ame_machine.specs.Run.AgreesWith.{AgreesWith}
use Rattle.ame_machine.specs.Run.Told.{IsTooHigh}
use Rattle.ame_machine.specs.Move.{GoesLow}
use Rattle.ame_protocol.proofs.Engine.TurnLemmas.{no-run}
use Rattle.ame_protocol.proofs.Visits.PlaceLemmas.{alone}
use Rattle.ame_check.specs.Entries.{MeetsTall}
use Rattle.ame_certified.proofs.FrontLemmas.{has-passed, steps-one, fragment-one, leads-protected, leads-free}

-- a state in which a member is what a run has become is at such a form only if the run is
pub high-there : (side : Side) (i : ℕ) (p : LocalState) (behind there : State) → at behind.members i ≡ Some p.term → behind ≡ there → is_tall side i there ≡ true → IsTooHigh side p
high-there side i p behind there member same tall =
    sym (ap (has_such (λ (t : Tree). coming_height side (focus t) == max_height + 1)) member) ∙ ap (is_tall side i) same ∙ tall

module _ (r : Replayed) (entry : Entry) (term : Tree) (member : at r.state.members entry.number ≡ Some term) (idle : r.state.active ≡ None) where
  side-there : (b : Bool) → at_unprotected (focus term) ≡ b → side_at entry.number r.state ≡ side_told b
  side-there b e = ap (λ (o : Option Tree). side_told (has_such (λ (t : Tree). at_unprotected (focus t)) o)) member ∙ ap side_told e

  module _ (inputs : List Val) (n : ℕ) (p : LocalState) (ran : local Side.Protected term inputs n ≡ Some p) (agrees : AgreesWith r.state.store p)
      (fresh : entry.fresh ≡ p.fresh) (count : entry.steps ≡ n) (low : GoesLow Side.Protected (begun_with term inputs) n) where
    calm-met : at_unprotected (focus term) ≡ false → MeetsTall r entry → ⊥
    calm-met calm m =
        let on : side_at entry.number r.state ≡ Side.Protected = side-there false calm in
        let below : m.made < n = (let b : m.made < entry.steps = m.below in omega arith) in
        let x = has-passed Side.Protected r.state.store (begun_with term inputs) n m.made p (omega arith) ran agrees in
        let y = leads-protected r.state entry.number term inputs member idle m.made x.there calm x.ran x.agrees in
        let leads = ap (λ (side : Side). attempt_on side entry.number m.made m.used r.state) (sym on) ∙ m.leads in
        let one = fragment-one entry.number m.made r.state x.there.fresh m.used x.more m.rest y.behind m.there (sym x.front ∙ sym fresh ∙ m.front) y.is leads in
        let tall = ap (λ (side : Side). is_tall side entry.number m.there) (sym on) ∙ m.tall in
        low m.made x.there below x.ran (high-there Side.Protected entry.number x.there y.behind m.there y.member one.1 tall)

    -- from the first at `unprotected` there is no step
    none-met : at_unprotected (focus term) ≡ true → MeetsTall r entry → ⊥
    none-met under m = by n ran (let b : m.made < entry.steps = m.below in omega arith)
      where
        by : (k : ℕ) → local Side.Protected term inputs k ≡ Some p → m.made < k → ⊥
        by zero e below = omega arith
        by (suc k) e below = let clash : ◌≡◌ {A = Option LocalState} None (Some p) = sym (no-run (begun_with term inputs) k under) ∙ e in cc

    pub protected-met : MeetsTall r entry → ⊥
    protected-met m = by (at_unprotected (focus term)) refl
      where
        by : (b : Bool) → at_unprotected (focus term) ≡ b → ⊥
        by true under = none-met under m
        by false calm = calm-met calm m

  module _ (n : ℕ) (p : LocalState) (ran : local Side.Unprotected term [] n ≡ Some p) (on : side_at entry.number r.state ≡ Side.Unprotected)
      (count : entry.steps ≤ n + 1) (low : GoesLow Side.Unprotected (begun_with term []) entry.steps) where
    pub free-met : MeetsTall r entry → ⊥
    free-met m =
        let below : m.made < entry.steps = m.below in
        let bare : begun_with p.term [] ≡ p = sym (alone term n p ran) in
        let agrees = subst (AgreesWith r.state.store) bare (record { seen = tt; own = tt; made = tt }) in
        let x = has-passed Side.Unprotected r.state.store (begun_with term []) n m.made p (omega arith) ran agrees in
        let first = alone term m.made x.there x.ran in
        let y = leads-free r.state entry.number term [] member idle m.made x.there (ap (λ (z : LocalState). z.answer) first) x.ran x.agrees in
        let leads = ap (λ (side : Side). attempt_on side entry.number m.made m.used r.state) (sym on) ∙ m.leads in
        let front = ap (λ (z : LocalState). z.fresh ++ entry.fresh) first ∙ m.front in
        let one = steps-one (Label.Free entry.number) entry.number m.made r.state x.there.fresh m.used entry.fresh m.rest y.behind m.there front y.is leads in
        let tall = ap (λ (side : Side). is_tall side entry.number m.there) (sym on) ∙ m.tall in
        low m.made x.there below x.ran (high-there Side.Unprotected entry.number x.there y.behind m.there y.member one.1 tall)
