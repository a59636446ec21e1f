-- A weak run under way: the state to which the journal so far leads, with the active fragment's run laid over it.
use Rattle.std.proofs.Common.{◌≡◌, ℕ, suc, ◌+◌, ◌<◌, ◌++◌, ◌⊎◌, inl, inr, Bool, true, false, List, [], Option, Some, None, is_some, is_none, option_and_then, if◌then◌else◌, refl, sym, ap, ◌∙◌, arith}
use Rattle.std.proofs.lemmas.Option.{option_and_then_some}
use Rattle.ame_term.specs.Tree.{Typ, Val, Tree}
use Rattle.ame_term.specs.Signature.{Signature}
use Rattle.ame_term.specs.Frame.{Side}
use Rattle.ame_term.specs.Context.{focus}
use Rattle.ame_term.specs.Maps.{at}
use Rattle.ame_term.specs.State.{State, after, reduce, activated, closed, at_unprotected}
use Rattle.ame_term.specs.declared.semantics.StepKind.{StepKind}
use Rattle.ame_term.specs.declared.semantics.Label.{Label}
use Rattle.ame_term.specs.declared.types.Sort.{Sort}
use Rattle.ame_laws.specs.Orderly.{IsOrderly}
use Rattle.ame_laws.specs.Typed.StoreTyping.{StoreTyping, Grows}
use Rattle.ame_laws.specs.Typed.TypedState.{IsTyped, IsMember}
use Rattle.ame_laws.proofs.MapLemmas.{each-at, numbers-at}
use Rattle.ame_laws.proofs.OrderlyLemmas.{after-goes, reduce-goes, closed-goes}
use Rattle.ame_laws.proofs.Typed.Preserved.{kept, preserved_along}
use Rattle.ame_laws.proofs.Typed.Progressed.{found_act}
use Rattle.ame_journal.specs.Labels.{fresh_of, fragment_labels}
use Rattle.ame_journal.proofs.UnderWayLemmas.{UnderWay-runs}
use Rattle.ame_machine.specs.Run.Local.{LocalState, begun_with, with_inputs, local, one_step}
use Rattle.ame_machine.specs.Run.AgreesWith.{AgreesWith}
use Rattle.ame_machine.proofs.Run.RunLemmas.{goes-more, step-is}
use Rattle.ame_machine.proofs.Run.ReplayLemmas.{active_run}
use Rattle.ame_weak.specs.Weak.{Weak, holding_none, moved, held_step, may_free}
use Rattle.ame_weak.proofs.Laid.{IsLaid, IsUntouched, IsApart, HasSetMade, unseen, step-set, step-apart}
use Rattle.ame_weak.proofs.HeldSteps.{if-gave, held-step}
use Rattle.ame_weak.proofs.FreeSteps.{ChangesApart, IsBelow, free-below, close-below}

-- Over the state s, in which nothing is active, member i is active in w after n steps with these new locations.
pub record IsUnderWay (signature : Signature) (s : State) (i n : ℕ) (fresh : List ℕ) (w : Weak) : Type 0 where
  pub cells : StoreTyping
  pub typed : IsTyped signature cells s
  pub idle : s.active ≡ None
  pub term : Tree
  pub member : at s.members i ≡ Some term
  pub calm : at_unprotected (focus term) ≡ false
  pub inputs : List Val
  pub place : LocalState
  pub ran : local Side.Protected term inputs n ≡ Some place
  pub used : place.inputs ≡ []
  pub quiet : place.answer ≡ None
  pub made : place.fresh ≡ fresh
  pub agrees : AgreesWith s.store place
  pub untouched : IsApart cells place
  pub set : HasSetMade place
  pub laid : IsLaid s i place w
  pub stands : at w.state.members i ≡ Some place.term
  pub orderly : IsOrderly w.state

-- a member that becomes active doesn't stand at `unprotected`
pub activate-found : (i : ℕ) (s y : State) → after s (Label.Activate i) ≡ Some y
    → (term : Tree) × (at s.members i ≡ Some term) × (at_unprotected (focus term) ≡ false) × (y ≡ record s { active = Some i })
unfolding after
activate-found i s y e =
    option_and_then_some _ _ _ (if-gave (is_none s.active) (activated i s) y e).1 (λ term is_member e1. by term is_member (at_unprotected (focus term)) refl e1)
  where
    by : (term : Tree) → at s.members i ≡ Some term → (b : Bool) → at_unprotected (focus term) ≡ b → (if b then None else Some (record s { active = Some i })) ≡ Some y
        → (term : Tree) × (at s.members i ≡ Some term) × (at_unprotected (focus term) ≡ false) × (y ≡ record s { active = Some i })
    by term is_member true calm e1 = cc
    by term is_member false calm e1 = (term, is_member, calm, cc)

module _ (signature : Signature) where
  pub way-begun : (cells : StoreTyping) (s : State) (i : ℕ) (y : State) → IsTyped signature cells s → s.active ≡ None → IsOrderly s → after s (Label.Activate i) ≡ Some y
      → IsUnderWay signature s i 0 [] (holding_none y)
  way-begun cells s i y typed idle orderly e =
      let f = activate-found i s y e in
      let place = begun_with f.0 [] in
      record {
        cells = cells;
        typed = typed;
        idle = idle;
        term = f.0;
        member = f.1;
        calm = f.2;
        inputs = [];
        place = begun_with f.0 [];
        ran = refl;
        used = refl;
        quiet = refl;
        made = refl;
        agrees = record { seen = tt; own = tt; made = tt };
        untouched = λ l content is. (refl, tt);
        set = tt;
        laid = record {
          active = ap (λ (z : State). z.active) f.3;
          output = ap (λ (z : State). z.output) f.3;
          next = ap (λ (z : State). z.next) f.3;
          stored = λ l. ap (λ (z : State). at z.store l) f.3;
          others = λ k apart. ap (λ (z : State). at z.members k) f.3;
          prints = refl;
          spawns = refl;
        };
        stands = ap (λ (z : State). at z.members i) f.3 ∙ f.1;
        orderly = (after-goes s (Label.Activate i) y e).orderly orderly;
      }

  module _ (s : State) (i n : ℕ) (fresh : List ℕ) (w : Weak) (u : IsUnderWay signature s i n fresh w) where
    -- its number is below the next one
    pub number-below : i < w.state.next
    number-below = numbers-at (λ k. k < w.state.next) w.state.members i (ap is_some u.stands) u.orderly.members_below

    pub way-step : (kind : StepKind) (v : Weak) → held_step kind i w ≡ Some v → IsUnderWay signature s i (n + 1) (fresh ++ fresh_of kind) v
    way-step kind v e =
        let x = held-step s i kind u.place w v u.laid u.stands u.quiet u.agrees u.orderly e in
        let a = active_run s i u.term u.inputs u.member u.idle u.calm n u.place u.ran u.agrees in
        let later = preserved_along signature (fragment_labels i a.way.kinds) u.cells s a.behind u.typed (UnderWay-runs s i n u.place.fresh a.behind a.way) in
        let step = step-is Side.Protected (with_inputs x.inputs u.place) x.last x.steps in
        let typed_term = each-at (IsMember signature later.0) a.behind.members i u.place.term a.member later.2.typed.members in
        let act = found_act signature later.0 u.place.term Typ.Unit typed_term Side.Protected step.redex step.stands in
        let count : n + 1 ≡ suc n = omega arith in
        record {
          cells = u.cells;
          typed = u.typed;
          idle = u.idle;
          term = u.term;
          member = u.member;
          calm = u.calm;
          inputs = u.inputs ++ x.inputs;
          place = x.last;
          ran =
              ap (local Side.Protected u.term (u.inputs ++ x.inputs)) count
              ∙ ap (option_and_then (one_step Side.Protected)) (goes-more Side.Protected (begun_with u.term u.inputs) u.place x.inputs n u.ran)
              ∙ ap (λ (xs : List Val). one_step Side.Protected (with_inputs (xs ++ x.inputs) u.place)) u.used ∙ x.steps;
          used = x.used;
          quiet = x.answer;
          made = x.fresh ∙ ap (λ (ls : List ℕ). ls ++ fresh_of kind) u.made;
          agrees = x.agrees;
          untouched = step-apart signature u.cells later.0 s later.1 u.typed (with_inputs x.inputs u.place) x.last step act.0 act.1 x.agrees (λ l content is. u.untouched l content is);
          set = step-set Side.Protected (with_inputs x.inputs u.place) x.last x.steps u.set;
          laid = x.laid;
          stands = x.member;
          orderly = x.orderly;
        }

    -- A label of another member, which is legal in the state below.

    clash-of : (o : Option Val) → is_some o ≡ true → o ≡ None → ⊥
    clash-of o there none = let clash : true ≡ false = sym there ∙ ap is_some none in cc

    untouched-later : (t : State) (later : StoreTyping) → Grows u.cells later → IsTyped signature later t → ChangesApart s t u.place → IsApart later u.place
    untouched-later t later grows typed apart l content is = by (at s.store l) refl
      where
        new : at s.store l ≡ None → (at t.store l ≡ at s.store l) ⊎ (at u.place.sets l ≡ None) → IsUntouched l u.place
        new none (inl same) = absurd (clash-of (at t.store l) (typed.located l (Sort.Unprotected, content) is) (same ∙ none))
        new none (inr unset) = (unset, unseen s.store l none u.place.seen u.agrees.seen)

        by : (o : Option Val) → at s.store l ≡ o → IsUntouched l u.place
        by None none = new none (apart l)
        by (Some v) found =
            let k = u.typed.typed.stored l v found in
            let both : ◌≡◌ {A = Option (Sort × Typ)} (Some k.0) (Some (Sort.Unprotected, content)) = sym (grows l k.0 k.1) ∙ is in
            let same : k.0 ≡ (Sort.Unprotected, content) = cc in
            u.untouched l content (k.1 ∙ ap Some same)

    moved-on : (label : Label) (t y : State) → after s label ≡ Some t → IsBelow s i u.place w y t → IsOrderly y → IsUnderWay signature t i n fresh (moved w y)
    moved-on label t y legal k orderly =
        let later = kept signature u.cells s label t u.typed legal in
        record {
          cells = later.0;
          typed = later.2;
          idle = k.active ∙ u.idle;
          term = u.term;
          member = k.stays ∙ u.member;
          calm = u.calm;
          inputs = u.inputs;
          place = u.place;
          ran = u.ran;
          used = u.used;
          quiet = u.quiet;
          made = u.made;
          agrees = k.agrees;
          untouched = untouched-later t later.0 later.1 later.2 k.apart;
          set = u.set;
          laid = k.laid;
          stands = k.own ∙ u.stands;
          orderly = orderly;
        }

    pub way-free : (j : ℕ) (kind : StepKind) (y : State) → (j ≡ i → ⊥) → may_free (Some i) kind ≡ true → reduce Side.Unprotected kind j w.state ≡ Some y
        → (t : State) × (after s (Label.Free j kind) ≡ Some t) × IsUnderWay signature t i n fresh (moved w y)
    unfolding after
    way-free j kind y other may e =
        let k = free-below signature u.cells s i u.place w u.typed u.laid u.agrees u.set (λ l content is. u.untouched l content is) number-below j kind y other may e in
        let legal : after s (Label.Free j kind) ≡ Some k.0 = ap (λ (o : Option ℕ). if is_none o then reduce Side.Unprotected kind j s else None) u.idle ∙ k.1 in
        (k.0, legal, moved-on (Label.Free j kind) k.0 y legal k.2 ((reduce-goes Side.Unprotected kind j w.state y e).orderly u.orderly))

    pub way-close : (j : ℕ) (y : State) → (j ≡ i → ⊥) → closed j w.state ≡ Some y
        → (t : State) × (after s (Label.Close j) ≡ Some t) × IsUnderWay signature t i n fresh (moved w y)
    unfolding after
    way-close j y other e =
        let k = close-below signature u.cells s i u.place w u.typed u.laid u.agrees u.set (λ l content is. u.untouched l content is) number-below j y other e in
        let legal : after s (Label.Close j) ≡ Some k.0 = ap (λ (o : Option ℕ). if is_none o then closed j s else None) u.idle ∙ k.1 in
        (k.0, legal, moved-on (Label.Close j) k.0 y legal k.2 ((closed-goes j w.state y e).orderly u.orderly))
