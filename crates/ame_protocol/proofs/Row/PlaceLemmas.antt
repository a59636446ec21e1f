-- The places of a run after one more input.
use Rattle.std.proofs.Common.{◌≡◌, ℕ, zero, suc, ◌+◌, ◌⊎◌, inl, inr, List, [], ◌∷◌, ◌++◌, Option, Some, None, refl, sym, ap, ◌∙◌, subst, arith}
use Rattle.std.proofs.lemmas.Option.{option_and_then_some}
use Rattle.ame_term.specs.Tree.{Val, Tree}
use Rattle.ame_term.specs.Signature.{unlisted}
use Rattle.ame_term.specs.Frame.{Side}
use Rattle.ame_term.specs.Context.{Focus, focus}
use Rattle.ame_term.specs.Act.{Act, act_of}
use Rattle.ame_term.specs.Maps.{at}
use Rattle.ame_machine.specs.Run.Local.{LocalState, taken_where, fed, refilled_in, one_step, goes, given_more}
use Rattle.ame_machine.proofs.Run.RunLemmas.{Feeds, Acts, step-is, step-of, acted-more, feeds-of, goes-added, goes-on, goes-more, one-more}
use Rattle.ame_machine.proofs.Run.TypedLemmas.{feeds-inputs, goes-empty, compared}

-- two places have one footprint
pub record SameFootprint (p q : LocalState) : Type 0 where
  pub seen : p.seen ≡ q.seen
  pub own : p.own ≡ q.own
  pub made : p.made ≡ q.made
  pub sets : p.sets ≡ q.sets

footprint-itself : (p : LocalState) → SameFootprint p p
footprint-itself p = record { seen = refl; own = refl; made = refl; sets = refl }

footprint-trans : (p q r : LocalState) → SameFootprint p q → SameFootprint q r → SameFootprint p r
footprint-trans p q r a b = record { seen = a.seen ∙ b.seen; own = a.own ∙ b.own; made = a.made ∙ b.made; sets = a.sets ∙ b.sets }

-- an act without an input leaves it
acts-footprint : (p : LocalState) (side : Side) (act : Act) (part : Tree) (q : LocalState) → Acts p side act part q → p.inputs ≡ [] → SameFootprint p q
acts-footprint p _ _ _ _ (Acts.feeds side act v inputs part q is given) empty = absurd (let clash : v ∷ inputs ≡ [] = sym is ∙ empty in cc)
acts-footprint p _ _ _ _ _ empty = record { seen = refl; own = refl; made = refl; sets = refl }

step-footprint : (side : Side) (p q : LocalState) → one_step side p ≡ Some q → p.inputs ≡ [] → SameFootprint p q
step-footprint side p q e empty =
    let x = step-is side p q e in
    let a = acts-footprint p side (act_of x.redex) x.part x.behind x.acts empty in
    record {
      seen = a.seen ∙ sym (ap (λ (z : LocalState). z.seen) x.is);
      own = a.own ∙ sym (ap (λ (z : LocalState). z.own) x.is);
      made = a.made ∙ sym (ap (λ (z : LocalState). z.made) x.is);
      sets = a.sets ∙ sym (ap (λ (z : LocalState). z.sets) x.is);
    }

pub goes-footprint : (side : Side) (p q : LocalState) (n : ℕ) → goes side p n ≡ Some q → p.inputs ≡ [] → SameFootprint p q
goes-footprint side p q zero e empty = let same : p ≡ q = cc in subst (SameFootprint p) same (footprint-itself p)
goes-footprint side p q (suc n) e empty =
    option_and_then_some _ _ _ e (λ r first second.
    footprint-trans p r q (goes-footprint side p r n first empty) (step-footprint side r q second (goes-empty side p r n first empty)))

-- Protected code calls no device.

taken-quiet : (o : Option Val) (l : ℕ) (v : Val) (p : LocalState) → (taken_where o l v p).answer ≡ p.answer
taken-quiet None l v p = refl
taken-quiet (Some w) l v p = refl

feeds-quiet : (p : LocalState) (side : Side) (act : Act) (v : Val) (part : Tree) (q : LocalState) → Feeds p side act v part q → side ≡ Side.Protected → q.answer ≡ p.answer
feeds-quiet p _ _ _ _ _ (Feeds.allocates side sort number v l) e = refl
feeds-quiet p _ _ _ _ _ (Feeds.reads side l v) e = taken-quiet (at p.sets l) l v p
feeds-quiet p _ _ _ _ _ (Feeds.peeks l v) e = taken-quiet (at p.sets l) l v p
feeds-quiet p _ _ _ _ _ (Feeds.writes side l v) e = refl
feeds-quiet p _ _ _ _ _ (Feeds.spawns body) e = refl
feeds-quiet p _ _ _ _ _ (Feeds.prints n) e = refl
feeds-quiet p _ _ _ _ _ (Feeds.calls device n answer) e = absurd (let clash : Side.Unprotected ≡ Side.Protected = e in cc)

acts-quiet : (p : LocalState) (side : Side) (act : Act) (part : Tree) (q : LocalState) → Acts p side act part q → side ≡ Side.Protected → q.answer ≡ p.answer
acts-quiet p _ _ _ _ (Acts.feeds side act v inputs part q is given) e = feeds-quiet (record p { inputs = inputs }) side act v part q given e
acts-quiet p _ _ _ _ (Acts.becomes side term) e = refl
acts-quiet p _ _ _ _ (Acts.spawns body) e = refl
acts-quiet p _ _ _ _ (Acts.prints n) e = refl
acts-quiet p _ _ _ _ Acts.passes e = refl

pub goes-quiet : (p q : LocalState) (n : ℕ) → goes Side.Protected p n ≡ Some q → p.answer ≡ None → q.answer ≡ None
goes-quiet p q zero e quiet = let same : p ≡ q = cc in subst (λ (z : LocalState). z.answer ≡ None) same quiet
goes-quiet p q (suc n) e quiet =
    option_and_then_some _ _ _ e (λ r first second.
    let x = step-is Side.Protected r q second in
    ap (λ (z : LocalState). z.answer) x.is ∙ acts-quiet r Side.Protected (act_of x.redex) x.part x.behind x.acts refl ∙ x.resting)

-- a run that has used all inputs, and stands at an act that takes one more
module _ (side : Side) (start p : LocalState) (redex : Tree) (n : ℕ) (v : Val) (made : Tree × LocalState)
    (ran : goes side start n ≡ Some p) (empty : p.inputs ≡ []) (stands : focus p.term ≡ Focus.AtRedex side redex) (gives : fed (act_of redex) side v p ≡ Some made) where
  ran-more : goes side (given_more (v ∷ []) start) n ≡ Some (given_more (v ∷ []) p)
  ran-more = goes-more side start p (v ∷ []) n ran

  -- the step that uses the input
  used : (r : LocalState) → one_step side (given_more (v ∷ []) p) ≡ Some r → SameFootprint made.1 r × (r.inputs ≡ [])
  used r e =
      let x = step-is side (given_more (v ∷ []) p) r e in
      let known : one_step side (given_more (v ∷ []) p) ≡ Some (refilled_in p.term made) =
      step-of side (given_more (v ∷ []) p) redex made x.resting stands (acted-more side p (act_of redex) v made empty gives) in
      let opened : ◌≡◌ {A = Option LocalState} (Some (refilled_in p.term made)) (Some r) = sym known ∙ e in
      let same : refilled_in p.term made ≡ r = cc in
      let left : made.1.inputs ≡ p.inputs = feeds-inputs p side (act_of redex) v made.0 made.1 (feeds-of p side (act_of redex) v made gives) in (
        record {
          seen = ap (λ (z : LocalState). z.seen) same;
          own = ap (λ (z : LocalState). z.own) same;
          made = ap (λ (z : LocalState). z.made) same;
          sets = ap (λ (z : LocalState). z.sets) same;
        },
        ap (λ (z : LocalState). z.inputs) (sym same) ∙ left ∙ empty,
      )

  -- that step leads to a place that has used all inputs
  pub later-place : p.answer ≡ None → goes side (given_more (v ∷ []) start) (n + 1) ≡ Some (refilled_in p.term made)
  later-place quiet = one-more side start p redex v n made ran empty quiet stands gives

  pub later-used : (refilled_in p.term made).inputs ≡ []
  later-used = feeds-inputs p side (act_of redex) v made.0 made.1 (feeds-of p side (act_of redex) v made gives) ∙ empty

  -- each place that has used all inputs, this one too, stands after that step
  pub later-footprint : (m : ℕ) (q : LocalState) → goes side (given_more (v ∷ []) start) m ≡ Some q → q.inputs ≡ [] → SameFootprint made.1 q
  later-footprint m q e done = by (compared (unlisted 0) (λ _. None) m n)
    where
      by : ((d : ℕ) × (n ≡ m + d)) ⊎ ((d : ℕ) × (m ≡ n + suc d)) → SameFootprint made.1 q
      by (inl k) =
          let later : goes side q k.0 ≡ Some (given_more (v ∷ []) p) =
          goes-on side (given_more (v ∷ []) start) q (given_more (v ∷ []) p) m k.0 e (ap (goes side (given_more (v ∷ []) start)) (sym k.1) ∙ ran-more) in
          let none : p.inputs ++ v ∷ [] ≡ [] = goes-empty side q (given_more (v ∷ []) p) k.0 later done in
          let clash : ◌≡◌ {A = List Val} (v ∷ []) [] = sym (ap (λ (xs : List Val). xs ++ v ∷ []) empty) ∙ none in
          absurd (cc)
      by (inr k) =
          let later : goes side (given_more (v ∷ []) p) (suc k.0) ≡ Some q =
          goes-on side (given_more (v ∷ []) start) (given_more (v ∷ []) p) q n (suc k.0) ran-more (ap (goes side (given_more (v ∷ []) start)) (sym k.1) ∙ e) in
          let count : suc k.0 ≡ suc zero + k.0 = omega arith in
          option_and_then_some _ _ _ (sym (goes-added side (given_more (v ∷ []) p) (suc zero) k.0) ∙ ap (goes side (given_more (v ∷ []) p)) (sym count) ∙ later) (λ r first rest.
          let u = used r first in
          footprint-trans made.1 r q u.0 (goes-footprint side r q k.0 rest u.1))
