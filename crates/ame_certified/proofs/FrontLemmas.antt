-- The first steps of a run that agrees with a state, and where as many steps with its locations lead there.
use Rattle.std.proofs.Common.{◌≡◌, ℕ, zero, suc, ◌≤◌, ◌<◌, ◌⊎◌, inl, inr, ℤ, false, List, [], ◌∷◌, ◌++◌, append-nil, append_assoc, Option, Some, None, option_and_then, if◌then◌else◌, refl, sym, ap, ◌∙◌, subst, arith}
use Rattle.std.proofs.lemmas.Bool.{cases_lt}
use Rattle.std.proofs.lemmas.Option.{option_and_then_some}
use Rattle.ame_term.specs.Tree.{Val, Tree}
use Rattle.ame_term.specs.Frame.{Side}
use Rattle.ame_term.specs.Act.{Act, act_of}
use Rattle.ame_term.specs.Context.{focus}
use Rattle.ame_term.specs.Maps.{at}
use Rattle.ame_term.specs.State.{State, at_unprotected}
use Rattle.ame_term.specs.declared.semantics.StepKind.{StepKind}
use Rattle.ame_term.specs.declared.semantics.Label.{Label}
use Rattle.ame_journal.specs.Labels.{AreSteps}
use Rattle.ame_journal.specs.Replay.{locations, steps, fragment, is_nothing}
use Rattle.ame_journal.proofs.UnfoldLemmas.{fragment-back, free-back}
use Rattle.ame_journal.proofs.UnderWayLemmas.{UnderWay-runs}
use Rattle.ame_machine.specs.Run.Local.{LocalState, taken_where, begun_with, one_step, goes}
use Rattle.ame_machine.specs.Run.AgreesWith.{AgreesWith}
use Rattle.ame_machine.proofs.Run.RunLemmas.{Feeds, Acts, step-is}
use Rattle.ame_machine.proofs.Run.EffectLemmas.{step-agrees}
use Rattle.ame_machine.proofs.Run.ReplayLemmas.{active_run, free_run}
use Rattle.ame_check.proofs.TallLemmas.{steps-all}

-- A step adds locations at the end

took-fresh : (o : Option Val) (l : ℕ) (v : Val) (p : LocalState) → (taken_where o l v p).fresh ≡ p.fresh
took-fresh None l v p = refl
took-fresh (Some w) l v p = refl

feeds-front : (p : LocalState) (side : Side) (act : Act) (v : Val) (part : Tree) (q : LocalState) → Feeds p side act v part q → (more : List ℕ) × (q.fresh ≡ p.fresh ++ more)
feeds-front p _ _ _ _ _ (Feeds.allocates side sort number v l) = (l ∷ [], refl)
feeds-front p _ _ _ _ _ (Feeds.reads side l v) = ([], took-fresh (at p.sets l) l v p ∙ sym (append-nil p.fresh))
feeds-front p _ _ _ _ _ (Feeds.peeks l v) = ([], took-fresh (at p.sets l) l v p ∙ sym (append-nil p.fresh))
feeds-front p _ _ _ _ _ (Feeds.writes side l v) = ([], sym (append-nil p.fresh))
feeds-front p _ _ _ _ _ (Feeds.spawns body) = ([], sym (append-nil p.fresh))
feeds-front p _ _ _ _ _ (Feeds.prints n) = ([], sym (append-nil p.fresh))
feeds-front p _ _ _ _ _ (Feeds.calls device n answer) = ([], sym (append-nil p.fresh))

acts-front : (p : LocalState) (side : Side) (act : Act) (part : Tree) (q : LocalState) → Acts p side act part q → (more : List ℕ) × (q.fresh ≡ p.fresh ++ more)
acts-front p _ _ _ _ (Acts.becomes side term) = ([], sym (append-nil p.fresh))
acts-front p _ _ _ _ (Acts.spawns body) = ([], sym (append-nil p.fresh))
acts-front p _ _ _ _ (Acts.prints n) = ([], sym (append-nil p.fresh))
acts-front p _ _ _ _ Acts.passes = ([], sym (append-nil p.fresh))
acts-front p _ _ _ _ (Acts.feeds side act v inputs part q is fed) = feeds-front (record p { inputs = inputs }) side act v part q fed

step-front : (side : Side) (p q : LocalState) → one_step side p ≡ Some q → (more : List ℕ) × (q.fresh ≡ p.fresh ++ more)
step-front side p q e =
    let x = step-is side p q e in
    let more = acts-front p side (act_of x.redex) x.part x.behind x.acts in
    (more.0, ap (λ (z : LocalState). z.fresh) x.is ∙ more.1)

-- The first steps of a run

-- after j steps of a run to p it stands at a place, which agrees with the store too, and its locations are the first of those at p
pub record HasPassed (side : Side) (store : List (ℕ × Val)) (first : LocalState) (j : ℕ) (p : LocalState) : Type 0 where
  pub there : LocalState
  pub ran : goes side first j ≡ Some there
  pub agrees : AgreesWith store there
  pub more : List ℕ
  pub front : p.fresh ≡ there.fresh ++ more

module _ (side : Side) (store : List (ℕ × Val)) (first : LocalState) where
  pub has-passed : (n j : ℕ) (p : LocalState) → j ≤ n → goes side first n ≡ Some p → AgreesWith store p → HasPassed side store first j p
  has-passed zero j p within e a =
      let none : 0 ≡ j = omega arith in
      subst (λ (k : ℕ). HasPassed side store first k p) none (record { there = p; ran = e; agrees = a; more = []; front = sym (append-nil p.fresh) })
  has-passed (suc n) j p within e a = by (has-passed n j) (cases_lt j (suc n))
    where
      by : ((r : LocalState) → j ≤ n → goes side first n ≡ Some r → AgreesWith store r → HasPassed side store first j r) → (j < suc n) ⊎ (suc n ≤ j)
          → HasPassed side store first j p
      by earlier (inl below) =
          option_and_then_some _ _ _ e (λ r before last.
          let x = earlier r (omega arith) before (step-agrees store side r p last a) in
          let y = step-front side r p last in
          record {
            there = x.there;
            ran = x.ran;
            agrees = x.agrees;
            more = x.more ++ y.0;
            front = y.1 ∙ ap (λ (xs : List ℕ). xs ++ y.0) x.front ∙ append_assoc x.there.fresh x.more y.0;
          })
      by earlier (inr above) =
          let same : suc n ≡ j = omega arith in
          subst (λ (k : ℕ). HasPassed side store first k p) same (record { there = p; ran = e; agrees = a; more = []; front = sym (append-nil p.fresh) })

-- Steps that use the first of the same locations

two-fronts : (a b c d : List ℕ) → a ++ b ≡ c ++ d → ((x : List ℕ) × (c ≡ a ++ x)) ⊎ ((x : List ℕ) × (a ≡ c ++ x))
two-fronts [] b c d e = inl (c, refl)
two-fronts (k ∷ a) b [] d e = inr (k ∷ a, refl)
two-fronts (k ∷ a) b (l ∷ c) d e =
    let head : k ≡ l = cc in
    let tail : a ++ b ≡ c ++ d = cc in
    by head (two-fronts a b c d tail)
  where
    by : k ≡ l → ((x : List ℕ) × (c ≡ a ++ x)) ⊎ ((x : List ℕ) × (a ≡ c ++ x)) → ((x : List ℕ) × (l ∷ c ≡ k ∷ a ++ x)) ⊎ ((x : List ℕ) × (k ∷ a ≡ l ∷ c ++ x))
    by same (inl (x, is)) = inl (x, ap (λ (z : ℕ). z ∷ c) (sym same) ∙ ap (λ (zs : List ℕ). k ∷ zs) is)
    by same (inr (x, is)) = inr (x, ap (λ (z : ℕ). z ∷ a) same ∙ ap (λ (zs : List ℕ). l ∷ zs) is)

-- two ways that use the first of the same locations, and as many steps, lead to one state
abbrev pub AreOneWay : (List ℕ → Option State) → Type 0
AreOneWay leads = (a b x y : List ℕ) (t u : State) → a ++ x ≡ b ++ y → leads a ≡ Some t → leads b ≡ Some u → (a ≡ b) × (t ≡ u)

module _ (label : StepKind → Label) (i n : ℕ) (s : State) where
  exact : (a b x : List ℕ) (t u : State) → b ≡ a ++ x → steps label i n (locations a) s ≡ Some t → steps label i n (locations b) s ≡ Some u → (a ≡ b) × (t ≡ u)
  exact a b x t u is one other = by x is (sym (steps-all label i n a x s t one) ∙ ap (λ (xs : List ℕ). steps label i n (locations xs) s) (sym is) ∙ other)
    where
      by : (x : List ℕ) → b ≡ a ++ x → (if is_nothing x None then Some t else None) ≡ Some u → (a ≡ b) × (t ≡ u)
      by [] is e = (sym (is ∙ append-nil a), cc)
      by (l ∷ x) is e = cc

  pub steps-one : AreOneWay (λ (fresh : List ℕ). steps label i n (locations fresh) s)
  steps-one a b x y t u e one other = by (two-fronts a x b y e)
    where
      by : ((z : List ℕ) × (b ≡ a ++ z)) ⊎ ((z : List ℕ) × (a ≡ b ++ z)) → (a ≡ b) × (t ≡ u)
      by (inl (z, is)) = exact a b z t u is one other
      by (inr (z, is)) = let same = exact b a z u t is other one in (sym same.0, sym same.1)

pub fragment-one : (i n : ℕ) (s : State) → AreOneWay (λ (fresh : List ℕ). fragment i n fresh s)
fragment-one i n s a b x y t u e one other =
    option_and_then_some _ _ _ one (λ v begins first.
    let second : steps Label.Step i n (locations b) v ≡ Some u = sym (ap (option_and_then (λ (z : State). steps Label.Step i n (locations b) z)) begins) ∙ other in
    steps-one Label.Step i n v a b x y t u e first second)

-- The state to which a run leads

-- the steps of a run lead to a state in which the member is what the run has become
pub record LeadsAlong (i : ℕ) (leads : Option State) (p : LocalState) : Type 0 where
  pub behind : State
  pub is : leads ≡ Some behind
  pub member : at behind.members i ≡ Some p.term

module _ (s : State) (i : ℕ) (term : Tree) (inputs : List Val) (member : at s.members i ≡ Some term) (idle : s.active ≡ None) where
  pub leads-protected : (n : ℕ) (p : LocalState) → at_unprotected (focus term) ≡ false → goes Side.Protected (begun_with term inputs) n ≡ Some p → AgreesWith s.store p
      → LeadsAlong i (fragment i n p.fresh s) p
  leads-protected n p calm ran agrees =
      let a = active_run s i term inputs member idle calm n p ran agrees in
      record {
        behind = a.behind;
        is = (fragment-back i a.way.kinds n p.fresh s a.behind a.way.are (UnderWay-runs s i n p.fresh a.behind a.way)).0;
        member = a.member;
      }

  pub leads-free : (n : ℕ) (p : LocalState) → p.answer ≡ None → goes Side.Unprotected (begun_with term inputs) n ≡ Some p → AgreesWith s.store p
      → LeadsAlong i (steps (Label.Free i) i n (locations p.fresh) s) p
  leads-free n p quiet ran agrees =
      let a = free_run s i term inputs member idle n p ran agrees in
      record {
        behind = a.behind;
        is = free-back i a.kinds n p.fresh None s a.behind (subst (λ (o : Option ℤ). AreSteps a.kinds n p.fresh o) quiet a.are) a.made;
        member = a.member;
      }
