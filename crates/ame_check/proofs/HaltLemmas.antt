-- Places at which no further step can be made.
use Rattle.std.proofs.Common.{◌≡◌, ℕ, suc, ◌+◌, ◌-◌, ◌<◌, ◌≤◌, ◌==◌, ◌⊎◌, inl, inr, ℤ, Bool, true, false, List, [], ◌∷◌, ◌++◌, Option, Some, None, is_some, refl, sym, ap, ◌∙◌, subst, arith, append-nil, append_assoc, if◌then◌else◌}
use Rattle.std.specs.Option.{option_and_then, option_map}
use Rattle.std.proofs.lemmas.Bool.{eqb-true, cases_lt}
use Rattle.std.proofs.lemmas.List.{append_cancel_left}
use Rattle.ame_term.specs.Tree.{Val, Tree}
use Rattle.ame_term.specs.Signature.{Signature}
use Rattle.ame_term.specs.Frame.{Side}
use Rattle.ame_term.specs.Context.{Focus, focus}
use Rattle.ame_term.specs.Act.{Act, act_of, StepName, makes}
use Rattle.ame_term.specs.Maps.{at, put}
use Rattle.ame_term.specs.State.{State, after, at_value, at_unprotected, closed_value, performed}
use Rattle.ame_term.specs.declared.types.TyNo.{TyNo}
use Rattle.ame_term.specs.declared.types.Unary.TheVariants as unary
use Rattle.ame_term.specs.declared.semantics.StepKind.{StepKind}
use Rattle.ame_laws.specs.Typed.StoreTyping.{StoreTyping}
use Rattle.ame_journal.specs.Replayed.{is_false_condition, is_tall}
use Rattle.ame_journal.specs.Replay.{steps, Supply, member_act, redex_act, next_kind, step_by_name}
use Rattle.ame_journal.proofs.StepLemmas.{IsReduced, step-reduced, free-reduced}
use Rattle.ame_machine.proofs.RunnableLemmas.{closing-form}
use Rattle.ame_machine.specs.Run.Local.{LocalState}
use Rattle.ame_check.proofs.TallLemmas.{low-more, same-there, steps-split}
use Rattle.ame_check.specs.Walk.{label_by, active_on, begun_on, steps_on, Halts, ComesToTall, IsStepping, IsNoWalk}

-- a legal label of a member that is active on a side
pub reduced-on : (side : Side) (kind : StepKind) (i : ℕ) (s u : State) → s.active ≡ active_on side i → after s (label_by side i kind) ≡ Some u → IsReduced side kind i s u
reduced-on Side.Protected kind i s u active e = step-reduced kind i s u active e
reduced-on Side.Unprotected kind i s u active e = free-reduced kind i s u e

none-or-some : {X : Type 0} (o : Option X) → (o ≡ None) ⊎ ((x : X) × (o ≡ Some x))
none-or-some None = inl refl
none-or-some (Some x) = inr (x, refl)

-- no label is legal
module _ (side : Side) (i : ℕ) (t : State) where
  first-none : (k : ℕ) (supply : Supply) (act : Act) → member_act i t ≡ Some act
      → option_and_then (λ next. option_and_then (λ u. steps (label_by side i) i k next.1 u) (after t (label_by side i next.0))) (next_kind (k == 0) act supply.fresh supply.answer) ≡ None
      → steps (label_by side i) i (suc k) supply t ≡ None
  first-none k supply act is none =
      ap (λ o. option_and_then (λ a. option_and_then (λ next. option_and_then (λ u. steps (label_by side i) i k next.1 u) (after t (label_by side i next.0)))
      (next_kind (k == 0) a supply.fresh supply.answer)) o) is ∙ none

  kinds-none : (k : ℕ) (o : Option (StepKind × Supply)) → ((next : StepKind × Supply) → o ≡ Some next → after t (label_by side i next.0) ≡ None)
      → option_and_then (λ next. option_and_then (λ u. steps (label_by side i) i k next.1 u) (after t (label_by side i next.0))) o ≡ None
  kinds-none k None none = refl
  kinds-none k (Some next) none = ap (option_and_then (λ u. steps (label_by side i) i k next.1 u)) (none next refl)

  unmoved-by : (k : ℕ) (supply : Supply) → ((act : Act) (next : StepKind × Supply) → member_act i t ≡ Some act → next_kind (k == 0) act supply.fresh supply.answer ≡ Some next
      → after t (label_by side i next.0) ≡ None) → steps (label_by side i) i (suc k) supply t ≡ None
  unmoved-by k supply none = by (none-or-some (member_act i t))
    where
      by : (member_act i t ≡ None) ⊎ ((act : Act) × (member_act i t ≡ Some act)) → steps (label_by side i) i (suc k) supply t ≡ None
      by (inl is) =
          ap (λ o. option_and_then (λ a. option_and_then (λ next. option_and_then (λ u. steps (label_by side i) i k next.1 u) (after t (label_by side i next.0)))
          (next_kind (k == 0) a supply.fresh supply.answer)) o) is
      by (inr (act, is)) = first-none k supply act is (kinds-none k (next_kind (k == 0) act supply.fresh supply.answer) (λ next e. none act next is e))

  one-more : (k : ℕ) → k + 1 ≡ suc k
  one-more k = omega arith

  pub halts-by : (rest : List ℕ) → ((k : ℕ) (answer : Option ℤ) → (k ≡ 0 → answer ≡ None) → steps (label_by side i) i (suc k) (record { fresh = rest; answer = answer }) t ≡ None) → Halts side i t rest
  halts-by rest none k answer cond = ap (λ (n : ℕ). steps_on side i n rest answer t) (one-more k) ∙ none k answer cond

  never-legal : ((kind : StepKind) (u : State) → after t (label_by side i kind) ≡ Some u → ⊥) → (kind : StepKind) → after t (label_by side i kind) ≡ None
  never-legal never kind = by (none-or-some (after t (label_by side i kind)))
    where
      by : (after t (label_by side i kind) ≡ None) ⊎ ((u : State) × (after t (label_by side i kind) ≡ Some u)) → after t (label_by side i kind) ≡ None
      by (inl is) = is
      by (inr (u, is)) = absurd (never kind u is)

  pub halts-unmoved : (rest : List ℕ) → ((kind : StepKind) (u : State) → after t (label_by side i kind) ≡ Some u → ⊥) → Halts side i t rest
  halts-unmoved rest never = halts-by rest (λ k answer cond. unmoved-by k (record { fresh = rest; answer = answer }) (λ act next is e. never-legal never next.0))

  -- a device is called in the last step alone, with an answer
  device-none : (b : Bool) (rest : List ℕ) (answer : Option ℤ) → (b ≡ true → answer ≡ None) → step_by_name StepName.Device b rest answer ≡ None
  device-none true rest None none = refl
  device-none true rest (Some a) none = absurd (let e : Some a ≡ None = none refl in cc)
  device-none false rest answer none = refl

  pub halts-device : (rest : List ℕ) (device : ℕ) (n : ℤ) → member_act i t ≡ Some (Act.Calls device n) → Halts side i t rest
  halts-device rest device n is =
      halts-by rest (λ k answer cond. first-none k (record { fresh = rest; answer = answer }) (Act.Calls device n) is
      (kinds-none k (step_by_name StepName.Device (k == 0) rest answer)
      (λ next e. absurd (let none = device-none (k == 0) rest answer (λ zero. cond (eqb-true k 0 zero)) in
      let clash : None ≡ Some next = sym none ∙ e in cc))))

  -- without a location to use, none is allocated
  pub halts-out : (sort : _) (number : TyNo) (v : Val) → member_act i t ≡ Some (Act.Allocates sort number v) → Halts side i t []
  halts-out sort number v is = halts-by [] (λ k answer cond. first-none k (record { fresh = []; answer = answer }) (Act.Allocates sort number v) is refl)

  -- nor is one that is in the store
  pub halts-taken : (sort : _) (number : TyNo) (v w : Val) (l : ℕ) (rest : List ℕ) → t.active ≡ active_on side i → member_act i t ≡ Some (Act.Allocates sort number v) → at t.store l ≡ Some w → Halts side i t (l ∷ rest)
  halts-taken sort number v w l rest active is there =
      halts-by (l ∷ rest) (λ k answer cond. first-none k (record { fresh = l ∷ rest; answer = answer }) (Act.Allocates sort number v) is
      (ap (option_and_then (λ u. steps (label_by side i) i k (record { fresh = rest; answer = answer }) u)) (illegal (none-or-some (after t (label_by side i (StepKind.Alloc (record { 0 = l }))))))))
    where
      taken : (act : Act) (result : Tree × State) → Act.Allocates sort number v ≡ act → performed (StepKind.Alloc (record { 0 = l })) act t ≡ Some result → ⊥
      taken act result same made =
          let here : performed (StepKind.Alloc (record { 0 = l })) (Act.Allocates sort number v) t ≡ Some result = ap (λ (a : Act). performed (StepKind.Alloc (record { 0 = l })) a t) same ∙ made in
          let clash : None ≡ Some result = sym (ap (λ (o : Option Val). if is_some o then None else Some (Tree.Held (Val.Loc l), record t { store = put t.store l v })) there) ∙ here in
          cc

      illegal : (after t (label_by side i (StepKind.Alloc (record { 0 = l }))) ≡ None) ⊎ ((u : State) × (after t (label_by side i (StepKind.Alloc (record { 0 = l }))) ≡ Some u))
          → after t (label_by side i (StepKind.Alloc (record { 0 = l }))) ≡ None
      illegal (inl none) = none
      illegal (inr (u, e)) =
          let x = reduced-on side (StepKind.Alloc (record { 0 = l })) i t u active e in
          absurd (taken x.act x.result (let both : Some (Act.Allocates sort number v) ≡ Some x.act = sym is ∙ x.is_act in cc) x.made)

-- Places at which no label is legal

module _ (side : Side) (i : ℕ) (t : State) (term : Tree) (member : at t.members i ≡ Some term) (active : t.active ≡ active_on side i) where
  -- the redex that a legal label reduces
  its-redex : (kind : StepKind) (u : State) (x : IsReduced side kind i t u) → focus term ≡ Focus.AtRedex side x.redex
  its-redex kind u x = let same : Some term ≡ Some x.term = sym member ∙ x.is_member in let one : term ≡ x.term = cc in ap focus one ∙ x.stands

  its-act : (kind : StepKind) (u : State) (x : IsReduced side kind i t u) → act_of x.redex ≡ x.act
  its-act kind u x =
      let a : member_act i t ≡ Some (act_of x.redex) =
      ap (option_and_then (λ (z : Tree). redex_act (focus z))) member ∙ ap redex_act (its-redex kind u x) in
      let both : Some (act_of x.redex) ≡ Some x.act = sym a ∙ x.is_act in cc

  -- its redex does nothing that can be made
  still : (rest : List ℕ) → ((kind : StepKind) (redex : Tree) → focus term ≡ Focus.AtRedex side redex → makes side kind (act_of redex) ≡ true → ⊥) → Halts side i t rest
  still rest never = halts-unmoved side i t rest (λ kind u e.
      let x = reduced-on side kind i t u active e in
      never kind x.redex (its-redex kind u x) (ap (makes side kind) (its-act kind u x) ∙ x.can))

  pub halts-value : (rest : List ℕ) → at_value (focus term) ≡ true → Halts side i t rest
  halts-value rest value = still rest (λ kind redex stands can. let clash : true ≡ false = sym value ∙ ap at_value stands in cc)

  unleft : (kind : StepKind) (redex : Tree) → at_unprotected (Focus.AtRedex Side.Protected redex) ≡ true → makes Side.Protected kind (act_of redex) ≡ true → ⊥
  unfolding act_of
  unleft kind (Tree.Unprotected (Tree.Held v)) stands can = cc
  unleft kind (Tree.Unprotected _) stands can = cc
  unleft kind _ stands can = cc

  pub halts-unprotected : (rest : List ℕ) → side ≡ Side.Protected → at_unprotected (focus term) ≡ true → Halts side i t rest
  halts-unprotected rest on stands_there = still rest (λ kind redex stands can.
      unleft kind redex (ap (λ (z : Side). at_unprotected (Focus.AtRedex z redex)) (sym on) ∙ sym (ap at_unprotected stands) ∙ stands_there)
      (ap (λ (z : Side). makes z kind (act_of redex)) (sym on) ∙ can))

  failing-form : (f : Focus) → is_false_condition f ≡ true → f ≡ Focus.AtRedex Side.Protected (Tree.One unary.Block (Tree.Held (Val.Bool false)))
  failing-form (Focus.AtRedex Side.Protected (Tree.One unary.Block (Tree.Held (Val.Bool false)))) e = refl
  failing-form _ e = cc

  unpassed : (kind : StepKind) (redex : Tree) → Tree.One unary.Block (Tree.Held (Val.Bool false)) ≡ redex → makes side kind (act_of redex) ≡ true → ⊥
  unfolding act_of
  unpassed kind redex same can = let clash : false ≡ true = ap (λ (z : Tree). makes side kind (act_of z)) same ∙ can in cc

  pub halts-failing : (rest : List ℕ) → is_false_condition (focus term) ≡ true → Halts side i t rest
  halts-failing rest fails = still rest (λ kind redex stands can.
      unpassed kind redex (let both : Focus.AtRedex Side.Protected (Tree.One unary.Block (Tree.Held (Val.Bool false))) ≡ Focus.AtRedex side redex = sym (failing-form (focus term) fails) ∙ stands in cc) can)

  unclosed : (kind : StepKind) (redex : Tree) (v : Val) → Tree.Unprotected (Tree.Held v) ≡ redex → makes side kind (act_of redex) ≡ true → ⊥
  unfolding act_of
  unclosed kind redex v same can = let clash : false ≡ true = ap (λ (z : Tree). makes side kind (act_of z)) same ∙ can in cc

  pub halts-closing : (rest : List ℕ) (v : Val) → closed_value (focus term) ≡ Some v → Halts side i t rest
  halts-closing rest v closes = still rest (λ kind redex stands can.
      unclosed kind redex v (let both : Focus.AtRedex Side.Protected (Tree.Unprotected (Tree.Held v)) ≡ Focus.AtRedex side redex = sym (closing-form (focus term) v closes) ∙ stands in cc) can)

  -- what isn't in the store isn't read
  absent : (kind : StepKind) (l : ℕ) (act : Act) (result : Tree × State) → at t.store l ≡ None → (act ≡ Act.Reads l) ⊎ (act ≡ Act.Peeks l) → performed kind act t ≡ Some result → ⊥
  absent kind l act result none (inl is) made =
      let here : performed kind (Act.Reads l) t ≡ Some result = ap (λ (a : Act). performed kind a t) (sym is) ∙ made in
      let clash : None ≡ Some result = sym (ap (option_map {U = Tree × State} (λ v. (Tree.Held v, t))) none) ∙ here in cc
  absent kind l act result none (inr is) made =
      let here : performed kind (Act.Peeks l) t ≡ Some result = ap (λ (a : Act). performed kind a t) (sym is) ∙ made in
      let clash : None ≡ Some result = sym (ap (option_map {U = Tree × State} (λ v. (Tree.Held v, t))) none) ∙ here in cc

  pub halts-absent : (rest : List ℕ) (l : ℕ) (redex : Tree) → focus term ≡ Focus.AtRedex side redex → (act_of redex ≡ Act.Reads l) ⊎ (act_of redex ≡ Act.Peeks l) → at t.store l ≡ None → Halts side i t rest
  halts-absent rest l redex stands reads none = halts-unmoved side i t rest (λ kind u e.
      let x = reduced-on side kind i t u active e in
      let both : Focus.AtRedex side redex ≡ Focus.AtRedex side x.redex = sym stands ∙ its-redex kind u x in
      let one : redex ≡ x.redex = cc in
      let same : x.act ≡ act_of redex = sym (its-act kind u x) ∙ ap act_of (sym one) in
      absent kind l x.act x.result none (moved same reads) x.made)
    where
      moved : {a b : Act} → a ≡ b → (b ≡ Act.Reads l) ⊎ (b ≡ Act.Peeks l) → (a ≡ Act.Reads l) ⊎ (a ≡ Act.Peeks l)
      moved same (inl is) = inl (same ∙ is)
      moved same (inr is) = inr (same ∙ is)

-- no further step can be made with what is left of the locations, nor with a prefix of that
abbrev pub HaltsBy : Side → ℕ → State → List ℕ → Type 0
HaltsBy side i t rest = (used more : List ℕ) → rest ≡ used ++ more → Halts side i t used

-- nor is one made if none is left, or the first is in the store
pub halts-by_taken : (side : Side) (i : ℕ) (t : State) (sort : _) (number : TyNo) (v w : Val) (l : ℕ) (rest : List ℕ) → t.active ≡ active_on side i → member_act i t ≡ Some (Act.Allocates sort number v) → at t.store l ≡ Some w
    → HaltsBy side i t (l ∷ rest)
halts-by_taken side i t sort number v w l rest active is there [] more e = halts-out side i t sort number v is
halts-by_taken side i t sort number v w l rest active is there (k ∷ used) more e =
    let same : l ≡ k = cc in
    subst (λ (z : ℕ). Halts side i t (z ∷ used)) same (halts-taken side i t sort number v w l used active is there)

pub halts-by_out : (side : Side) (i : ℕ) (t : State) (sort : _) (number : TyNo) (v : Val) → member_act i t ≡ Some (Act.Allocates sort number v) → HaltsBy side i t []
halts-by_out side i t sort number v is [] more e = halts-out side i t sort number v is
halts-by_out side i t sort number v is (k ∷ used) more e = cc

-- If a walk can't go on, there is none of more steps, and no tall form is passed

module _ {types : StoreTyping} (signature : Signature) (s : State) (i : ℕ) (side : Side) (p : LocalState) (n : ℕ) (g : IsStepping signature types s i side p n) (fresh rest : List ℕ) (front : fresh ≡ p.fresh ++ rest)
    (calm : is_tall side i g.now ≡ true → ⊥) (halts : HaltsBy side i g.now rest) (total : ℕ) (below : n < total) where
  never-walks : (k : ℕ) (answer : Option ℤ) → total ≤ k → (k ≡ total → answer ≡ None) → steps_on side i k fresh answer (begun_on side i s) ≡ None
  never-walks k answer far cond =
      let left = k - (n + 1) in
      let count : k ≡ n + (left + 1) = omega arith in
      let last : left ≡ 0 → answer ≡ None = λ zero. cond (omega arith) in
      ap (λ (z : ℕ). steps_on side i z fresh answer (begun_on side i s)) count
      ∙ ap (λ (z : List ℕ). steps_on side i (n + (left + 1)) z answer (begun_on side i s)) front
      ∙ g.goes (left + 1) rest answer ∙ halts rest [] (sym (append-nil rest)) left answer last

  beyond : (k : ℕ) (c : ComesToTall side i k (p.fresh ++ rest) s) → n < c.made → ⊥
  beyond k c far =
      let left = c.made - (n + 1) in
      let count : c.made ≡ n + (left + 1) = omega arith in
      let h = steps-split (label_by side i) i n (left + 1) c.used (begun_on side i s) c.there (ap (λ (k : ℕ). steps_on side i k c.used None (begun_on side i s)) (sym count) ∙ c.leads) in
      let front = c.front ∙ ap (λ (xs : List ℕ). xs ++ c.rest) h.are ∙ append_assoc h.first h.others c.rest in
      let same = same-there signature s i side p n g rest h.first (h.others ++ c.rest) h.between front h.before in
      let left_over = append_cancel_left p.fresh rest (h.others ++ c.rest) (front ∙ ap (λ (xs : List ℕ). xs ++ (h.others ++ c.rest)) (sym same.0)) in
      let clash : None ≡ Some c.there = sym (halts h.others c.rest left_over left None (λ e. refl)) ∙ ap (steps_on side i (left + 1) h.others None) same.1 ∙ h.behind in
      cc

  pub halts-no_walk : IsNoWalk side i total fresh s
  halts-no_walk = record {
    never = never-walks;
    low = λ k c. elim (cases_lt n c.made) [
      | inl far ↦ beyond k (moved k c) far
      | inr near ↦ low-more signature s i side p n g calm rest (record { made = c.made; below = omega (arith, near); used = c.used; rest = c.rest; front = sym front ∙ c.front; there = c.there; leads = c.leads; tall = c.tall })
    ];
  }
    where
      moved : (k : ℕ) → ComesToTall side i k fresh s → ComesToTall side i k (p.fresh ++ rest) s
      moved k c = subst (λ (xs : List ℕ). ComesToTall side i k xs s) front c
