-- A member of a typed state goes on, ends, or waits.
use Rattle.std.proofs.Common.{◌≡◌, ℕ, ◌⊎◌, Bool, true, false, not, ◌&&◌, List, [], ◌∷◌, Option, Some, None, refl, sym, ap, subst, ◌∙◌, inl, inr, is_some, is_none}
use Rattle.std.specs.Prelude.{if◌then◌else◌, option_map, option_and_then, IsSome}
use Rattle.ame_term.specs.Tree.{Typ, Val, Tree}
use Rattle.ame_term.specs.Signature.{Signature}
use Rattle.ame_term.specs.Frame.{Side, same_side}
use Rattle.ame_term.specs.Context.{Focus, focus, fill}
use Rattle.ame_term.specs.Act.{Act, act_of, making_on, makes}
use Rattle.ame_term.specs.Maps.{at, change, without}
use Rattle.ame_term.specs.State.{State, performed_on, reduced_at, rewritten, reduce, after, at_unprotected, at_value, closed_value}
use Rattle.ame_term.specs.declared.semantics.StepKind.{StepKind}
use Rattle.ame_term.specs.declared.semantics.Label.{Label}
use Rattle.ame_term.specs.declared.types.Sort.{Sort}
use Rattle.ame_term.specs.declared.types.Effect.{Effect}
use Rattle.ame_laws.proofs.FrameLemmas.{focused, found}
use Rattle.ame_laws.proofs.MapLemmas.{is_at-here, each-at}
use Rattle.ame_laws.specs.Typed.StoreTyping.{StoreTyping}
use Rattle.ame_laws.specs.Typed.Fragment.{IsFragment, effect_at}
use Rattle.ame_laws.specs.Typed.TypedAct.{IsTypedAct}
use Rattle.ame_laws.specs.Typed.TypedState.{IsTyped, IsMember}
use Rattle.ame_laws.specs.Typed.Progress.{waiting, Waits, LeadsOn, GoesOn, StateProgresses, CanBeMade, IsKnown, Progresses, is_stored, is_cell, is_fresh, is_step, is_next}
use Rattle.ame_laws.proofs.Typed.FrameTypes.{placed}
use Rattle.ame_laws.proofs.Typed.RedexSorts.{Sorted, sorted}
use Rattle.ame_laws.proofs.Typed.MakingLemmas.{some-map, is_protected, known_act, can_be_made, made_on, some_kind, kind_named, kind_named-fresh, fresh_in}

waiting_act : act_of waiting ≡ Act.Fails
unfolding act_of
waiting_act = refl

closing_act : (v : Val) → act_of (Tree.Unprotected (Tree.Held v)) ≡ Act.Closes v
unfolding act_of
closing_act v = refl

some-known : {X : Type 0} (o : Option X) → IsSome o → (x : X) × (o ≡ Some x)
some-known None e = absurd (cc)
some-known (Some x) e = (x, refl)

-- the act of the redex of a typed term under protected is of the redex's type
pub found_act : (signature : Signature) (cells : StoreTyping) (term : Tree) (t : Typ) → IsFragment signature cells Effect.Protected term t → (side : Side) (redex : Tree) → focus term ≡ Focus.AtRedex side redex
    → (u : Typ) × IsTypedAct signature cells (effect_at side Effect.Protected) u (act_of redex)
found_act signature cells term t typed side redex e =
    let f = found term redex side e in
    let p = placed signature cells Effect.Protected f.frames redex t (subst (λ (z : Tree). IsFragment signature cells Effect.Protected z t) f.term typed) in
    (p.part_type, subst (λ (z : Side). IsTypedAct signature cells (effect_at z Effect.Protected) p.part_type (act_of redex)) f.on (p.act_typed f.redex))

-- a typed term under protected
module _ (signature : Signature) (cells : StoreTyping) (known : ℕ → Bool) (there : (l : ℕ) (cell : Sort × Typ) → cells l ≡ Some cell → known l ≡ true) where
  at_redex : (side : Side) (redex : Tree) (t : Typ) → IsTypedAct signature cells (effect_at side Effect.Protected) t (act_of redex) → Sorted redex → Progresses known (Focus.AtRedex side redex)
  unfolding act_of
  at_redex side redex t a (Sorted.waits e) =
      let b = subst (IsTypedAct signature cells (effect_at side Effect.Protected) t) (ap act_of e ∙ waiting_act) a in
      subst (λ (z : Tree). Progresses known (Focus.AtRedex side z)) (sym e)
      (subst (λ (z : Side). Progresses known (Focus.AtRedex z waiting)) (sym (is_protected side b.0)) Progresses.waits)
  at_redex side redex t a (Sorted.closes v e) =
      let b = subst (IsTypedAct signature cells (effect_at side Effect.Protected) t) (ap act_of e ∙ closing_act v) a in
      subst (λ (z : Tree). Progresses known (Focus.AtRedex side z)) (sym e)
      (subst (λ (z : Side). Progresses known (Focus.AtRedex z (Tree.Unprotected (Tree.Held v)))) (sym (is_protected side b.1)) (Progresses.closes v))
  at_redex side redex t a (Sorted.other o) = Progresses.steps side redex (can_be_made signature cells known there side t (act_of redex) a o)

  pub term_progresses : (term : Tree) (t : Typ) → IsFragment signature cells Effect.Protected term t → Progresses known (focus term)
  term_progresses term t typed = by (focus term) refl
    where
      by : (f : Focus) → focus term ≡ f → Progresses known f
      by (Focus.AtValue v) e = Progresses.ends v
      by (Focus.AtRedex side redex) e = let a = found_act signature cells term t typed side redex e in at_redex side redex a.0 a.1 (sorted redex)

pub fragment_progresses : (signature : Signature) (cells : StoreTyping) (term : Tree) (t : Typ) → IsFragment signature cells Effect.Protected term t → Progresses (is_cell cells) (focus term)
fragment_progresses signature cells term t typed = term_progresses signature cells (is_cell cells) (λ l cell e. ap is_some e) term t typed

-- a redex whose act is made is no `unprotected` form
not_unprotected : (redex : Tree) → IsSome (making_on Side.Protected (act_of redex)) → at_unprotected (Focus.AtRedex Side.Protected redex) ≡ false
unfolding act_of
not_unprotected (Tree.Unprotected (Tree.Held v)) made = cc
not_unprotected (Tree.Unprotected _) made = cc
not_unprotected _ made = refl

-- a term that waits has no next label
none_next : (s : State) (label : Label) → is_next s (Focus.AtRedex Side.Protected waiting) label ≡ false
unfolding act_of
none_next s (Label.Step kind) = refl
none_next s _ = refl

none-known : {X : Type 0} (o : Option X) → is_some o ≡ false → o ≡ None
none-known None e = refl
none-known (Some x) e = cc

-- a term that is found at `blockUntil false` waits
found_waiting : (term : Tree) → focus term ≡ Focus.AtRedex Side.Protected waiting → Waits term
found_waiting term e = let f = found term waiting Side.Protected e in (f.frames, f.on, f.term)

module _ (signature : Signature) (cells : StoreTyping) (s : State) (typed : IsTyped signature cells s) (i : ℕ) (term : Tree) (member : at s.members i ≡ Some term) where
  member_typed : IsMember signature cells term
  member_typed = each-at (IsMember signature cells) s.members i term member typed.typed.members

  pub progressed : Progresses (is_stored s) (focus term)
  progressed = term_progresses signature cells (is_stored s) (λ l cell e. typed.located l cell e) term Typ.Unit member_typed

  -- the locations that its act reads or writes are stored
  known_at : (side : Side) (redex : Tree) → focus term ≡ Focus.AtRedex side redex → IsKnown (is_stored s) (act_of redex)
  known_at side redex e =
      let a = found_act signature cells term Typ.Unit member_typed side redex e in
      known_act signature cells (is_stored s) (λ l cell e. typed.located l cell e) side a.0 (act_of redex) a.1

  reduced-some : (side : Side) (kind : StepKind) (f : Focus) → focus term ≡ f → is_some (reduced_at side kind f s) ≡ is_step s side f kind
  reduced-some side kind (Focus.AtValue v) e = refl
  reduced-some side kind (Focus.AtRedex under redex) e =
      by (same_side side under) (made_on s side kind (act_of redex) (known_at under redex e))
    where
      by : (b : Bool) → is_some (performed_on side kind (act_of redex) s) ≡ (makes side kind (act_of redex) && is_fresh s kind)
          → is_some (if b then performed_on side kind (act_of redex) s else None) ≡ (b && (makes side kind (act_of redex) && is_fresh s kind))
      by true made = made
      by false made = refl

  reduce-some : (side : Side) (kind : StepKind) → is_some (reduce side kind i s) ≡ is_step s side (focus term) kind
  reduce-some side kind =
      ap (λ o. is_some (option_and_then (λ t. option_map (rewritten i t) (reduced_at side kind (focus t) s)) o)) member
      ∙ some-map (rewritten i term) (reduced_at side kind (focus term) s) ∙ reduced-some side kind (focus term) refl

  chosen : (b : Bool) (t : State) → is_some (if b then Some t else None) ≡ b
  chosen true t = refl
  chosen false t = refl

  -- the labels of the active member
  pub next_active : s.active ≡ Some i → (label : Label) → is_some (after s label) ≡ is_next s (focus term) label
  unfolding after
  next_active is (Label.Activate j) = rw is
  next_active is (Label.Step kind) = ap (λ o. is_some (option_and_then (λ j. reduce Side.Protected kind j s) o)) is ∙ reduce-some Side.Protected kind
  next_active is Label.Leave = rw (is, member) (chosen (at_unprotected (focus term)) (record s { active = None }))
  next_active is Label.End = rw (is, member) (chosen (at_value (focus term)) (record s { members = without s.members i; active = None }))
  next_active is (Label.Free j kind) = rw is
  next_active is (Label.Close j) = rw is

  -- the labels of a member while nothing is active
  module _ (idle : s.active ≡ None) where
    pub may_activate : is_some (after s (Label.Activate i)) ≡ not (at_unprotected (focus term))
    unfolding after
    may_activate = rw (idle, member) (by (at_unprotected (focus term)) (record s { active = Some i }))
      where
        by : (b : Bool) (t : State) → is_some (if b then None else Some t) ≡ not b
        by true t = refl
        by false t = refl

    pub may_free : (kind : StepKind) → is_some (after s (Label.Free i kind)) ≡ is_step s Side.Unprotected (focus term) kind
    unfolding after
    may_free kind = ap (λ o. is_some (if is_none o then reduce Side.Unprotected kind i s else None)) idle ∙ reduce-some Side.Unprotected kind

    pub may_close : is_some (after s (Label.Close i)) ≡ is_some (closed_value (focus term))
    unfolding after
    may_close = rw (idle, member) (some-map (λ v. record s { members = change s.members i (fill term (Tree.Held v)); active = None }) (closed_value (focus term)))

  -- Some label is legal.

  leads : (label : Label) → IsSome (after s label) → LeadsOn s label
  leads label e = some-known (after s label) e

  -- a kind of step makes an act that can be made
  some_step : (side : Side) (redex : Tree) → CanBeMade (is_stored s) side (act_of redex) → (kind : StepKind) × (is_step s side (Focus.AtRedex side redex) kind ≡ true)
  some_step side redex can =
      let l = fresh_in s.store in
      let k = some_kind (making_on side (act_of redex)) l.0 can.0 in
      (kind_named k.0 l.0, rw (itself side, k.2, kind_named-fresh s k.0 l.0 l.1))
    where
      itself : (z : Side) → same_side z z ≡ true
      itself Side.Protected = refl
      itself Side.Unprotected = refl

  active_goes_on : s.active ≡ Some i → (f : Focus) → focus term ≡ f → Progresses (is_stored s) f → Waits term ⊎ ((label : Label) × LeadsOn s label)
  active_goes_on is _ e (Progresses.ends v) = inr (Label.End, leads Label.End (next_active is Label.End ∙ ap at_value e))
  active_goes_on is _ e Progresses.waits = inl (found_waiting term e)
  active_goes_on is _ e (Progresses.closes v) = inr (Label.Leave, leads Label.Leave (next_active is Label.Leave ∙ ap at_unprotected e))
  active_goes_on is _ e (Progresses.steps Side.Unprotected redex can) = inr (Label.Leave, leads Label.Leave (next_active is Label.Leave ∙ ap at_unprotected e))
  active_goes_on is _ e (Progresses.steps Side.Protected redex can) =
      let k = some_step Side.Protected redex can in
      inr (Label.Step k.0, leads (Label.Step k.0) (next_active is (Label.Step k.0) ∙ ap (λ f. is_step s Side.Protected f k.0) e ∙ k.1))

  pub active_progresses : s.active ≡ Some i → Waits term ⊎ ((label : Label) × LeadsOn s label)
  active_progresses is = active_goes_on is (focus term) refl progressed

  pub waiting_stays : s.active ≡ Some i → Waits term → (label : Label) → after s label ≡ None
  waiting_stays is w label =
      let at : focus term ≡ Focus.AtRedex Side.Protected waiting =
      ap focus w.2 ∙ focused w.0 waiting refl ∙ ap (λ (z : Side). Focus.AtRedex z waiting) w.1 in
      none-known (after s label) (next_active is label ∙ ap (λ f. is_next s f label) at ∙ none_next s label)

  begins : s.active ≡ None → at_unprotected (focus term) ≡ false → GoesOn s i
  begins idle e = GoesOn.activates (leads (Label.Activate i) (may_activate idle ∙ ap not e))

  rest_goes_on : s.active ≡ None → (f : Focus) → focus term ≡ f → Progresses (is_stored s) f → GoesOn s i
  rest_goes_on idle _ e (Progresses.ends v) = begins idle (ap at_unprotected e)
  rest_goes_on idle _ e Progresses.waits = begins idle (ap at_unprotected e)
  rest_goes_on idle _ e (Progresses.closes v) = GoesOn.closes (leads (Label.Close i) (may_close idle ∙ ap (λ f. is_some (closed_value f)) e))
  rest_goes_on idle _ e (Progresses.steps Side.Unprotected redex can) =
      let k = some_step Side.Unprotected redex can in
      GoesOn.steps k.0 (leads (Label.Free i k.0) (may_free idle k.0 ∙ ap (λ f. is_step s Side.Unprotected f k.0) e ∙ k.1))
  rest_goes_on idle _ e (Progresses.steps Side.Protected redex can) = begins idle (ap at_unprotected e ∙ not_unprotected redex can.0)

  pub resting_progresses : s.active ≡ None → GoesOn s i
  resting_progresses idle = rest_goes_on idle (focus term) refl progressed

-- a member of a state in which nothing is active, if there is one
first_goes_on : (signature : Signature) (cells : StoreTyping) (s : State) → IsTyped signature cells s → s.active ≡ None → (members : List (ℕ × Tree)) → s.members ≡ members → StateProgresses s
first_goes_on signature cells s typed idle [] is = StateProgresses.over is
first_goes_on signature cells s typed idle (e ∷ es) is = by (resting_progresses signature cells s typed e.0 e.1 (ap (λ (z : List (ℕ × Tree)). at z e.0) is ∙ rw (is_at-here e.0)) idle)
  where
    by : GoesOn s e.0 → StateProgresses s
    by (GoesOn.activates leads) = StateProgresses.goes_on (Label.Activate e.0) leads
    by (GoesOn.steps kind leads) = StateProgresses.goes_on (Label.Free e.0 kind) leads
    by (GoesOn.closes leads) = StateProgresses.goes_on (Label.Close e.0) leads

pub state_progresses : (signature : Signature) (cells : StoreTyping) (s : State) → IsTyped signature cells s → StateProgresses s
state_progresses signature cells s typed = by s.active refl
  where
    active : (i : ℕ) (term : Tree) → s.active ≡ Some i → at s.members i ≡ Some term → Waits term ⊎ ((label : Label) × LeadsOn s label) → StateProgresses s
    active i term is member (inl waits) = StateProgresses.waits i term is member waits
    active i term is member (inr on) = StateProgresses.goes_on on.0 on.1

    by : (o : Option ℕ) → s.active ≡ o → StateProgresses s
    by None is = first_goes_on signature cells s typed is s.members refl
    by (Some i) is =
        let m = some-known (at s.members i) (typed.typed.present i is) in
        active i m.0 is m.1 (active_progresses signature cells s typed i m.0 m.1 is)
