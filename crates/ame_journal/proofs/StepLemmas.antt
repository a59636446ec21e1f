-- The state before a legal label, and after it.
use Rattle.std.proofs.Common.{◌≡◌, ℕ, ◌+◌, ◌≤◌, arith, ◌++◌, ℤ, Bool, true, false, List, [], ◌∷◌, Option, Some, None, option_and_then, option_map, is_none, is_some, if◌then◌else◌, refl, sym, ap, ◌∙◌, subst, append-nil}
use Rattle.std.proofs.lemmas.Option.{option_and_then_some}
use Rattle.ame_term.specs.Tree.{Val, Tree}
use Rattle.ame_term.specs.Frame.{Side, same_side}
use Rattle.ame_term.specs.Context.{Focus, focus, fill}
use Rattle.ame_term.specs.Act.{Act, act_of, StepName, Sides, step_name, device_answer, making, made_there, is_among_sides, is_step_told, makes}
use Rattle.ame_term.specs.Maps.{at, put, change, without}
use Rattle.ame_term.specs.State.{State, after, performed, performed_on, reduced_at, rewritten, reduce, activated, departed, ended, closed, closed_value, at_unprotected, at_value}
use Rattle.ame_term.specs.declared.semantics.StepKind.{StepKind}
use Rattle.ame_term.specs.declared.semantics.Label.{Label}
use Rattle.ame_laws.proofs.MapLemmas.{at-put_other}
use Rattle.ame_laws.proofs.Typed.MakingLemmas.{same_step-true}
use Rattle.ame_journal.specs.Replayed.{Replayed, is_at_unprotected, has_such, staying, entering}
use Rattle.ame_journal.specs.Replay.{redex_act, member_act, making_name, left_or_ended, or_else}

-- The value of an option that has one.

if-gave : {Y : Type 0} (b : Bool) (o : Option Y) (y : Y) → (if b then o else None) ≡ Some y → (b ≡ true) × (o ≡ Some y)
if-gave true o y e = (refl, e)
if-gave false o y e = cc

unless-gave : {Y : Type 0} (b : Bool) (o : Option Y) (y : Y) → (if b then None else o) ≡ Some y → (b ≡ false) × (o ≡ Some y)
unless-gave true o y e = cc
unless-gave false o y e = (refl, e)

map-gave : {X Y : Type 0} (f : X → Y) (o : Option X) (y : Y) → option_map f o ≡ Some y → (x : X) × (o ≡ Some x) × (f x ≡ y)
map-gave f None y e = cc
map-gave f (Some x) y e = (x, refl, cc)

gave : {Y : Type 0} (x y : Y) → Some x ≡ Some y → y ≡ x
gave x y e = cc

-- Steps

-- the facts about a step of a member on a side
pub record IsReduced (side : Side) (kind : StepKind) (i : ℕ) (s u : State) : Type 0 where
  pub term : Tree
  pub redex : Tree
  pub act : Act
  pub result : Tree × State
  pub is_member : at s.members i ≡ Some term
  pub stands : focus term ≡ Focus.AtRedex side redex
  pub is_act : member_act i s ≡ Some act
  pub can : makes side kind act ≡ true
  pub made : performed kind act s ≡ Some result
  pub is : rewritten i term result ≡ u

on_side : (a b : Side) → same_side a b ≡ true → b ≡ a
on_side Side.Protected Side.Protected e = refl
on_side Side.Protected Side.Unprotected e = cc
on_side Side.Unprotected Side.Protected e = cc
on_side Side.Unprotected Side.Unprotected e = refl

module _ (side : Side) (kind : StepKind) (i : ℕ) (s u : State) where
  redex-made : (f : Focus) (r : Tree × State) → reduced_at side kind f s ≡ Some r →
      (redex : Tree) × (f ≡ Focus.AtRedex side redex) × (makes side kind (act_of redex) ≡ true) × (performed kind (act_of redex) s ≡ Some r)
  redex-made (Focus.AtValue v) r e = cc
  redex-made (Focus.AtRedex under redex) r e =
      let on = if-gave (same_side side under) (performed_on side kind (act_of redex) s) r e in
      let can = if-gave (makes side kind (act_of redex)) (performed kind (act_of redex) s) r on.1 in
      (redex, ap (λ z. Focus.AtRedex z redex) (on_side side under on.0), can.0, can.1)

  pub reduced : reduce side kind i s ≡ Some u → IsReduced side kind i s u
  reduced e =
      option_and_then_some _ _ _ e (λ term is_member e1.
      let m = map-gave (rewritten i term) (reduced_at side kind (focus term) s) u e1 in
      let d = redex-made (focus term) m.0 m.1 in
      record {
        term = term;
        redex = d.0;
        act = act_of d.0;
        result = m.0;
        is_member = is_member;
        stands = d.1;
        is_act = ap (λ o. option_and_then (λ t. redex_act (focus t)) o) is_member ∙ ap redex_act d.1;
        can = d.2;
        made = d.3;
        is = m.2;
      })

pub step-reduced : (kind : StepKind) (i : ℕ) (s u : State) → s.active ≡ Some i → after s (Label.Step kind) ≡ Some u → IsReduced Side.Protected kind i s u
unfolding after
step-reduced kind i s u is_active e =
    reduced Side.Protected kind i s u (ap (λ o. option_and_then (λ j. reduce Side.Protected kind j s) o) (sym is_active) ∙ e)

pub free-reduced : (kind : StepKind) (i : ℕ) (s u : State) → after s (Label.Free i kind) ≡ Some u → IsReduced Side.Unprotected kind i s u
unfolding after
free-reduced kind i s u e = reduced Side.Unprotected kind i s u (if-gave (is_none s.active) (reduce Side.Unprotected kind i s) u e).1

-- a kind that makes an act has the name that the table gives
row-named : (side : Side) (row : Option (Sides × StepName)) (kind : StepKind) → is_step_told (made_there side row) kind ≡ true →
    option_map (λ (r : Sides × StepName). r.1) row ≡ Some (step_name kind)
row-named side None kind e = cc
row-named side (Some row) kind e = by (is_among_sides row.0 side) e
  where
    by : (b : Bool) → is_step_told (elim b [ true ↦ Some row.1 | false ↦ None ]) kind ≡ true → Some row.1 ≡ Some (step_name kind)
    by true e' = ap Some (same_step-true row.1 (step_name kind) e')
    by false e' = cc

pub named : (side : Side) (kind : StepKind) (act : Act) → makes side kind act ≡ true → making_name act ≡ Some (step_name kind)
named side kind act e = row-named side (making act) kind e

-- no device is called on the side of protected code
no_device : (a : ℤ) (act : Act) → makes Side.Protected (StepKind.Device a) act ≡ false
no_device a (Act.Becomes term) = refl
no_device a _ = refl

pub no_answer : (kind : StepKind) (act : Act) → makes Side.Protected kind act ≡ true → device_answer kind ≡ None
no_answer (StepKind.Device a) act e = let none = no_device a act in cc
no_answer StepKind.Local act e = refl
no_answer _ act e = refl

-- an effect leaves which member is active, and what was printed before
pub record Keeps (s t : State) : Type 0 where
  pub active : t.active ≡ s.active
  pub output : (printed : List ℤ) × (t.output ≡ s.output ++ printed)
  pub next : t.next ≤ s.next + 1

-- and the other members as they were
pub record KeepsOthers (s t : State) : Type 0 where
  pub keeps : Keeps s t
  pub others : (k : ℕ) → (s.next ≡ k → ⊥) → at t.members k ≡ at s.members k

keeps-same : (s t : State) → t.active ≡ s.active → t.output ≡ s.output → t.next ≡ s.next → t.members ≡ s.members → KeepsOthers s t
keeps-same s t same_active same_output same_next same_members = record {
  keeps = record { active = same_active; output = ([], same_output ∙ sym (append-nil s.output)); next = omega arith };
  others = λ k new. ap (λ (ms : List (ℕ × Tree)). at ms k) same_members;
}

keeps-of : (s : State) (term : Tree) (t : State) (r : Tree × State) → Some (term, t) ≡ Some r → KeepsOthers s t → KeepsOthers s r.1
keeps-of s term t r e keeps = let same : t ≡ r.1 = cc in subst (KeepsOthers s) same keeps

keeps-loaded : (s : State) (o : Option Val) (r : Tree × State) → option_map (λ v. (Tree.Held v, s)) o ≡ Some r → KeepsOthers s r.1
keeps-loaded s None r e = cc
keeps-loaded s (Some v) r e = keeps-of s (Tree.Held v) s r e (keeps-same s s refl refl refl refl)

keeps-told : (s : State) (o : Option ℤ) (r : Tree × State) → option_map (λ answer. (Tree.Held (Val.Int answer), s)) o ≡ Some r → KeepsOthers s r.1
keeps-told s None r e = cc
keeps-told s (Some a) r e = keeps-of s _ s r e (keeps-same s s refl refl refl refl)

pub performed-keeps : (kind : StepKind) (act : Act) (s : State) (r : Tree × State) → performed kind act s ≡ Some r → KeepsOthers s r.1
performed-keeps kind (Act.Becomes term) s r e = keeps-of s _ s r e (keeps-same s s refl refl refl refl)
performed-keeps kind (Act.Allocates sort number v) s r e =
    option_and_then_some _ _ _ e (λ l is e1.
    keeps-of s _ _ r (unless-gave (is_some (at s.store l)) (Some (Tree.Held (Val.Loc l), record s { store = put s.store l v })) r e1).1 (keeps-same s _ refl refl refl refl))
performed-keeps kind (Act.Reads l) s r e = keeps-loaded s (at s.store l) r e
performed-keeps kind (Act.Peeks l) s r e = keeps-loaded s (at s.store l) r e
performed-keeps kind (Act.Writes l v) s r e = keeps-of s _ _ r e (keeps-same s _ refl refl refl refl)
performed-keeps kind (Act.Spawns body) s r e =
    keeps-of s _ _ r e
    (record { keeps = record { active = refl; output = ([], sym (append-nil s.output)); next = omega arith }; others = λ k new. at-put_other s.members s.next k body new })
performed-keeps kind (Act.Prints n) s r e =
    keeps-of s _ _ r e (record { keeps = record { active = refl; output = (n ∷ [], refl); next = omega arith }; others = λ k new. refl })
performed-keeps kind Act.Passes s r e = keeps-of s _ s r e (keeps-same s s refl refl refl refl)
performed-keeps kind (Act.Calls device n) s r e = keeps-told s (device_answer kind) r e
performed-keeps kind _ s r e = cc

-- a legal step keeps the active member and what was printed
pub step-keeps : (kind : StepKind) (i : ℕ) (s u : State) → s.active ≡ Some i → after s (Label.Step kind) ≡ Some u → Keeps s u
step-keeps kind i s u is_active e =
    let r = step-reduced kind i s u is_active e in
    let k = (performed-keeps kind r.act s r.result r.made).keeps in
    record { active = sym (ap (λ t. t.active) r.is) ∙ k.active; output = (k.output.0, sym (ap (λ t. t.output) r.is) ∙ k.output.1); next = subst (λ n. n ≤ s.next + 1) (ap (λ t. t.next) r.is) k.next }

-- Becoming active, leaving and ending

-- a member that becomes active doesn't stand at `unprotected`, and nothing else changes
activates : (i : ℕ) (s a : State) → after s (Label.Activate i) ≡ Some a → (is_at_unprotected i s ≡ false) × (a ≡ record s { active = Some i })
unfolding after
activates i s a e =
    option_and_then_some _ _ _ (if-gave (is_none s.active) (activated i s) a e).1 (λ term is_member e1.
    let m = unless-gave (at_unprotected (focus term)) (Some (record s { active = Some i })) a e1 in
    (ap (λ o. has_such (λ t. at_unprotected (focus t)) o) is_member ∙ m.0, gave (record s { active = Some i }) a m.1))

pub activated-resting : (i : ℕ) (s a : State) → after s (Label.Activate i) ≡ Some a → is_at_unprotected i s ≡ false
activated-resting i s a e = (activates i s a e).0

pub activate-is : (i : ℕ) (s a : State) → after s (Label.Activate i) ≡ Some a → a ≡ record s { active = Some i }
activate-is i s a e = (activates i s a e).1

-- the active member that leaves stands at `unprotected`, and nothing else changes
pub leave-is : (i : ℕ) (t u : State) → t.active ≡ Some i → after t Label.Leave ≡ Some u → (is_at_unprotected i t ≡ true) × (u ≡ record t { active = None })
unfolding after
leave-is i t u is_active e =
    option_and_then_some _ _ _ (ap (λ o. option_and_then (λ j. departed j t) o) (sym is_active) ∙ e) (λ term is_member e1.
    let m = if-gave (at_unprotected (focus term)) (Some (record t { active = None })) u e1 in
    (ap (λ o. has_such (λ v. at_unprotected (focus v)) o) is_member ∙ m.0, gave (record t { active = None }) u m.1))

-- the active member ends, and nothing else changes
pub end-is : (i : ℕ) (t u : State) → t.active ≡ Some i → after t Label.End ≡ Some u → u ≡ record t { members = without t.members i; active = None }
unfolding after
end-is i t u is_active e =
    option_and_then_some _ _ _ (ap (λ o. option_and_then (λ j. ended j t) o) (sym is_active) ∙ e) (λ term is_member e1.
    gave _ u (if-gave (at_value (focus term)) (Some (record t { members = without t.members i; active = None })) u e1).1)

value-stays : (f : Focus) (x y : State) (u : State) → (if at_value f then Some x else None) ≡ Some u → (if at_unprotected f then Some y else None) ≡ None
value-stays (Focus.AtValue v) x y u e = refl
value-stays (Focus.AtRedex side redex) x y u e = cc

-- a member that can end doesn't leave
pub ended-staying : (r : Replayed) (i : ℕ) (t u : State) → after t Label.End ≡ Some u → left_or_ended r i t ≡ Some (staying r u)
unfolding after
ended-staying r i t u e =
    ap (λ o. or_else (option_map (entering r i) o) (option_map (staying r) (after t Label.End))) (active-stays t.active e)
    ∙ ap (λ o. option_map (staying r) o) e
  where
    member-stays : (j : ℕ) (o : Option Tree) →
        option_and_then (λ term. if at_value (focus term) then Some (record t { members = without t.members j; active = None }) else None) o ≡ Some u →
        option_and_then (λ term. if at_unprotected (focus term) then Some (record t { active = None }) else None) o ≡ None
    member-stays j None e' = refl
    member-stays j (Some term) e' = value-stays (focus term) _ _ u e'

    active-stays : (o : Option ℕ) → option_and_then (λ j. ended j t) o ≡ Some u → option_and_then (λ j. departed j t) o ≡ None
    active-stays None e' = refl
    active-stays (Some j) e' = member-stays j (at t.members j) e'

-- Closing

closed_value-act : (f : Focus) (v : Val) → closed_value f ≡ Some v → redex_act f ≡ Some (Act.Closes v)
unfolding act_of
closed_value-act (Focus.AtRedex Side.Protected (Tree.Unprotected (Tree.Held w))) v e = let same : w ≡ v = cc in ap (λ x. Some (Act.Closes x)) same
closed_value-act _ v e = cc

-- a member that closes makes no other step
pub close-act : (i : ℕ) (t u : State) → after t (Label.Close i) ≡ Some u → (v : Val) × (member_act i t ≡ Some (Act.Closes v))
unfolding after
close-act i t u e =
    option_and_then_some _ _ _ (if-gave (is_none t.active) (closed i t) u e).1 (λ term is_member e1.
    let m = map-gave _ (closed_value (focus term)) u e1 in
    (m.0, ap (λ o. option_and_then (λ x. redex_act (focus x)) o) is_member ∙ closed_value-act (focus term) m.0 m.1))

-- it changes no other member
pub close-is : (i : ℕ) (t u : State) → after t (Label.Close i) ≡ Some u → (term : Tree) × (u ≡ record t { members = change t.members i term })
unfolding after
close-is i t u e =
    option_and_then_some _ _ _ (if-gave (is_none t.active) (closed i t) u e).1 (λ term is_member e1.
    let m = map-gave (λ v. record t { members = change t.members i (fill term (Tree.Held v)) }) (closed_value (focus term)) u e1 in
    (fill term (Tree.Held m.0), sym m.2))
