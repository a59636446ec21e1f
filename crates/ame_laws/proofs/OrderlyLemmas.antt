-- A label keeps a state orderly.
use Rattle.std.proofs.Common.{◌≡◌, ℕ, ◌+◌, ◌<◌, ◌≤◌, ◌++◌, ℤ, Bool, true, false, List, [], ◌∷◌, Option, Some, None, option_and_then, option_map, is_some, is_none, if◌then◌else◌, refl, sym, ap, ◌∙◌, subst, arith}
use Rattle.std.specs.List.{AllByRecursion}
use Rattle.std.specs.List.Sorted.{IsStrictlySortedBy}
use Rattle.std.specs.Map.{keys_of}
use Rattle.ame_term.specs.Tree.{Val, Tree, unit_tree}
use Rattle.ame_term.specs.Frame.{Side, same_side}
use Rattle.ame_term.specs.Context.{Focus, focus, fill}
use Rattle.ame_term.specs.Act.{Act, act_of, fresh_location, device_answer, makes}
use Rattle.ame_term.specs.Maps.{at, put, change, without}
use Rattle.ame_term.specs.State.{State, start, after, run, allocated, performed, reduced_at, rewritten, reduce, activated, departed, ended, closed, at_unprotected, at_value, closed_value}
use Rattle.ame_term.specs.declared.semantics.StepKind.{StepKind}
use Rattle.ame_term.specs.declared.semantics.Label.{Label}
use Rattle.ame_laws.specs.Orderly.{IsOrderly}
use Rattle.ame_laws.proofs.MapLemmas.{is_some-put, is_some-change, all-numbers, numbers-put, numbers-change, numbers-without, rise-put, rise-change, rise-without}

-- The value of an option that has one.

and_then-gave : {X Y : Type 0} (f : X → Option Y) (o : Option X) (y : Y) → option_and_then f o ≡ Some y → (x : X) × (o ≡ Some x) × (f x ≡ Some y)
and_then-gave f None y e = cc
and_then-gave f (Some x) y e = (x, refl, e)

map-gave : {X Y : Type 0} (f : X → Y) (o : Option X) (y : Y) → option_map f o ≡ Some y → (x : X) × (o ≡ Some x) × (f x ≡ y)
map-gave f None y e = cc
map-gave f (Some x) y e = (x, refl, cc)

if-gave : {Y : Type 0} (b : Bool) (o : Option Y) (y : Y) → (if b then o else None) ≡ Some y → o ≡ Some y
if-gave true o y e = e
if-gave false o y e = cc

unless-gave : {Y : Type 0} (b : Bool) (o : Option Y) (y : Y) → (if b then None else o) ≡ Some y → o ≡ Some y
unless-gave true o y e = cc
unless-gave false o y e = e

-- a state goes on to another, which is orderly if it is, and whose next number isn't lower
pub record GoesOn (s t : State) : Type 0 where
  pub orderly : IsOrderly s → IsOrderly t
  pub next : s.next ≤ t.next

goes-same : (s : State) → GoesOn s s
goes-same s = record { orderly = λ o. o; next = omega arith }

goes-through : {s t u : State} → GoesOn s t → GoesOn t u → GoesOn s u
goes-through {s} {t} {u} a b = record {
  orderly = λ o. b.orderly (a.orderly o);
  next = let p : s.next ≤ t.next = a.next in let q : t.next ≤ u.next = b.next in omega arith;
}

goes-to : {s t u : State} → t ≡ u → GoesOn s t → GoesOn s u
goes-to {s} e g = subst (λ (x : State). GoesOn s x) e g

stores : (s : State) (l : ℕ) (v : Val) → GoesOn s (record s { store = put s.store l v })
stores s l v = record {
  orderly = λ o. record {
    members_rise = o.members_rise;
    store_rises = rise-put s.store l v o.store_rises;
    members_below = o.members_below;
    active_there = o.active_there;
  };
  next = omega arith;
}

prints : (s : State) (output : List ℤ) → GoesOn s (record s { output = output })
prints s output = record {
  orderly = λ o. record {
    members_rise = o.members_rise;
    store_rises = o.store_rises;
    members_below = o.members_below;
    active_there = o.active_there;
  };
  next = omega arith;
}

spawns : (s : State) (body : Tree) → GoesOn s (record s { members = put s.members s.next body; next = s.next + 1 })
spawns s body = record {
  orderly = λ o. record {
    members_rise = rise-put s.members s.next body o.members_rise;
    store_rises = o.store_rises;
    members_below =
        numbers-put (λ k. k < s.next + 1) s.members s.next body (omega arith)
        (all-numbers (λ k. k < s.next) (λ k. k < s.next + 1) (λ k below. omega arith) (keys_of s.members) o.members_below);
    active_there = λ i e. is_some-put s.members s.next i body (o.active_there i e);
  };
  next = omega arith;
}

pub changes : (s : State) (n : ℕ) (t : Tree) → GoesOn s (record s { members = change s.members n t })
changes s n t = record {
  orderly = λ o. record {
    members_rise = rise-change s.members n t o.members_rise;
    store_rises = o.store_rises;
    members_below = subst (λ (ks : List ℕ). AllByRecursion (λ k. k < s.next) ks) (sym (numbers-change s.members n t)) o.members_below;
    active_there = λ i e. is_some-change s.members n i t ∙ o.active_there i e;
  };
  next = omega arith;
}

begins : (s : State) (n : ℕ) → is_some (at s.members n) ≡ true → GoesOn s (record s { active = Some n })
begins s n there = record {
  orderly = λ o. record {
    members_rise = o.members_rise;
    store_rises = o.store_rises;
    members_below = o.members_below;
    active_there = λ i e. let same : n ≡ i = cc in subst (λ (k : ℕ). is_some (at s.members k) ≡ true) same there;
  };
  next = omega arith;
}

rests : (s : State) → GoesOn s (record s { active = None })
rests s = record {
  orderly = λ o. record {
    members_rise = o.members_rise;
    store_rises = o.store_rises;
    members_below = o.members_below;
    active_there = λ i e. cc;
  };
  next = omega arith;
}

ends : (s : State) (n : ℕ) → GoesOn s (record s { members = without s.members n; active = None })
ends s n = record {
  orderly = λ o. record {
    members_rise = rise-without s.members n o.members_rise;
    store_rises = o.store_rises;
    members_below = numbers-without (λ k. k < s.next) s.members n o.members_below;
    active_there = λ i e. cc;
  };
  next = omega arith;
}

-- The effect of an act.

leads : (s : State) (r : Tree × State) (u : Tree) (t : State) → Some (u, t) ≡ Some r → GoesOn s t → GoesOn s r.1
leads s r u t e g = let same : t ≡ r.1 = cc in goes-to same g

pub performed-goes : (kind : StepKind) (act : Act) (s : State) (r : Tree × State) → performed kind act s ≡ Some r → GoesOn s r.1
performed-goes kind (Act.Becomes term) s r e = leads s r term s e (goes-same s)
performed-goes kind (Act.Allocates sort number v) s r e =
    let k = and_then-gave (allocated v s) (fresh_location kind) r e in
    let h = unless-gave (is_some (at s.store k.0)) _ r k.2 in
    leads s r (Tree.Held (Val.Loc k.0)) (record s { store = put s.store k.0 v }) h (stores s k.0 v)
performed-goes kind (Act.Reads l) s r e = read-goes
  where
    read-goes : GoesOn s r.1
    read-goes = let k = map-gave (λ v. (Tree.Held v, s)) (at s.store l) r e in goes-to (ap (λ (p : Tree × State). p.1) k.2) (goes-same s)
performed-goes kind (Act.Peeks l) s r e = read-goes
  where
    read-goes : GoesOn s r.1
    read-goes = let k = map-gave (λ v. (Tree.Held v, s)) (at s.store l) r e in goes-to (ap (λ (p : Tree × State). p.1) k.2) (goes-same s)
performed-goes kind (Act.Writes l v) s r e = leads s r unit_tree (record s { store = put s.store l v }) e (stores s l v)
performed-goes kind (Act.Spawns body) s r e =
    leads s r unit_tree (record s { members = put s.members s.next body; next = s.next + 1 }) e (spawns s body)
performed-goes kind (Act.Prints n) s r e = leads s r unit_tree (record s { output = s.output ++ n ∷ [] }) e (prints s (s.output ++ n ∷ []))
performed-goes kind Act.Passes s r e = leads s r unit_tree s e (goes-same s)
performed-goes kind Act.Fails s r e = absurd (cc)
performed-goes kind (Act.Calls device n) s r e =
    let k = map-gave (λ answer. (Tree.Held (Val.Int answer), s)) (device_answer kind) r e in
    goes-to (ap (λ (p : Tree × State). p.1) k.2) (goes-same s)
performed-goes kind (Act.Closes v) s r e = absurd (cc)
performed-goes kind Act.Stuck s r e = absurd (cc)

reduced-goes : (side : Side) (kind : StepKind) (f : Focus) (s : State) (r : Tree × State) → reduced_at side kind f s ≡ Some r → GoesOn s r.1
reduced-goes side kind (Focus.AtValue v) s r e = absurd (cc)
reduced-goes side kind (Focus.AtRedex under redex) s r e =
    performed-goes kind (act_of redex) s r
    (if-gave (makes side kind (act_of redex)) (performed kind (act_of redex) s) r (if-gave (same_side side under) _ r e))

pub reduce-goes : (side : Side) (kind : StepKind) (i : ℕ) (s t : State) → reduce side kind i s ≡ Some t → GoesOn s t
reduce-goes side kind i s t e =
    let k = and_then-gave (λ term. option_map (rewritten i term) (reduced_at side kind (focus term) s)) (at s.members i) t e in
    let h = map-gave (rewritten i k.0) (reduced_at side kind (focus k.0) s) t k.2 in
    goes-to h.2 (goes-through (reduced-goes side kind (focus k.0) s h.0 h.1) (changes h.0.1 i (fill k.0 h.0.0)))

-- The labels.

activated-goes : (i : ℕ) (s t : State) → activated i s ≡ Some t → GoesOn s t
activated-goes i s t e =
    let k = and_then-gave (λ term. if at_unprotected (focus term) then None else Some (record s { active = Some i })) (at s.members i) t e in
    let h = unless-gave (at_unprotected (focus k.0)) _ t k.2 in
    let same : record s { active = Some i } ≡ t = cc in
    goes-to same (begins s i (ap is_some k.1))

departed-goes : (i : ℕ) (s t : State) → departed i s ≡ Some t → GoesOn s t
departed-goes i s t e =
    let k = and_then-gave (λ term. if at_unprotected (focus term) then Some (record s { active = None }) else None) (at s.members i) t e in
    let h = if-gave (at_unprotected (focus k.0)) _ t k.2 in
    let same : record s { active = None } ≡ t = cc in
    goes-to same (rests s)

ended-goes : (i : ℕ) (s t : State) → ended i s ≡ Some t → GoesOn s t
ended-goes i s t e =
    let k = and_then-gave (λ term. if at_value (focus term) then Some (record s { members = without s.members i; active = None }) else None) (at s.members i) t e in
    let h = if-gave (at_value (focus k.0)) _ t k.2 in
    let same : record s { members = without s.members i; active = None } ≡ t = cc in
    goes-to same (ends s i)

pub closed-goes : (i : ℕ) (s t : State) → closed i s ≡ Some t → GoesOn s t
closed-goes i s t e =
    let k = and_then-gave (λ term. option_map (λ v. record s { members = change s.members i (fill term (Tree.Held v)) }) (closed_value (focus term))) (at s.members i) t e in
    let h = map-gave (λ v. record s { members = change s.members i (fill k.0 (Tree.Held v)) }) (closed_value (focus k.0)) t k.2 in
    goes-to h.2 (changes s i (fill k.0 (Tree.Held h.0)))

pub after-goes : (s : State) (label : Label) (t : State) → after s label ≡ Some t → GoesOn s t
unfolding after
after-goes s (Label.Activate i) t e = activated-goes i s t (if-gave (is_none s.active) (activated i s) t e)
after-goes s (Label.Step kind) t e = let k = and_then-gave (λ i. reduce Side.Protected kind i s) s.active t e in reduce-goes Side.Protected kind k.0 s t k.2
after-goes s Label.Leave t e = let k = and_then-gave (λ i. departed i s) s.active t e in departed-goes k.0 s t k.2
after-goes s Label.End t e = let k = and_then-gave (λ i. ended i s) s.active t e in ended-goes k.0 s t k.2
after-goes s (Label.Free i kind) t e = reduce-goes Side.Unprotected kind i s t (if-gave (is_none s.active) (reduce Side.Unprotected kind i s) t e)
after-goes s (Label.Close i) t e = closed-goes i s t (if-gave (is_none s.active) (closed i s) t e)

pub run-goes : (s : State) (labels : List Label) (t : State) → run s labels ≡ Some t → GoesOn s t
run-goes s [] t e = let same : s ≡ t = cc in goes-to same (goes-same s)
run-goes s (label ∷ labels) t e =
    let k = and_then-gave (λ u. run u labels) (after s label) t e in
    goes-through (after-goes s label k.0 k.1) (run-goes k.0 labels t k.2)

pub start-orderly : (program : Tree) → IsOrderly (start program)
unfolding IsStrictlySortedBy
start-orderly program = record {
  members_rise = (tt, tt);
  store_rises = tt;
  members_below = (omega arith, tt);
  active_there = λ i e. cc;
}
