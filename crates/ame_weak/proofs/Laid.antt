-- A weak state is a strong one with a run of its active member laid over it: what the run set hides what
-- is stored below, and what it printed and its new members are held.
use Rattle.std.proofs.Common.{◌≡◌, ℕ, ◌⊎◌, inl, inr, true, false, List, [], ◌∷◌, Option, Some, None, is_some, sym, ap, ◌∙◌, subst}
use Rattle.std.specs.List.{AllByRecursion}
use Rattle.ame_term.specs.Tree.{Typ, Val, Tree}
use Rattle.ame_term.specs.Signature.{Signature}
use Rattle.ame_term.specs.Frame.{Side}
use Rattle.ame_term.specs.Act.{Act, act_of}
use Rattle.ame_term.specs.HasType.{code_of}
use Rattle.ame_term.specs.Maps.{at, put}
use Rattle.ame_term.specs.State.{State}
use Rattle.ame_term.specs.declared.types.Effect.{Effect}
use Rattle.ame_term.specs.declared.types.Sort.{Sort}
use Rattle.ame_laws.proofs.MapLemmas.{at-put, at-put_same, is_some-put}
use Rattle.ame_laws.specs.Typed.StoreTyping.{StoreTyping, Grows}
use Rattle.ame_laws.specs.Typed.TypedAct.{IsTypedAct}
use Rattle.ame_laws.specs.Typed.TypedState.{IsTyped}
use Rattle.ame_journal.specs.Replay.{or_else}
use Rattle.ame_machine.specs.Run.Local.{LocalState, taken_where, one_step}
use Rattle.ame_machine.specs.Run.AgreesWith.{AgreesWith}
use Rattle.ame_machine.proofs.Run.RunLemmas.{Acts, Feeds, IsOneStep, step-is}
use Rattle.ame_weak.specs.Weak.{Weak}

-- The weak state w is the state s with a run of member i to p over it, but for that member's own term.
pub record IsLaid (s : State) (i : ℕ) (p : LocalState) (w : Weak) : Type 0 where
  pub active : w.state.active ≡ Some i
  pub output : w.state.output ≡ s.output
  pub next : w.state.next ≡ s.next
  pub stored : (l : ℕ) → at w.state.store l ≡ or_else (at p.sets l) (at s.store l)
  pub others : (k : ℕ) → (k ≡ i → ⊥) → at w.state.members k ≡ at s.members k
  pub prints : w.prints ≡ p.prints
  pub spawns : w.spawns ≡ p.spawns

-- a run has neither set a location nor taken what is stored there
abbrev pub IsUntouched : ℕ → LocalState → Type 0
IsUntouched l p = (at p.sets l ≡ None) × AllByRecursion (λ e. e.0 ≡ l → ⊥) p.seen

-- it has touched no location of unprotected code
abbrev pub IsApart : StoreTyping → LocalState → Type 0
IsApart cells p = (l : ℕ) (content : Typ) → cells l ≡ Some (Sort.Unprotected, content) → IsUntouched l p

-- each location that it made is set
abbrev pub HasSetMade : LocalState → Type 0
HasSetMade p = AllByRecursion (λ e. is_some (at p.sets e.0) ≡ true) p.made

-- a location that isn't in a store wasn't taken from there
pub unseen : (store : List (ℕ × Val)) (l : ℕ) → at store l ≡ None → (seen : List (ℕ × Val)) → AllByRecursion (λ e. at store e.0 ≡ Some e.1) seen
    → AllByRecursion (λ e. e.0 ≡ l → ⊥) seen
unseen store l none [] all = tt
unseen store l none (e ∷ seen) all =
    ((λ same. let clash : ◌≡◌ {A = Option Val} (Some e.1) None = sym all.0 ∙ ap (at store) same ∙ none in cc), unseen store l none seen all.1)

-- A step

taken-set : (o : Option Val) (l : ℕ) (v : Val) (p : LocalState) → HasSetMade p → HasSetMade (taken_where o l v p)
taken-set None l v p set = set
taken-set (Some w) l v p set = set

put-set : (sets : List (ℕ × Val)) (l : ℕ) (v : Val) (made : List (ℕ × Option Val)) → AllByRecursion (λ e. is_some (at sets e.0) ≡ true) made
    → AllByRecursion (λ e. is_some (at (put sets l v) e.0) ≡ true) made
put-set sets l v [] set = tt
put-set sets l v (e ∷ made) set = (is_some-put sets l e.0 v set.0, put-set sets l v made set.1)

feeds-set : (p : LocalState) (side : Side) (act : Act) (v : Val) (part : Tree) (q : LocalState) → Feeds p side act v part q → HasSetMade p → HasSetMade q
feeds-set p _ _ _ _ _ (Feeds.allocates side sort number v l) set = (ap is_some (at-put_same p.sets l v), put-set p.sets l v p.made set)
feeds-set p _ _ _ _ _ (Feeds.reads side l v) set = taken-set (at p.sets l) l v p set
feeds-set p _ _ _ _ _ (Feeds.peeks l v) set = taken-set (at p.sets l) l v p set
feeds-set p _ _ _ _ _ (Feeds.writes side l v) set = put-set p.sets l v p.made set
feeds-set p _ _ _ _ _ _ set = set

acts-set : (p : LocalState) (side : Side) (act : Act) (part : Tree) (q : LocalState) → Acts p side act part q → HasSetMade p → HasSetMade q
acts-set p _ _ _ _ (Acts.feeds side act v inputs part q is given) set = feeds-set (record p { inputs = inputs }) side act v part q given set
acts-set p _ _ _ _ _ set = set

-- each location that was made stays set
pub step-set : (side : Side) (p q : LocalState) → one_step side p ≡ Some q → HasSetMade p → HasSetMade q
step-set side p q e set =
    let x = step-is side p q e in
    subst HasSetMade (sym x.is) (acts-set p side (act_of x.redex) x.part x.behind x.acts set)

-- A typed step of protected code touches no location of unprotected code.
module _ (signature : Signature) (cells later : StoreTyping) (s : State) (grows : Grows cells later) (typed : IsTyped signature cells s) where
  -- the sorts of the two kinds of code differ
  other-sort : (l : ℕ) (content t : Typ) (sort : Sort) → cells l ≡ Some (Sort.Unprotected, content) → later l ≡ Some (sort, t) → code_of sort ≡ Effect.Protected → ⊥
  other-sort l content t sort is also code =
      let both : ◌≡◌ {A = Option (Sort × Typ)} (Some (Sort.Unprotected, content)) (Some (sort, t)) = sym (grows l (Sort.Unprotected, content) is) ∙ also in
      let pair : ◌≡◌ {A = Sort × Typ} (Sort.Unprotected, content) (sort, t) = cc in
      let same : Sort.Unprotected ≡ sort = ap (λ (c : Sort × Typ). c.0) pair in
      let clash : Effect.Unprotected ≡ Effect.Protected = ap code_of same ∙ code in
      cc

  -- a location that is set, and isn't one of them
  put-apart : (l m : ℕ) (v : Val) (p : LocalState) → (l ≡ m → ⊥) → at p.sets m ≡ None → at (put p.sets l v) m ≡ None
  put-apart l m v p apart none = by (at-put p.sets l m v)
    where
      by : ((l ≡ m) × (at (put p.sets l v) m ≡ Some v)) ⊎ (((l ≡ m) → ⊥) × (at (put p.sets l v) m ≡ at p.sets m)) → at (put p.sets l v) m ≡ None
      by (inl k) = absurd (apart k.0)
      by (inr k) = k.1 ∙ none

  taken-apart : (o : Option Val) (l m : ℕ) (v : Val) (p : LocalState) → (l ≡ m → ⊥) → IsUntouched m p → IsUntouched m (taken_where o l v p)
  taken-apart None l m v p apart free = (free.0, (apart, free.1))
  taken-apart (Some w) l m v p apart free = (free.0, free.1)

  feeds-apart : (p : LocalState) (act : Act) (v : Val) (part : Tree) (q : LocalState) → Feeds p Side.Protected act v part q → (t : Typ)
      → IsTypedAct signature later Effect.Protected t act → AgreesWith s.store q → IsApart cells p → IsApart cells q
  feeds-apart p _ _ _ _ (Feeds.allocates side sort number v l) t a agrees apart = λ m content is.
      let free = apart m content is in
      let other : l ≡ m → ⊥ = λ same.
      let none : at s.store m ≡ None = ap (at s.store) (sym same) ∙ agrees.made.0.0 in
      let clash : false ≡ true = sym (ap is_some none) ∙ typed.located m (Sort.Unprotected, content) is in
      cc in
      (put-apart l m v p other free.0, free.1)
  feeds-apart p _ _ _ _ (Feeds.reads side l v) t a agrees apart = λ m content is.
      taken-apart (at p.sets l) l m v p (λ same. other-sort m content t a.0 is (ap later (sym same) ∙ a.1) a.2) (apart m content is)
  feeds-apart p _ _ _ _ (Feeds.writes side l v) t a agrees apart = λ m content is.
      let free = apart m content is in
      (put-apart l m v p (λ same. other-sort m content a.1 a.0 is (ap later (sym same) ∙ a.2) a.4) free.0, free.1)

  acts-apart : (p : LocalState) (act : Act) (part : Tree) (q : LocalState) → Acts p Side.Protected act part q → (t : Typ)
      → IsTypedAct signature later Effect.Protected t act → AgreesWith s.store q → IsApart cells p → IsApart cells q
  acts-apart p _ _ _ (Acts.feeds side act v inputs part q is given) t a agrees apart =
      feeds-apart (record p { inputs = inputs }) act v part q given t a agrees (λ l content typed_so. apart l content typed_so)
  acts-apart p _ _ _ _ t a agrees apart = λ l content typed_so. apart l content typed_so

  pub step-apart : (p q : LocalState) (x : IsOneStep Side.Protected p q) (t : Typ) → IsTypedAct signature later Effect.Protected t (act_of x.redex) → AgreesWith s.store q
      → IsApart cells p → IsApart cells q
  step-apart p q x t a agrees apart =
      let before : AgreesWith s.store x.behind = let b = subst (AgreesWith s.store) x.is agrees in record { seen = b.seen; own = b.own; made = b.made } in
      let there = acts-apart p (act_of x.redex) x.part x.behind x.acts t a before apart in
      subst (IsApart cells) (sym x.is) (λ l content is. there l content is)
