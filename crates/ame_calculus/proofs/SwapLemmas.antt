-- Two locations that swap their new names.
use Rattle.std.proofs.Common.{◌≡◌, ℕ, ◌==◌, Bool, true, false, Option, Some, None, is_some, option_map, if◌then◌else◌, refl, sym, ap, ◌∙◌, subst, arith, eqb-true}
use Rattle.ame_term.specs.Tree.{Val, Tree}
use Rattle.ame_term.specs.Maps.{at}
use Rattle.ame_term.specs.Signature.{Signature}
use Rattle.ame_term.specs.State.{State}
use Rattle.ame_laws.proofs.MapLemmas.{each-at}
use Rattle.ame_laws.specs.Typed.StoreTyping.{StoreTyping}
use Rattle.ame_laws.specs.Typed.TypedState.{IsTyped, IsMember}
use Rattle.ame_calculus.specs.Renamed.{renamed_value, renamed, AreInverse, IsRenamed}
use Rattle.ame_calculus.proofs.AgreeLemmas.{Agree, same-renamed, same-value}
use Rattle.ame_calculus.proofs.RenamedRuns.{one-name}

-- p for q and q for p
abbrev pub swap : ℕ → ℕ → ℕ → ℕ
swap p q y = if y == p then q else (if y == q then p else y)

itself : (n : ℕ) → (n == n) ≡ true
itself n = grind arith

differ : (m n : ℕ) → (m ≡ n → ⊥) → (m == n) ≡ false
differ m n apart = grind arith

apart-of : (m n : ℕ) → (m == n) ≡ false → m ≡ n → ⊥
apart-of m n away e =
    let here : (m == n) ≡ true = subst (λ (k : ℕ). (m == k) ≡ true) e (itself m) in
    let clash : true ≡ false = sym here ∙ away in
    cc

pub swap-first : (p q : ℕ) → swap p q p ≡ q
swap-first p q = ap (λ (b : Bool). if b then q else (if p == q then p else p)) (itself p)

-- the other one
swap-second : (p q : ℕ) → swap p q q ≡ p
swap-second p q = by (q == p) refl
  where
    by : (b : Bool) → (q == p) ≡ b → (if b then q else (if q == q then p else q)) ≡ p
    by true e = eqb-true q p e
    by false e = ap (λ (b : Bool). if b then p else q) (itself q)

pub swap-other : (p q y : ℕ) → (y ≡ p → ⊥) → (y ≡ q → ⊥) → swap p q y ≡ y
swap-other p q y a b = ap (λ (c : Bool). if c then q else (if y == q then p else y)) (differ y p a) ∙ ap (λ (c : Bool). if c then p else y) (differ y q b)

-- what is true of both and of the others
swap-cases : (P : ℕ → ℕ → Type 0) (p q y : ℕ) → P p q → P q p → ((y ≡ p → ⊥) → (y ≡ q → ⊥) → P y y) → P y (swap p q y)
swap-cases P p q y first second other = by (y == p) refl (y == q) refl
  where
    by : (b : Bool) → (y == p) ≡ b → (c : Bool) → (y == q) ≡ c → P y (if b then q else (if c then p else y))
    by true e c h = subst (λ (z : ℕ). P z q) (sym (eqb-true y p e)) first
    by false e true h = subst (λ (z : ℕ). P z p) (sym (eqb-true y q h)) second
    by false e false h = other (apart-of y p e) (apart-of y q h)

pub swap-twice : (p q y : ℕ) → swap p q (swap p q y) ≡ y
swap-twice p q y = swap-cases (λ a b. swap p q b ≡ a) p q y (swap-second p q) (swap-first p q) (λ a b. swap-other p q y a b)

module _ (f g : ℕ → ℕ) (inverse : AreInverse f g) (p q : ℕ) where
  pub swapped-inverse : AreInverse (λ l. swap p q (f l)) (λ l. g (swap p q l))
  swapped-inverse = record {
    back = λ l. ap g (swap-twice p q (f l)) ∙ inverse.back l;
    forth = λ l. ap (swap p q) (inverse.forth (swap p q l)) ∙ swap-twice p q l;
  }

-- A location that the one state doesn't have takes the name of one that the other doesn't have.
module _ (signature : Signature) (cells : StoreTyping) (f g : ℕ → ℕ) (inverse : AreInverse f g) (s t : State) (typed : IsTyped signature cells s) (r : IsRenamed f s t)
    (l m : ℕ) (free : at s.store l ≡ None) (unused : at t.store m ≡ None) where
  abbrev to : ℕ → ℕ
  to k = swap (f l) m (f k)

  unstored : at t.store (f l) ≡ None
  unstored = r.store l ∙ ap (option_map (renamed_value f)) free

  stays : (k : ℕ) → is_some (at s.store k) ≡ true → f k ≡ to k
  stays k there =
      sym (swap-other (f l) m (f k)
      (λ e. let same : k ≡ l = one-name f g inverse k l e in let clash : false ≡ true = sym (ap is_some (ap (at s.store) same ∙ free)) ∙ there in cc)
      (λ e. let clash : false ≡ true = sym (ap is_some (ap (at t.store) e ∙ unused)) ∙ there-too k there in cc))
    where
      there-too : (k : ℕ) → is_some (at s.store k) ≡ true → is_some (at t.store (f k)) ≡ true
      there-too k there = ap is_some (r.store k) ∙ by (at s.store k) there
        where
          by : (o : Option Val) → is_some o ≡ true → is_some (option_map (renamed_value f) o) ≡ true
          by None e = e
          by (Some v) e = refl

  agrees : Agree cells f to
  agrees k cell is = stays k (typed.located k cell is)

  -- a location that isn't in the store has a name that isn't, too
  unused-then : (k : ℕ) → at s.store k ≡ None → at t.store (to k) ≡ None
  unused-then k none =
      swap-cases (λ a b. at t.store a ≡ None → at t.store b ≡ None) (f l) m (f k) (λ e. unused) (λ e. unstored) (λ a b e. e)
      (r.store k ∙ ap (option_map (renamed_value f)) none)

  pub swapped-renames : IsRenamed to s t
  swapped-renames = record {
    store = λ k. contents k (at s.store k) refl;
    members = λ i. member i (at s.members i) refl;
    active = r.active;
    output = r.output;
    next = r.next;
  }
    where
      contents : (k : ℕ) (o : Option Val) → at s.store k ≡ o → at t.store (to k) ≡ option_map (renamed_value to) (at s.store k)
      contents k None is = unused-then k is ∙ sym (ap (option_map (renamed_value to)) is)
      contents k (Some v) is =
          let there : is_some (at s.store k) ≡ true = ap is_some is in
          let value = typed.typed.stored k v is in
          ap (at t.store) (sym (stays k there)) ∙ r.store k ∙ ap (option_map (renamed_value f)) is
          ∙ ap Some (same-value signature cells f to agrees value.2.0) ∙ sym (ap (option_map (renamed_value to)) is)

      member : (i : ℕ) (o : Option Tree) → at s.members i ≡ o → at t.members i ≡ option_map (renamed to) (at s.members i)
      member i None is = r.members i ∙ ap (option_map (renamed f)) is ∙ sym (ap (option_map (renamed to)) is)
      member i (Some term) is =
          let of_it = each-at (IsMember signature cells) s.members i term is typed.typed.members in
          r.members i ∙ ap (option_map (renamed f)) is ∙ ap Some (same-renamed signature cells f to agrees of_it.0) ∙ sym (ap (option_map (renamed to)) is)
