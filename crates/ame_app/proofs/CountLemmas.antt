-- There are as many certificates as members.
use Rattle.std.proofs.Common.{Less, ◌≡◌, ℕ, zero, suc, ◌<◌, ◌⊎◌, inl, inr, Bool, true, false, cond, List, [], ◌∷◌, map, length, All, Some, refl, sym}
use Rattle.std.proofs.Common.{ap, ◌∙◌, subst, arith}
use Rattle.std.specs.Prelude.{Contains, IsSome, slice_index_or}
use Rattle.std.specs.List.{AllByRecursion}
use Rattle.std.specs.List.Sorted.{IsStrictlySortedBy}
use Rattle.std.specs.Map.{keys_of}
use Rattle.std.specs.BTreeMap.{is_at}
use Rattle.std.specs.Ordering.{nat_cmp}
use Rattle.std.proofs.lemmas.List.Elements.{All-nil, All-cons, All-contains}
use Rattle.ame_term.specs.Maps.{at}
use Rattle.ame_term.specs.State.{State}
use Rattle.ame_laws.specs.Orderly.{IsOrderly}
use Rattle.ame_laws.proofs.MapLemmas.{is_at-same, is_at-here, lt-from_less}
use Rattle.ame_journal.specs.declared.certificate.Certificate.{Certificate}
use Rattle.ame_engine.specs.Ending.{Rise, CertifyAll}

-- Elements of a list

pub here : (n i : ℕ) (ns : List ℕ) → n ≡ i → Contains (n ∷ ns) i
here n i ns e = (0, omega arith, e)

pub more : (n i : ℕ) (ns : List ℕ) → Contains ns i → Contains (n ∷ ns) i
more n i ns c = (suc c.0, (let within = c.1 in omega (arith, within)), c.2)

here-or-later : (n i : ℕ) (ns : List ℕ) (k : ℕ) → k < length (n ∷ ns) → slice_index_or (n ∷ ns) k i ≡ i → (n ≡ i) ⊎ Contains ns i
here-or-later n i ns zero within e = inl e
here-or-later n i ns (suc k) within e = inr (k, omega (arith, within), e)

pub first-or-later : (n i : ℕ) (ns : List ℕ) → Contains (n ∷ ns) i → (n ≡ i) ⊎ Contains ns i
first-or-later n i ns c = here-or-later n i ns c.0 c.1 c.2

pub empty : (i : ℕ) → Contains [] i → ⊥
empty i c = let within = c.1 in omega (arith, within)

-- Lists of rising numbers with the same elements are the same

abbrev AllIn : List ℕ → List ℕ → Type 0
AllIn ns ms = (k : ℕ) → Contains ns k → Contains ms k

-- the first ones are the same
same-first : (n m : ℕ) (ns ms : List ℕ) → All (λ k. n < k) ns → All (λ k. m < k) ms → (n ≡ m) ⊎ Contains ns m → (m ≡ n) ⊎ Contains ms n → n ≡ m
same-first n m ns ms above over (inl e) there = e
same-first n m ns ms above over (inr c) (inl e) = sym e
same-first n m ns ms above over (inr c) (inr d) =
    let up : n < m = All-contains (λ (k : ℕ). n < k) ns m above c in
    let down : m < n = All-contains (λ (k : ℕ). m < k) ms n over d in
    absurd (omega (arith, up, down))

-- a number after the first one of one list is after that of the other
behind : (n m k : ℕ) (ns ms : List ℕ) → n ≡ m → All (λ i. n < i) ns → Contains ns k → (m ≡ k) ⊎ Contains ms k → Contains ms k
behind n m k ns ms same above c (inr d) = d
behind n m k ns ms same above c (inl e) =
    let up : n < k = All-contains (λ (i : ℕ). n < i) ns k above c in
    absurd (omega (arith, up, same, e))

rising-same : (ns ms : List ℕ) → Rise ns → Rise ms → AllIn ns ms → AllIn ms ns → ns ≡ ms
rising-same [] [] rise up there back = refl
rising-same [] (m ∷ ms) rise up there back = absurd (empty m (back m (here m m ms refl)))
rising-same (n ∷ ns) [] rise up there back = absurd (empty n (there n (here n n ns refl)))
rising-same (n ∷ ns) (m ∷ ms) rise up there back =
    let first = same-first n m ns ms rise.0 up.0 (first-or-later n m ns (back m (here m m ms refl))) (first-or-later m n ms (there n (here n n ns refl))) in
    let rest = rising-same ns ms rise.1 up.1
    (λ k c. behind n m k ns ms first rise.0 c (first-or-later m k ms (there k (more n k ns c))))
    (λ k c. behind m n k ms ns (sym first) up.0 c (first-or-later n k ns (back k (more m k ms c)))) in
    ap (λ (x : ℕ). x ∷ ns) first ∙ ap (λ (l : List ℕ). m ∷ l) rest

-- Finite maps

is_at-differs : (i n : ℕ) → is_at (nat_cmp i) n ≡ false → n ≡ i → ⊥
is_at-differs i n away same =
    let here : is_at (nat_cmp i) n ≡ true = subst (λ (k : ℕ). is_at (nat_cmp i) k ≡ true) (sym same) (is_at-here i) in
    let clash : true ≡ false = sym here ∙ away in
    cc

all-above : (n : ℕ) (ns : List ℕ) → AllByRecursion (λ k. nat_cmp n k ≡ Less) ns → All (λ k. n < k) ns
all-above n [] h = All-nil (λ (k : ℕ). n < k)
all-above n (k ∷ ks) h = All-cons (λ (i : ℕ). n < i) k ks (lt-from_less n k h.0) (all-above n ks h.1)

rises-by : (ns : List ℕ) → IsStrictlySortedBy nat_cmp ns → Rise ns
unfolding IsStrictlySortedBy
rises-by [] h = tt
rises-by (n ∷ ns) h = (all-above n ns h.0, rises-by ns h.1)

module _ {X : Type 0} where
  -- each number that is found is among the keys
  found-named : (es : List (ℕ × X)) (n : ℕ) → IsSome (at es n) → Contains (keys_of es) n
  found-named [] n some = absurd (let clash : false ≡ true = some in cc)
  found-named (e ∷ es) n some = by (is_at (nat_cmp n) e.0) refl some (λ later. found-named es n later)
    where
      by : (b : Bool) → is_at (nat_cmp n) e.0 ≡ b → IsSome (cond b (Some e.1) (at es n))
          → (IsSome (at es n) → Contains (keys_of es) n) → Contains (keys_of (e ∷ es)) n
      by true is some go = here e.0 n (keys_of es) (sym (is_at-same n e.0 is))
      by false is some go = more e.0 n (keys_of es) (go some)

  named-found : (es : List (ℕ × X)) (n : ℕ) → Contains (keys_of es) n → IsSome (at es n)
  named-found [] n c = absurd (empty n c)
  named-found (e ∷ es) n c = by (is_at (nat_cmp n) e.0) refl (first-or-later e.0 n (keys_of es) c) (λ later. named-found es n later)
    where
      by : (b : Bool) → is_at (nat_cmp n) e.0 ≡ b → (e.0 ≡ n) ⊎ Contains (keys_of es) n → (Contains (keys_of es) n → IsSome (at es n))
          → IsSome (cond b (Some e.1) (at es n))
      by true is c go = refl
      by false is (inl same) go = absurd (is_at-differs n e.0 is same)
      by false is (inr later) go = go later

length-map : {X Y : Type 0} (f : X → Y) (xs : List X) → length (map f xs) ≡ length xs
length-map f [] = refl
length-map f (x ∷ xs) = ap suc (length-map f xs)

pub certified-count : (s : State) → IsOrderly s → (certificates : List Certificate) → CertifyAll s certificates → length certificates ≡ length s.members
certified-count s orderly certificates all =
    let numbers = map (λ (c : Certificate). c.number) certificates in
    let same = rising-same numbers (keys_of s.members) all.rise (rises-by (keys_of s.members) orderly.members_rise)
    (λ k c. found-named s.members k ((all.members k).1 c))
    (λ k c. (all.members k).0 (named-found s.members k c)) in
    sym (length-map (λ (c : Certificate). c.number) certificates) ∙ ap length same ∙ length-map (λ e. e.0) s.members
