-- The seats that may be picked, while others wait.
use Rattle.std.proofs.Common.{◌≡◌, ℕ, zero, suc, ◌⊎◌, inl, inr, ⊎_elim, true≢false, ◌+◌, ◌<◌, ◌≤◌, Bool, true, false, cond, List, [], ◌∷◌, ◌++◌, length, take, get_or, set, replicate, refl, sym, ap, ◌∙◌, append-nil, add-zero, arith}
use Rattle.std.specs.List.{Contains, remove}
use Rattle.std.proofs.lemmas.List.{take_more, length-take}
use Rattle.ame_sim.specs.Waits.{seats_from, may_be_picked}

-- a seat more, which waits or not
seats_from-push : (seat : ℕ) (waits : List Bool) (one : Bool) → seats_from seat (waits ++ one ∷ []) ≡ seats_from seat waits ++ cond one [] ((seat + length waits) ∷ [])
seats_from-push seat [] true = refl
seats_from-push seat [] false = ap (λ s. s ∷ []) (sym (add-zero seat))
seats_from-push seat (true ∷ waits) one =
    let same : seat + 1 + length waits ≡ seat + suc (length waits) = omega arith in
    seats_from-push (seat + 1) waits one ∙ ap (λ s. seats_from (seat + 1) waits ++ cond one [] (s ∷ [])) same
seats_from-push seat (false ∷ waits) one =
    let same : seat + 1 + length waits ≡ seat + suc (length waits) = omega arith in
    ap (λ t. seat ∷ t) (seats_from-push (seat + 1) waits one ∙ ap (λ s. seats_from (seat + 1) waits ++ cond one [] (s ∷ [])) same)

-- the list goes on by a seat that doesn't wait, and stays at one that does
module _ (waits : List Bool) (i : ℕ) (below : i < length waits) where
  more : (one : Bool) → get_or waits i false ≡ one → may_be_picked (take (i + 1) waits) ≡ may_be_picked (take i waits) ++ cond one [] (i ∷ [])
  more one is =
      let long : 0 + length (take i waits) ≡ i = simp length-take (omega arith) in
      ap may_be_picked (take_more waits i false below ∙ ap (λ w. take i waits ++ w ∷ []) is)
      ∙ seats_from-push 0 (take i waits) one ∙ ap (λ s. may_be_picked (take i waits) ++ cond one [] (s ∷ [])) long

  pub may-more : get_or waits i false ≡ false → may_be_picked (take (i + 1) waits) ≡ may_be_picked (take i waits) ++ i ∷ []
  may-more is = more false is

  pub may-same : get_or waits i false ≡ true → may_be_picked (take (i + 1) waits) ≡ may_be_picked (take i waits)
  may-same is = more true is ∙ append-nil (may_be_picked (take i waits))

-- A seat that waits from now on is left out, after those before it that don't wait.
pub left-out : (first i : ℕ) (waits : List Bool) → i < length waits → get_or waits i false ≡ false
    → remove (seats_from first waits) (length (seats_from first (take i waits))) ≡ seats_from first (set waits i true)
left-out first i [] below free = absurd (omega arith)
left-out first zero (true ∷ waits) below free = absurd (true≢false free)
left-out first zero (false ∷ waits) below free = refl
left-out first (suc i) (true ∷ waits) below free = left-out (first + 1) i waits (omega arith) free
left-out first (suc i) (false ∷ waits) below free = ap (λ t. first ∷ t) (left-out (first + 1) i waits (omega arith) free)

-- which are fewer than all
pub fewer-before : (first i : ℕ) (waits : List Bool) → i < length waits → get_or waits i false ≡ false
    → length (seats_from first (take i waits)) < length (seats_from first waits)
fewer-before first i [] below free = absurd (omega arith)
fewer-before first zero (true ∷ waits) below free = absurd (true≢false free)
fewer-before first zero (false ∷ waits) below free = omega arith
fewer-before first (suc i) (true ∷ waits) below free = fewer-before (first + 1) i waits (omega arith) free
fewer-before first (suc i) (false ∷ waits) below free = let fewer = fewer-before (first + 1) i waits (omega arith) free in omega (arith, fewer)

-- there are as many at most as there are flags
pub length-seats_from : (seat : ℕ) (waits : List Bool) → length (seats_from seat waits) ≤ length waits
length-seats_from seat [] = omega arith
length-seats_from seat (true ∷ waits) = omega (arith, length-seats_from (seat + 1) waits)
length-seats_from seat (false ∷ waits) = omega (arith, length-seats_from (seat + 1) waits)

-- If all seats may be picked, none waits.
pub none-wait : (seat : ℕ) (waits : List Bool) → length waits ≤ length (seats_from seat waits) → waits ≡ replicate (length waits) false
none-wait seat [] all = refl
none-wait seat (true ∷ waits) all = absurd (omega (arith, length-seats_from (seat + 1) waits))
none-wait seat (false ∷ waits) all =
    let rest : length waits ≤ length (seats_from (seat + 1) waits) = omega arith in
    ap (λ t. false ∷ t) (none-wait (seat + 1) waits rest)

-- a list that begins with a seat that is asked for, or with another
tail-contains : {X : Type 0} (y x : X) (xs : List X) → Contains (y ∷ xs) x → (y ≡ x) ⊎ Contains xs x
tail-contains y x xs (zero, below, is) = inl is
tail-contains y x xs (suc place, below, is) =
    let shorter : place < length xs = omega arith in inr (place, shorter, is)

-- A seat that may be picked is one of the seats, and doesn't wait.
record IsFree (first seat : ℕ) (waits : List Bool) : Type 0 where
  place : ℕ
  is : seat ≡ first + place
  below : place < length waits
  free : get_or waits place false ≡ false

later : (first seat : ℕ) (wait : Bool) (waits : List Bool) → IsFree (first + 1) seat waits → IsFree first seat (wait ∷ waits)
later first seat wait waits at = record {
  place = suc at.place;
  is = omega (arith, at.is);
  below = omega (arith, at.below);
  free = at.free;
}

free-from : (first seat : ℕ) (waits : List Bool) → Contains (seats_from first waits) seat → IsFree first seat waits
free-from first seat [] (place, below, is) = absurd (omega arith)
free-from first seat (true ∷ waits) has = later first seat true waits (free-from (first + 1) seat waits has)
free-from first seat (false ∷ waits) has =
    ⊎_elim
    (λ is. record { place = 0; is = sym is ∙ sym (add-zero first); below = omega arith; free = refl })
    (λ rest. later first seat false waits (free-from (first + 1) seat waits rest))
    (tail-contains first seat (seats_from (first + 1) waits) has)

pub free-seat : (seat : ℕ) (waits : List Bool) → Contains (may_be_picked waits) seat → (seat < length waits) × (get_or waits seat false ≡ false)
free-seat seat waits has =
    let at = free-from 0 seat waits has in
    let same : at.place ≡ seat = omega (arith, at.is) in (omega (arith, at.below), ap (λ s. get_or waits s false) (sym same) ∙ at.free)

-- If a seat doesn't wait, some may be picked.
some-from : (first place : ℕ) (waits : List Bool) → place < length waits → get_or waits place false ≡ false → 0 < length (seats_from first waits)
some-from first place [] below free = absurd (omega arith)
some-from first place (false ∷ waits) below free = omega arith
some-from first zero (true ∷ waits) below free = absurd (true≢false free)
some-from first (suc place) (true ∷ waits) below free = some-from (first + 1) place waits (omega arith) free

pub some-seat : (seat : ℕ) (waits : List Bool) → seat < length waits → get_or waits seat false ≡ false → 0 < length (may_be_picked waits)
some-seat seat waits below free = some-from 0 seat waits below free
