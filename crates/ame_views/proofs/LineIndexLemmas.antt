-- The line feeds of a text, and the lines of its places.
use Rattle.std.proofs.Common.{◌≡◌, ◌⊎◌, inl, inr, ℕ, zero, suc, ◌+◌, ◌-◌, ◌<◌, ◌≤◌, Bool, true, false, not, List, [], ◌∷◌, ◌++◌, length, take, get_or}
use Rattle.std.proofs.Common.{nat_lt, if◌then◌else◌, count_by, refl, sym, ap, ◌∙◌, subst, arith, add-one, length-drop}
use Rattle.std.proofs.Math.ListN.{get_or-append}
use Rattle.std.proofs.Math.Seq.{get_or-append_seam}
use Rattle.std.proofs.lemmas.List.{append-nil, append_assoc, length-append, get_or-append-add}
use Rattle.std.proofs.Math.Nat.{eq-or-lt_of_le}
use Rattle.std.proofs.lemmas.Bool.{ltb-true, ltb-false}
use Rattle.std.proofs.lemmas.Grind.{get_or_default_zero}
use Rattle.std.proofs.lemmas.List.Sorted.{IsNonDecreasingBy-push, IsNonDecreasingBy-short}
use Rattle.std.proofs.lemmas.List.Sums.{count_by_more_yes, count_by_more_no, suffix_len-take_yes, suffix_len-take_no, suffix_len-le-length}
use Rattle.std.specs.List.{suffix_len, after_last}
use Rattle.std.specs.List.Sorted.{IsNonDecreasingBy, IsPartitionPoint}
use Rattle.ame_why.specs.Position.{is_feed, is_within_line}
use Rattle.ame_views.specs.LineIndex.{feeds_before}

-- the line feeds before the next place, if the byte between is one, or isn't
feeds-feed : (text : List ℕ) (n : ℕ) → is_feed (get_or text n 0) ≡ true → feeds_before text (n + 1) ≡ feeds_before text n ++ n ∷ []
feeds-feed text n e = rw add-one (ap (λ (b : Bool). feeds_before text n ++ (if b then n ∷ [] else [])) e)

feeds-other : (text : List ℕ) (n : ℕ) → is_feed (get_or text n 0) ≡ false → feeds_before text (n + 1) ≡ feeds_before text n
feeds-other text n e =
    rw add-one (ap (λ (b : Bool). feeds_before text n ++ (if b then n ∷ [] else [])) e ∙ append-nil (feeds_before text n))

-- what holds of the line feeds before the first place, and goes on over each byte, holds of all
module _ (text : List ℕ) (P : ℕ → List ℕ → Type 0) (none : P 0 [])
    (feed : (n : ℕ) → n < length text → is_feed (get_or text n 0) ≡ true → P n (feeds_before text n) → P (n + 1) (feeds_before text n ++ n ∷ []))
    (other : (n : ℕ) → n < length text → is_feed (get_or text n 0) ≡ false → P n (feeds_before text n) → P (n + 1) (feeds_before text n))
  where
    over-feeds : (n : ℕ) → n ≤ length text → P n (feeds_before text n)
    over-feeds zero within = none
    over-feeds (suc n) within = by (over-feeds n (omega arith)) (is_feed (get_or text n 0)) refl
      where
        by : P n (feeds_before text n) → (b : Bool) → is_feed (get_or text n 0) ≡ b → P (suc n) (feeds_before text (suc n))
        by before true e =
            subst (λ (m : ℕ). P m (feeds_before text m)) (add-one n) (subst (P (n + 1)) (sym (feeds-feed text n e)) (feed n (omega arith) e before))
        by before false e =
            subst (λ (m : ℕ). P m (feeds_before text m)) (add-one n) (subst (P (n + 1)) (sym (feeds-other text n e)) (other n (omega arith) e before))

-- there are as many as are counted
length-feeds : (text : List ℕ) (n : ℕ) → n ≤ length text → length (feeds_before text n) ≡ count_by is_feed (take n text)
length-feeds text =
    over-feeds text (λ n feeds. length feeds ≡ count_by is_feed (take n text)) refl
    (λ n within e before. length-append (feeds_before text n) (n ∷ []) ∙ ap (λ (k : ℕ). k + 1) before ∙ sym (count_by_more_yes is_feed text n 0 within e))
    (λ n within e before. before ∙ sym (count_by_more_no is_feed text n 0 within e))

-- each stands before the place
abbrev AreBelow : ℕ → List ℕ → Type 0
AreBelow n feeds = (k : ℕ) → k < length feeds → get_or feeds k 0 < n

below-more : (n : ℕ) (feeds : List ℕ) → AreBelow n feeds → AreBelow (n + 1) (feeds ++ n ∷ [])
below-more n feeds below k within = grind (arith, below k, get_or-append feeds (n ∷ []) 0 k, get_or-append_seam feeds n [] 0, length-append feeds (n ∷ []))

feeds-below : (text : List ℕ) (n : ℕ) → n ≤ length text → AreBelow n (feeds_before text n)
feeds-below text =
    over-feeds text AreBelow (λ k within. absurd (omega arith)) (λ n within e before. below-more n (feeds_before text n) before)
    (λ n within e before k inside. let less : get_or (feeds_before text n) k 0 < n = before k inside in omega arith)

-- they rise
pub feeds-rise : (text : List ℕ) (n : ℕ) → n ≤ length text → IsNonDecreasingBy (λ (x : ℕ). x) (feeds_before text n)
feeds-rise text =
    over-feeds text (λ n feeds. IsNonDecreasingBy (λ (x : ℕ). x) feeds) (IsNonDecreasingBy-short (λ (x : ℕ). x) [] (omega arith))
    (λ n within e before. IsNonDecreasingBy-push (λ (x : ℕ). x) (feeds_before text n) n before (λ d some. last text n within d some)) (λ n within e before. before)
  where
    last : (text : List ℕ) (n : ℕ) → n < length text → (d : ℕ) → 0 < length (feeds_before text n)
        → get_or (feeds_before text n) (length (feeds_before text n) - 1) d ≤ n
    last text n within d some =
        let inside : length (feeds_before text n) - 1 < length (feeds_before text n) = omega arith in
        let below : get_or (feeds_before text n) (length (feeds_before text n) - 1) 0 < n = feeds-below text n (omega arith) _ inside in
        rw (get_or_default_zero (feeds_before text n) (length (feeds_before text n) - 1) d inside) (omega arith)

-- some line feeds stand first among all, and the others aren't before a place
record StandFirst (feeds : List ℕ) (place : ℕ) (all : List ℕ) : Type 0 where
  rest : List ℕ
  whole : all ≡ feeds ++ rest
  behind : (k : ℕ) → k < length rest → place ≤ get_or rest k 0

stand-alone : (feeds : List ℕ) (place : ℕ) → StandFirst feeds place feeds
stand-alone feeds place = record { rest = []; whole = sym (append-nil feeds); behind = λ k within. absurd (omega arith) }

stand-more : (feeds : List ℕ) (place : ℕ) (all : List ℕ) (n : ℕ) → place ≤ n → StandFirst feeds place all → StandFirst feeds place (all ++ n ∷ [])
stand-more feeds place all n below first = record {
  rest = first.rest ++ n ∷ [];
  whole = ap (λ (xs : List ℕ). xs ++ n ∷ []) first.whole ∙ append_assoc feeds first.rest (n ∷ []);
  behind = λ k within. more first.rest n place k below first.behind within;
}
  where
    more : (rest : List ℕ) (n place k : ℕ) → place ≤ n → ((j : ℕ) → j < length rest → place ≤ get_or rest j 0) → k < length (rest ++ n ∷ [])
        → place ≤ get_or (rest ++ n ∷ []) k 0
    more rest n place k below behind within =
        grind (arith, behind k, get_or-append rest (n ∷ []) 0 k, get_or-append_seam rest n [] 0, length-append rest (n ∷ []))

-- those before a place stand first among those before a later one
feeds-first : (text : List ℕ) (place n : ℕ) → n ≤ length text → place ≤ n → StandFirst (feeds_before text place) place (feeds_before text n)
feeds-first text place =
    over-feeds text (λ n feeds. place ≤ n → StandFirst (feeds_before text place) place feeds)
    (λ low. let start : place ≡ 0 = omega arith in subst (λ (p : ℕ). StandFirst (feeds_before text p) p []) (sym start) (stand-alone [] 0))
    (λ n within e before low. next n (feeds_before text n ++ n ∷ []) (feeds-feed text n e) (λ below. stand-more _ place _ n below (before below)) (eq-or-lt_of_le low))
    (λ n within e before low. next n (feeds_before text n) (feeds-other text n e) before (eq-or-lt_of_le low))
  where
    next : (n : ℕ) (feeds : List ℕ) → feeds_before text (n + 1) ≡ feeds → (place ≤ n → StandFirst (feeds_before text place) place feeds)
        → (place ≡ n + 1) ⊎ (place < n + 1) → StandFirst (feeds_before text place) place feeds
    next n feeds is earlier (inl same) =
        subst (λ (fs : List ℕ). StandFirst fs place feeds) (sym (ap (feeds_before text) same ∙ is)) (stand-alone feeds place)
    next n feeds is earlier (inr below) = earlier (omega arith)

-- so a point that parts all by the place comes after them
point-is : (feeds all : List ℕ) (place i : ℕ) → StandFirst feeds place all → AreBelow place feeds → i ≤ length all
    → IsPartitionPoint (λ f. nat_lt f place ≡ true) (λ f. nat_lt f place ≡ false) all i → i ≡ length feeds
point-is feeds all place i first below within point =
    let long : length all ≡ length feeds + length first.rest = ap length first.whole ∙ length-append feeds first.rest in
    let not_less : i < length feeds → ⊥ =
    λ less.
    let here : get_or all i 0 ≡ get_or feeds i 0 = ap (λ (xs : List ℕ). get_or xs i 0) first.whole ∙ get_or-append feeds first.rest 0 i less in
    let high : place ≤ get_or all i 0 = ltb-false _ _ (point.1 i 0 (omega arith) (omega arith)) in
    let low : get_or feeds i 0 < place = below i less in
    omega arith in
    let not_more : length feeds < i → ⊥ =
    λ more.
    let here : get_or all (length feeds + 0) 0 ≡ get_or first.rest 0 0 =
    ap (λ (xs : List ℕ). get_or xs (length feeds + 0) 0) first.whole ∙ get_or-append-add feeds first.rest 0 0 in
    let low : get_or all (length feeds + 0) 0 < place = ltb-true _ _ (point.0 (length feeds + 0) 0 (omega arith) (omega arith)) in
    let high : place ≤ get_or first.rest 0 0 = first.behind 0 (omega arith) in
    omega arith in
    omega arith

-- the point that parts the line feeds before a place from the others counts them
pub feeds-point : (text : List ℕ) (place i : ℕ) → place ≤ length text → i ≤ length (feeds_before text (length text))
    → IsPartitionPoint (λ f. nat_lt f place ≡ true) (λ f. nat_lt f place ≡ false) (feeds_before text (length text)) i
    → i ≡ count_by is_feed (take place text)
feeds-point text place i within inside point =
    point-is (feeds_before text place) _ place i (feeds-first text place (length text) (omega arith) within) (feeds-below text place within) inside point
    ∙ length-feeds text place within

-- the first place after the last of some line feeds
record StartsAt (start : ℕ) (feeds : List ℕ) : Type 0 where
  none : length feeds ≡ 0 → start ≡ 0
  some : 0 < length feeds → start ≡ get_or feeds (length feeds - 1) 0 + 1

start-more : (n start : ℕ) (feeds : List ℕ) → StartsAt start (feeds ++ n ∷ []) → start ≡ n + 1
start-more n start feeds starts =
    let long : length (feeds ++ n ∷ []) ≡ length feeds + 1 = length-append feeds (n ∷ []) in
    let place : length (feeds ++ n ∷ []) - 1 ≡ length feeds = omega arith in
    starts.some (omega arith)
    ∙ ap (λ (k : ℕ). get_or (feeds ++ n ∷ []) k 0 + 1) place ∙ ap (λ (k : ℕ). k + 1) (get_or-append_seam feeds n [] 0)

-- from there on no line feed stands before the place
start-is : (text : List ℕ) (n : ℕ) → n ≤ length text → (start : ℕ) → StartsAt start (feeds_before text n) → start + suffix_len is_within_line (take n text) ≡ n
start-is text =
    over-feeds text (λ n feeds. (start : ℕ) → StartsAt start feeds → start + suffix_len is_within_line (take n text) ≡ n)
    (λ start starts. let begins : start ≡ 0 = starts.none refl in omega arith)
    (λ n within e before start starts.
    let ended : suffix_len is_within_line (take (n + 1) text) ≡ 0 =
    suffix_len-take_no is_within_line text (n + 1) 0 (omega arith) (omega arith) (at n (is_feed (get_or text n 0)) true e refl) in
    let begins : start ≡ n + 1 = start-more n start (feeds_before text n) starts in
    omega arith)
    (λ n within e before start starts.
    let goes_on : suffix_len is_within_line (take (n + 1) text) ≡ 1 + suffix_len is_within_line (take (n + 1 - 1) text) =
    suffix_len-take_yes is_within_line text (n + 1) 0 (omega arith) (omega arith) (at n (is_feed (get_or text n 0)) false e refl) in
    let same : n + 1 - 1 ≡ n = omega arith in
    let one : suffix_len is_within_line (take (n + 1 - 1) text) ≡ suffix_len is_within_line (take n text) =
    ap (λ (k : ℕ). suffix_len is_within_line (take k text)) same in
    let earlier : start + suffix_len is_within_line (take n text) ≡ n = before start starts in
    omega arith)
  where
    at : (n : ℕ) (is b : Bool) → is ≡ b → is ≡ is_feed (get_or text n 0) → is_within_line (get_or text (n + 1 - 1) 0) ≡ not b
    at n is b e f =
        let same : n + 1 - 1 ≡ n = omega arith in
        ap (λ (k : ℕ). is_within_line (get_or text k 0)) same ∙ ap not (sym f ∙ e)

-- the first place of a line, and the bytes from there to the place
line-start : (text : List ℕ) (n start : ℕ) → n ≤ length text → (length (feeds_before text n) ≡ 0 → start ≡ 0)
    → (0 < length (feeds_before text n) → start ≡ get_or (feeds_before text (length text)) (length (feeds_before text n) - 1) 0 + 1)
    → start + length (after_last is_feed (take n text)) ≡ n
line-start text n start within none some =
    let first = feeds-first text n (length text) (omega arith) within in
    let starts : StartsAt start (feeds_before text n) = record {
      none = none;
      some = λ inside.
          some inside
          ∙ ap (λ (k : ℕ). k + 1)
          (ap (λ (xs : List ℕ). get_or xs (length (feeds_before text n) - 1) 0) first.whole ∙ get_or-append (feeds_before text n) first.rest 0 _ (omega arith));
    } in
    let whole : start + suffix_len is_within_line (take n text) ≡ n = start-is text n within start starts in
    let behind : length (after_last is_feed (take n text)) ≡ length (take n text) - (length (take n text) - suffix_len is_within_line (take n text)) =
    length-drop (length (take n text) - suffix_len is_within_line (take n text)) (take n text) in
    let fits : suffix_len is_within_line (take n text) ≤ length (take n text) = suffix_len-le-length is_within_line (take n text) in
    omega arith

-- the same by the number of line feeds before the place, if there are none
pub first-line : (text : List ℕ) (place feeds : ℕ) → place ≤ length text → feeds ≡ count_by is_feed (take place text) → feeds ≡ 0
    → length (after_last is_feed (take place text)) ≡ place
first-line text place feeds within counted none =
    let many : length (feeds_before text place) ≡ feeds = length-feeds text place within ∙ sym counted in
    let whole : 0 + length (after_last is_feed (take place text)) ≡ place = line-start text place 0 within (λ e. refl) (λ some. absurd (omega arith)) in
    omega arith

-- and if there are some: the last of them is among all
module _ (text items : List ℕ) (place feeds : ℕ) (within : place ≤ length text) (listed : items ≡ feeds_before text (length text))
    (counted : feeds ≡ count_by is_feed (take place text)) (some : feeds ≡ 0 → ⊥)
  where
    pub last-feed-listed : feeds - 1 < length items
    last-feed-listed =
        let first = feeds-first text place (length text) (omega arith) within in
        let many : length (feeds_before text place) ≡ feeds = length-feeds text place within ∙ sym counted in
        let long : length items ≡ length (feeds_before text place) + length first.rest =
        ap length listed ∙ ap length first.whole ∙ length-append (feeds_before text place) first.rest in
        omega arith

    pub later-line : (last : ℕ) → last ≡ get_or items (feeds - 1) last → last + 1 + length (after_last is_feed (take place text)) ≡ place
    later-line last is =
        let many : length (feeds_before text place) ≡ feeds = length-feeds text place within ∙ sym counted in
        line-start text place (last + 1) within (λ none. absurd (omega arith))
        (λ inside.
        ap (λ (k : ℕ). k + 1)
        (is ∙ get_or_default_zero items (feeds - 1) last last-feed-listed ∙ ap (λ (xs : List ℕ). get_or xs (feeds - 1) 0) listed
        ∙ ap (λ (k : ℕ). get_or (feeds_before text (length text)) (k - 1) 0) (sym many)))
