-- Entries whose new locations are too far.
use Rattle.std.proofs.Common.{◌⊎◌, inl, inr, ◌≡◌, ℕ, ◌+◌, ◌-◌, ◌<◌, ◌≤◌, List, [], ◌∷◌, ◌++◌, length, map, take, get_or, All, sym, ap, ◌∙◌, subst, arith}
use Rattle.std.proofs.lemmas.List.{take_all, take_more, take-take, length-take-le, get_or-map, length-map}
use Rattle.std.proofs.lemmas.List.Elements.{All-get_or, All-head, All-map, All-tail, All-take}
use Rattle.ame_term.specs.declared.types.Loc.{Loc}
use Rattle.ame_journal.specs.declared.entry.Entry.{Entry}
use Rattle.ame_protocol.specs.Engine.Simulates.{most_opened}
use Rattle.ame_engine.specs.Resuming.{IsNear, IsFar}

-- No entry is far if all are near.
pub near-far : (base : List Entry) → All IsNear base → (n : ℕ) → IsFar base n → ⊥
near-far base near n f =
    let all : All IsNear (take (n - 1) base ++ f.entry ∷ []) = subst (All IsNear) f.is_entry (All-take IsNear n base near) in
    f.far (All-last (take (n - 1) base) f.entry all)
  where
    All-last : (es : List Entry) (e : Entry) → All IsNear (es ++ e ∷ []) → IsNear e
    All-last [] e all = All-head IsNear e [] all
    All-last (x ∷ es) e all = All-last es e (All-tail IsNear x (es ++ e ∷ []) all)

-- one entry is the first
earlier : (base : List Entry) (m n : ℕ) → m < n → IsFar base m → IsFar base n → ⊥
earlier base m n less f g =
    let within : m ≤ n - 1 = omega arith in
    let front : take m (take (n - 1) base) ≡ take m base = take-take m (n - 1) base within in
    near-far (take (n - 1) base) g.before m (record {
      place = (f.place.0, (let up : m ≤ length (take (n - 1) base) = (let count : n ≤ length base = g.place.1 in let sum : length (take (n - 1) base) ≡ n - 1 = length-take-le (n - 1) base (omega arith) in omega arith) in up));
      before = subst (All IsNear) (sym (take-take (m - 1) (n - 1) base (omega arith))) f.before;
      entry = f.entry;
      is_entry = front ∙ f.is_entry ∙ ap (λ (es : List Entry). es ++ f.entry ∷ []) (sym (take-take (m - 1) (n - 1) base (omega arith)));
      far = f.far;
    })

pub far-once : (base : List Entry) (m n : ℕ) → IsFar base m → IsFar base n → m ≡ n
far-once base m n f g = by (which m n)
  where
    which : (m n : ℕ) → (m < n) ⊎ (n < m) ⊎ (m ≡ n)
    which m n = grind arith

    by : (m < n) ⊎ (n < m) ⊎ (m ≡ n) → m ≡ n
    by (inl less) = absurd (earlier base m n less f g)
    by (inr (inl more)) = absurd (earlier base n m more g f)
    by (inr (inr same)) = same

-- by its locations
pub near-all : (fresh : List ℕ) (locs : List Loc) (index : ℕ) → fresh ≡ map (λ z. z.0) locs → All (λ z. z.0 < most_opened) (take index locs) → length locs ≤ index
    → All (λ l. l < most_opened) fresh
near-all fresh locs index is near within =
    subst (All (λ (l : ℕ). l < most_opened)) (sym is)
    (All-map (λ (l : ℕ). l < most_opened) (λ (z : Loc). z.0) locs (subst (All (λ (z : Loc). z.0 < most_opened)) (take_all index locs within) near))

pub near-none : (fresh : List ℕ) (locs : List Loc) (index : ℕ) (d : Loc) → fresh ≡ map (λ z. z.0) locs → index < length locs → most_opened ≤ (get_or locs index d).0
    → All (λ l. l < most_opened) fresh → ⊥
near-none fresh locs index d is below far all =
    let numbers : All (λ (l : ℕ). l < most_opened) (map (λ (z : Loc). z.0) locs) = subst (All (λ (l : ℕ). l < most_opened)) is all in
    let same_length : length (map (λ (z : Loc). z.0) locs) ≡ length locs = length-map locs (λ (z : Loc). z.0) in
    let one : get_or (map (λ (z : Loc). z.0) locs) index 0 < 4000000 = All-get_or (λ (l : ℕ). l < most_opened) (map (λ (z : Loc). z.0) locs) index 0 (omega arith) numbers in
    let its : get_or (map (λ (z : Loc). z.0) locs) index 0 ≡ (get_or locs index d).0 = get_or-map (λ (z : Loc). z.0) locs index d 0 below in
    let over : 4000000 ≤ (get_or locs index d).0 = far in
    omega arith

-- the first such entry
pub is-far : (base : List Entry) (index place : ℕ) (entry : Entry) → place ≡ index → All IsNear (take index base) → index < length base → entry ≡ get_or base index entry
    → (IsNear entry → ⊥) → IsFar base (place + 1)
is-far base index place entry count near below is far =
    let before : place + 1 - 1 ≡ index = (let same : place ≡ index = count in omega arith) in
    let next : place + 1 ≡ index + 1 = ap (λ (n : ℕ). n + 1) count in
    let one : take (index + 1) base ≡ take index base ++ entry ∷ [] = take_more base index entry below ∙ ap (λ (z : Entry). take index base ++ z ∷ []) (sym is) in
    record {
      place = (let same : place ≡ index = count in (omega arith, omega arith));
      before = subst (λ (k : ℕ). All IsNear (take k base)) (sym before) near;
      entry = entry;
      is_entry = ap (λ (k : ℕ). take k base) next ∙ one ∙ ap (λ (k : ℕ). take k base ++ entry ∷ []) (sym before);
      far = far;
    }
