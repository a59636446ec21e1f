-- A text after marks.
use Rattle.std.proofs.Common.{◌≡◌, ℕ, ◌+◌, ◌-◌, ◌<◌, ◌≤◌, ◌==◌, ◌||◌, Bool, true, false, List, [], ◌∷◌, length, get_or, drop, min, refl, sym, ap, ◌∙◌, arith}
use Rattle.std.specs.List.{position_or_len}
use Rattle.std.proofs.lemmas.List.{length-drop, length-take, get_or-drop}
use Rattle.std.proofs.lemmas.List.Sums.{passes_at_first}
use Rattle.ame_why.specs.Words.{after_marks, place_after, word_from, begins_word}

none-left : (m : ℕ) (xs : List ℕ) → after_marks m 0 xs ≡ xs
none-left m [] = refl
none-left m (x ∷ xs) = refl

pub place-there : (m n count : ℕ) (text : List ℕ) (place : ℕ) → place ≤ length text → n ≡ 0 → after_marks m count text ≡ after_marks m n (drop place text)
    → place ≡ place_after m count text
place-there m n count text place within none so_far =
    let left : after_marks m count text ≡ drop place text = so_far ∙ ap (λ (k : ℕ). after_marks m k (drop place text)) none ∙ none-left m (drop place text) in
    let long : length (after_marks m count text) ≡ length text - place = ap length left ∙ length-drop place text in
    omega (arith, long)

either : (b : Bool) → (b || true) ≡ true
either true = refl
either false = refl

-- after a word that isn't the last, and a space, a word begins
pub word-begins : (line : List ℕ) (start n : ℕ) → n ≡ length (word_from line start) → n < length line - start → begins_word line (start + (n + 1)) ≡ true
word-begins line start n long more =
    let rest = drop start line in
    let place = position_or_len (λ (b : ℕ). b == 32) rest in
    let left : length rest ≡ length line - start = length-drop start line in
    let taken : n ≡ min place (length rest) = long ∙ length-take place rest in
    let here : place ≡ n = omega (arith, left, taken, more) in
    let passes : (get_or rest place 0 == 32) ≡ true = passes_at_first (λ (b : ℕ). b == 32) rest 0 (omega (arith, here, left, more)) in
    let at-end : (get_or line (start + n) 0 == 32) ≡ true =
    ap (λ (b : ℕ). b == 32) (sym (get_or-drop start line n 0) ∙ ap (λ (k : ℕ). get_or rest k 0) (sym here)) ∙ passes in
    let back : start + (n + 1) - 1 ≡ start + n = omega arith in
    ap (λ (k : ℕ). (start + (n + 1) == 0) || (get_or line k 0 == 32)) back
    ∙ ap (λ (b : Bool). (start + (n + 1) == 0) || b) at-end ∙ either (start + (n + 1) == 0)
