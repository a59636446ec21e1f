-- The lines of an output that goes on.
use Rattle.std.proofs.Common.{◌≡◌, ℕ, ◌+◌, ◌<◌, ℤ, List, [], ◌∷◌, ◌++◌, get_or, take, length, refl, sym, ap, ◌∙◌, append_assoc, append-nil}
use Rattle.std.proofs.lemmas.List.{take_more}
use Rattle.ame_io.specs.Lines.{line_of, lines}

pub lines-append : (xs ys : List ℤ) → lines (xs ++ ys) ≡ lines xs ++ lines ys
lines-append [] ys = refl
lines-append (x ∷ xs) ys = ap (λ l. line_of x ++ l) (lines-append xs ys) ∙ sym (append_assoc (line_of x) (lines xs) (lines ys))

-- one more line
pub lines-last : (xs : List ℤ) (n : ℤ) → lines (xs ++ n ∷ []) ≡ lines xs ++ line_of n
lines-last xs n = lines-append xs (n ∷ []) ∙ ap (λ l. lines xs ++ l) (append-nil (line_of n))

-- the line of the next one after those before
pub lines-more : (output : List ℤ) (i : ℕ) (d : ℤ) (text new line : List ℕ) → i < length output → line ≡ line_of (get_or output i d) → new ≡ text ++ line
    → text ≡ lines (take i output) → new ≡ lines (take (i + 1) output)
lines-more output i d text new line below line_is is text_is =
    is ∙ ap (λ (t : List ℕ). t ++ line) text_is ∙ ap (λ (l : List ℕ). lines (take i output) ++ l) line_is
    ∙ sym (lines-last (take i output) (get_or output i d)) ∙ sym (ap lines (take_more output i d below))
