-- Numbers that do not fit still do not where more digits follow.
use Rattle.std.proofs.Common.{ℕ, zero, suc, ◌+◌, ◌-◌, ◌*◌, ◌≤◌, Bool, ℤ, pos, neg_ℤ, FitsSigned, w64, List, [], ◌∷◌, ◌++◌, take, drop, sym, ap, ◌∙◌, append_assoc, arith}
use Rattle.std.specs.List.{prefix_len, AllByRecursion, fold}
use Rattle.std.proofs.lemmas.List.Sums.{fold-append}
use Rattle.ame_lex.specs.Bytes.{Text, is_digit, IsStretch, decimal}
use Rattle.ame_lex.specs.Grammar.{IsNumber, plain, negative, IsFault, long_number}
use Rattle.ame_lex.specs.declared.tokens.LexFault.TheVariants.{LongNumber}
use Rattle.ame_lex.proofs.RunLemmas.{run_of}

AllByRecursion-append : (P : ℕ → Type 0) (xs ys : List ℕ) → AllByRecursion P xs → AllByRecursion P ys → AllByRecursion P (xs ++ ys)
AllByRecursion-append P [] ys all more = more
AllByRecursion-append P (x ∷ xs) ys all more = (all.0, AllByRecursion-append P xs ys all.1 more)

-- the first bytes of a text that pass
passing : (ℕ → Bool) → Text → Text
passing p text = take (prefix_len p text) text

-- a run goes on over what is written after the text
run-grown : {p : ℕ → Bool} {text run rest : Text} (more : Text) → IsStretch p text run rest
    → IsStretch p (text ++ more) (run ++ passing p (rest ++ more)) (drop (prefix_len p (rest ++ more)) (rest ++ more))
unfolding passing
run-grown {p} {text} {run} {rest} more r =
    let on = run_of p (rest ++ more) in
    record {
      split = ap (λ z. z ++ more) r.split ∙ append_assoc run rest more ∙ ap (λ z. run ++ z) on.split ∙ sym (append_assoc run _ _);
      pass = AllByRecursion-append _ run _ r.pass on.pass;
      longest = on.longest;
    }

fold-grows : (value : ℕ) (digits : Text) → value ≤ fold (λ value digit. 10 * value + (digit - 48)) value digits
fold-grows value [] = omega arith
fold-grows value (b ∷ digits) = omega (arith, fold-grows (10 * value + (b - 48)) digits)

decimal-grows : (digits more : Text) → decimal digits ≤ decimal (digits ++ more)
decimal-grows digits more = rw (fold-append (λ value digit. 10 * value + (digit - 48)) 0 digits more) (fold-grows (decimal digits) more)

long-grows : (m n : ℕ) → m ≤ n → ¬ (FitsSigned w64 (pos m)) → ¬ (FitsSigned w64 (pos n))
long-grows m n h long = λ f. grind arith

long-falls : (m n : ℕ) → m ≤ n → ¬ (FitsSigned w64 (neg_ℤ (pos m))) → ¬ (FitsSigned w64 (neg_ℤ (pos n)))
long-falls zero zero h long = long
long-falls zero (suc n) h long = λ f. grind arith
long-falls (suc m) zero h long = absurd (omega arith)
long-falls (suc m) (suc n) h long = λ f. grind arith

pub still_long : {at : ℕ} {text spelling rest : Text} {value : ℤ} (more : Text) → IsNumber text value spelling rest → ¬ (FitsSigned w64 value) → IsFault at (text ++ more) (LongNumber at)
still_long more (plain {first = first} {more = digits} {rest = rest} digit run) long =
    long_number (plain digit (run-grown more run)) (long-grows _ _ (decimal-grows (first ∷ digits) (passing is_digit (rest ++ more))) long)
still_long more (negative {first = first} {more = digits} {rest = rest} sign_is digit run) long =
    long_number (negative sign_is digit (run-grown more run)) (long-falls _ _ (decimal-grows (first ∷ digits) (passing is_digit (rest ++ more))) long)
