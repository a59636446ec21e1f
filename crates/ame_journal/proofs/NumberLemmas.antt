-- Decimal numbers: their values, and how they begin.
use Rattle.std.proofs.Common.{◌≡◌, ℕ, ◌+◌, ◌-◌, ◌*◌, ◌<◌, ◌≤◌, ◌^◌, true, false, List, [], ◌∷◌, length, get_or, take, min, decimal, pos, negsuc, ℤ, FitsSigned, Option, Some, None, suc, drop, eqb, ◌-ℤ◌, subst, true≢false, ap, sym, ◌∙◌, arith, rules, w64}
use Rattle.std.specs.Str.{all_ascii_digits}
use Rattle.std.specs.Fmt.{signed_decimal}
use Rattle.std.specs.List.{fold}
use Rattle.std.specs.Cmp.Lexicographic.{pointwise}
use Rattle.std.specs.Option.{SomeIff}
use Rattle.std.proofs.lemmas.Bool.Decides.{nat_tests}
use Rattle.std.proofs.lemmas.Int.{ints}
use Rattle.std.proofs.lemmas.Str.Parse.{IsNumeralModel, numerals_by_fold, tells_all_ascii_digits, digit_at}
use Rattle.std.proofs.lemmas.Fmt.{digits_value-decimal, decimal_is_IsNumeral, decimal_nonempty}
use Rattle.ame_journal.specs.Words.{digits_number}

abbrev pub read_on : ℕ → List ℕ → ℕ
read_on n digits = fold (λ value digit. 10 * value + (digit - 48)) n digits

pub own : IsNumeralModel (λ ds. all_ascii_digits ds ≡ true) (read_on 0)
own = numerals_by_fold _ tells_all_ascii_digits read_on (search rules)

-- what is read from a number's digits is the number
pub digits_number-decimal : (n : ℕ) → n < 2 ^ 64 → digits_number (decimal n) ≡ n
digits_number-decimal n h = digits_value-decimal own n h

-- a word that spells a number is spelled by what is read from it
pub same-decimal : (word text : List ℕ) (v x : ℕ) → v ≡ min (digits_number word) (2 ^ 64 - 1) → text ≡ decimal v → x < 2 ^ 64 → word ≡ decimal x → text ≡ word
same-decimal word text v x is text_is h e =
    let back : digits_number word ≡ x = ap digits_number e ∙ digits_number-decimal x h in
    let same : v ≡ x = omega arith in
    text_is ∙ ap decimal same ∙ sym e

begins-decimal : (ds : List ℕ) → 0 < length ds → 48 ≤ get_or ds 0 0 → pointwise eqb (take 1 ds) (45 ∷ []) ≡ false
begins-decimal [] more digit = absurd (omega arith)
begins-decimal (d ∷ ds) more digit = grind (arith, nat_tests)

-- a number's text doesn't begin with a minus sign
not_minus : (n : ℕ) → n < 2 ^ 64 → pointwise eqb (take 1 (decimal n)) (45 ∷ []) ≡ false
not_minus n h =
    let numeral = decimal_is_IsNumeral n h in
    begins-decimal (decimal n) (decimal_nonempty n h) (digit_at (decimal n) 0 numeral.0.1 (decimal_nonempty n h)).0

there : {X : Type 0} (P : Type 0) (x : X) (r : Option X) → SomeIff r P x → P → r ≡ Some x
there P x None iff holds = absurd (iff holds)
there P x (Some y) iff holds = ap Some iff.1

minus : (n : ℕ) → pos 0 -ℤ pos (suc n) ≡ negsuc n
minus n = omega (arith, ints)

-- what is read from a word that begins with a minus sign
pub signed-minus : (word digits : List ℕ) (v : ℕ) (r : Option ℤ) → pointwise eqb (take 1 word) (45 ∷ []) ≡ true → digits ≡ drop 1 word → v ≡ min (digits_number digits) (2 ^ 64 - 1) →
    SomeIff r (FitsSigned w64 (pos 0 -ℤ pos v)) (pos 0 -ℤ pos v) → (z : ℤ) → FitsSigned w64 z → word ≡ signed_decimal z → r ≡ Some z
signed-minus word digits v r begins rest is iff (pos n) fits e =
    let small : n < 2 ^ 64 = let h = fits.sfits in omega arith in
    let no : pointwise eqb (take 1 word) (45 ∷ []) ≡ false = ap (λ w. pointwise eqb (take 1 w) (45 ∷ [])) e ∙ not_minus n small in
    absurd (true≢false (sym begins ∙ no))
signed-minus word digits v r begins rest is iff (negsuc n) fits e =
    let small : suc n < 2 ^ 64 = let h = fits.sfits in omega arith in
    let digits_are : digits ≡ decimal (suc n) = rest ∙ ap (drop 1) e in
    let back : digits_number digits ≡ suc n = ap digits_number digits_are ∙ digits_number-decimal (suc n) small in
    let same : v ≡ suc n = omega arith in
    let value : pos 0 -ℤ pos v ≡ negsuc n = ap (λ m. pos 0 -ℤ pos m) same ∙ minus n in
    there (FitsSigned w64 (negsuc n)) (negsuc n) r (subst (λ m. SomeIff r (FitsSigned w64 m) m) value iff) fits

-- what is read from a word that doesn't
pub signed-plain : (word : List ℕ) (v : ℕ) (r : Option ℤ) → pointwise eqb (take 1 word) (45 ∷ []) ≡ false → v ≡ min (digits_number word) (2 ^ 64 - 1) →
    SomeIff r (FitsSigned w64 (pos (0 + v))) (pos (0 + v)) → (z : ℤ) → FitsSigned w64 z → word ≡ signed_decimal z → r ≡ Some z
signed-plain word v r begins is iff (pos n) fits e =
    let small : n < 2 ^ 64 = let h = fits.sfits in omega arith in
    let back : digits_number word ≡ n = ap digits_number e ∙ digits_number-decimal n small in
    let same : 0 + v ≡ n = omega arith in
    there (FitsSigned w64 (pos n)) (pos n) r (subst (λ m. SomeIff r (FitsSigned w64 (pos m)) (pos m)) same iff) fits
signed-plain word v r begins is iff (negsuc n) fits e =
    absurd (true≢false (sym (ap (λ w. pointwise eqb (take 1 w) (45 ∷ [])) e) ∙ begins))
