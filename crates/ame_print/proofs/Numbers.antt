-- A number's decimal text stands alone, and is read as the number.
use Rattle.std.proofs.Common.{◌≡◌, ℕ, suc, ◌+◌, ◌-◌, ◌*◌, ◌<◌, ◌≤◌, ◌^◌, true, false, ℤ, pos, negsuc, neg_ℤ, FitsSigned, w64, [], ◌∷◌, ◌++◌, length, refl, sym, ap, subst, arith, rules}
use Rattle.std.specs.Fmt as fmt
use Rattle.std.specs.List.{AllByRecursion, fold}
use Rattle.std.specs.Str.Parse.{AllDigits}
use Rattle.std.specs.Str.{all_ascii_digits}
use Rattle.std.proofs.lemmas.Bool.Decides.{nat_tests}
use Rattle.std.proofs.lemmas.Str.Parse.{IsNumeralModel, numerals_by_fold, tells_all_ascii_digits, digit_from_value}
use Rattle.std.proofs.lemmas.Fmt.{digits_value-decimal, decimal_is_IsNumeral}
use Rattle.ame_lex.specs.declared.classes.Class.{Class}
use Rattle.ame_lex.specs.declared.classes.Class.TheVariants.{Digit, Minus}
use Rattle.ame_lex.specs.Bytes.{Text, class_of, continues_word, continues_number, is_word_byte, is_digit, begins, IsStretch, decimal}
use Rattle.ame_lex.specs.Grammar as grammar
use Rattle.ame_lex.specs.Grammar.{IsNumber}
use Rattle.ame_print.specs.Layout.{number_token}
use Rattle.ame_print.proofs.Canon.{IsAlone}

-- ---- the bytes of decimal text

digit_in_range : (c : ℕ) → 48 ≤ c → c ≤ 57 → class_of c ≡ Digit
unfolding class_of
digit_in_range c low high = grind (arith, nat_tests)

digits_continue : (digits : Text) → AllDigits 10 digits → AllByRecursion (λ b. is_digit b ≡ true) digits
digits_continue [] all = tt
digits_continue (c ∷ digits) all =
    let range = digit_from_value c all.0 in
    (ap continues_number (digit_in_range c range.0 range.1), digits_continue digits all.1)

-- ---- what ends a number

ends_class : (class : Class) → continues_word class ≡ false → continues_number class ≡ false
ends_class class h = grind arith

pub ends_number : (rest : Text) → begins is_word_byte rest ≡ false → begins is_digit rest ≡ false
ends_number [] h = refl
ends_number (b ∷ rest) h = ends_class (class_of b) h

-- ---- what the digits of a number are

-- the text is a digit and digits, whose value is this
record Digits (text : Text) (n : ℕ) : Type 0 where
  first : ℕ
  more : Text
  split : text ≡ first ∷ more
  begins_so : class_of first ≡ Digit
  pass : AllByRecursion (λ b. is_digit b ≡ true) more
  value : decimal (first ∷ more) ≡ n

digits_of : (text : Text) (n : ℕ) → 0 < length text → AllDigits 10 text → decimal text ≡ n → Digits text n
digits_of [] n some all value = absurd (omega arith)
digits_of (first ∷ more) n some all value =
    let range = digit_from_value first all.0 in
    record { first = first; more = more; split = refl; begins_so = digit_in_range first range.0 range.1; pass = digits_continue more all.1; value = value }

abbrev read_on : ℕ → Text → ℕ
read_on n digits = fold (λ value digit. 10 * value + (digit - 48)) n digits

own : IsNumeralModel (λ digits. all_ascii_digits digits ≡ true) (read_on 0)
own = numerals_by_fold _ tells_all_ascii_digits read_on (search rules)

decimal_digits : (n : ℕ) → n < 2 ^ 64 → Digits (fmt.decimal n) n
decimal_digits n small =
    let numeral = decimal_is_IsNumeral n small in
    digits_of (fmt.decimal n) n numeral.0.0 numeral.0.1 (digits_value-decimal own n small)

-- digits that end are a run
run_ends : (more rest : Text) → AllByRecursion (λ b. is_digit b ≡ true) more → begins is_word_byte rest ≡ false → IsStretch is_digit (more ++ rest) more rest
run_ends more rest pass ends = record { split = refl; pass = pass; longest = ends_number rest ends }

plain_number : (text rest : Text) (n : ℕ) → Digits text n → begins is_word_byte rest ≡ false → IsNumber (text ++ rest) (pos n) text rest
plain_number text rest n digits ends =
    subst (λ z. IsNumber (z ++ rest) (pos n) z rest) (sym digits.split)
    (subst (λ m. IsNumber (digits.first ∷ (digits.more ++ rest)) (pos m) (digits.first ∷ digits.more) rest) digits.value
    (grammar.plain digits.begins_so (run_ends digits.more rest digits.pass ends)))

minus_class : class_of 45 ≡ Minus
unfolding class_of
minus_class = refl

negative_number : (text rest : Text) (n : ℕ) → Digits text n → begins is_word_byte rest ≡ false → IsNumber (45 ∷ (text ++ rest)) (neg_ℤ (pos n)) (45 ∷ text) rest
negative_number text rest n digits ends =
    subst (λ z. IsNumber (45 ∷ (z ++ rest)) (neg_ℤ (pos n)) (45 ∷ z) rest) (sym digits.split)
    (subst (λ m. IsNumber (45 ∷ digits.first ∷ (digits.more ++ rest)) (neg_ℤ (pos m)) (45 ∷ digits.first ∷ digits.more) rest) digits.value
    (grammar.negative minus_class digits.begins_so (run_ends digits.more rest digits.pass ends)))

-- a number that fits 64 bits stands alone
pub number_alone : (value : ℤ) → FitsSigned w64 value → IsAlone (number_token value)
number_alone (pos n) fit rest ends =
    let small : n < 2 ^ 64 = let h = fit.sfits in omega arith in
    grammar.number (plain_number (fmt.decimal n) rest n (decimal_digits n small) (ends refl)) fit (ends refl)
number_alone (negsuc n) fit rest ends =
    let small : suc n < 2 ^ 64 = let h = fit.sfits in omega arith in
    grammar.number (negative_number (fmt.decimal (suc n)) rest (suc n) (decimal_digits (suc n) small) (ends refl)) fit (ends refl)
