-- Number words, as std reads them.
use Rattle.std.proofs.Common.{◌≡◌, ◌≢◌, ℕ, ◌+◌, ◌*◌, ◌-◌, ◌<◌, ◌≤◌, ◌^◌, Bool, true, false, cond, List, [], ◌∷◌, Option, Some, None, length, refl, sym, ap, ◌∙◌, subst, arith, rules, true≢false, leb-true, le-leb}
use Rattle.std.specs.Prelude.{◌&&◌, nat_le, decimal}
use Rattle.std.specs.List.{list_all, fold}
use Rattle.std.specs.Char.{is_ascii_digit}
use Rattle.std.specs.Str.{all_ascii_digits}
use Rattle.std.specs.Str.Parse.{IsNumeral, digits_value, without_leading_plus}
use Rattle.std.proofs.lemmas.Fmt.{decimal_is_IsNumeral, length-decimal-le}
use Rattle.std.proofs.lemmas.Str.Parse.{IsNumeralModel, numerals_by_fold, tells_all_ascii_digits, without_leading_plus_none}
use Rattle.ame_cli.specs.declared.bounds.Bounds.{Bounds}
use Rattle.ame_cli.specs.Items.{ArgWord}
use Rattle.ame_cli.specs.Numbers.{is_number, number_within}

same_digits : (ds : ArgWord) → list_all is_ascii_digit ds ≡ all_ascii_digits ds
same_digits [] = refl
same_digits (d ∷ ds) = ap (λ b. is_ascii_digit d && b) (same_digits ds)

abbrev read_on : ℕ → List ℕ → ℕ
read_on n digits = fold (λ value digit. 10 * value + (digit - 48)) n digits

own : IsNumeralModel (λ ds. all_ascii_digits ds ≡ true) (read_on 0)
own = numerals_by_fold _ tells_all_ascii_digits read_on (search rules)

pub both_true : (a b : Bool) → (a && b) ≡ true → (a ≡ true) × (b ≡ true)
both_true true b e = (refl, e)
both_true false b e = absurd (true≢false (sym e))

first_digit : (c : ℕ) → is_ascii_digit c ≡ true → c ≢ 43
first_digit c digit e = true≢false (sym digit ∙ ap is_ascii_digit e)

-- a number word is a numeral for std, without a plus in front
numeral : (word : ArgWord) → is_number word ≡ true → IsNumeral 10 (without_leading_plus word) × (without_leading_plus word ≡ word)
numeral [] e = absurd (true≢false (sym e))
numeral (c ∷ rest) e =
    let digits : list_all is_ascii_digit (c ∷ rest) ≡ true = (both_true (nat_le (length (c ∷ rest)) 10) _ (both_true _ _ e).1).1 in
    let plain : without_leading_plus (c ∷ rest) ≡ c ∷ rest = without_leading_plus_none (c ∷ rest) (first_digit c (both_true _ _ digits).0) in
    let some : 0 < length (c ∷ rest) = omega arith in
    (subst (IsNumeral 10) (sym plain) (some, own.to (c ∷ rest) (sym (same_digits (c ∷ rest)) ∙ digits)), plain)

-- what std doesn't read as 32 bits isn't in bounds
pub none_within : (word : ArgWord) (bounds : Bounds) → is_number word ≡ true → bounds.most < 2 ^ 32
    → ((IsNumeral 10 (without_leading_plus word) × (digits_value 10 (without_leading_plus word) < 2 ^ 32)) → ⊥) → None ≡ number_within bounds word
none_within word bounds digits small none = go (is_number word && (nat_le bounds.least (digits_value 10 word) && nat_le (digits_value 10 word) bounds.most)) refl
  where
    go : (b : Bool) → (is_number word && (nat_le bounds.least (digits_value 10 word) && nat_le (digits_value 10 word) bounds.most)) ≡ b → ◌≡◌ {A = Option ℕ} None (cond b (Some (digits_value 10 word)) None)
    go true e =
        let within : digits_value 10 word ≤ bounds.most = leb-true _ _ (both_true (nat_le bounds.least (digits_value 10 word)) _ (both_true (is_number word) _ e).1).1 in
        let is = numeral word digits in
        let below : digits_value 10 (without_leading_plus word) < 2 ^ 32 = subst (λ (t : ArgWord). digits_value 10 t < 2 ^ 32) (sym is.1) (omega arith) in
        absurd (none (is.0, below))
    go false e = refl

pub all_true : (a b c : Bool) → a ≡ true → b ≡ true → c ≡ true → (a && (b && c)) ≡ true
all_true true true true p q r = refl
all_true true true false p q r = r
all_true true false c p q r = q
all_true false b c p q r = p

-- decimal digits are a number word, unless there are too many
pub decimal_is_number : (n : ℕ) → n < 10 ^ 10 → is_number (decimal n) ≡ true
decimal_is_number n below =
    let wide : n < 2 ^ 64 = omega arith in
    let is = (decimal_is_IsNumeral n wide).0 in
    all_true _ _ _ (le-leb 1 (length (decimal n)) is.0) (le-leb (length (decimal n)) 10 (length-decimal-le 10 n (omega arith) below wide))
    (same_digits (decimal n) ∙ own.from (decimal n) is.1)
