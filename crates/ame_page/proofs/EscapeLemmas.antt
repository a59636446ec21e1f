-- Escaped text has no marks, and determines what was escaped.
use Rattle.std.proofs.Common.{◌≡◌, ◌≢◌, ◌⊎◌, inl, inr, ℕ, ◌+◌, ◌<◌, ◌≤◌, ◌/◌, ◌%◌, ◌^◌, Bool, true, false, cond, List, [], ◌∷◌, ◌++◌, get_or, drop, codes, decimal, refl, sym, ap, subst, ◌∙◌, arith, append_assoc}
use Rattle.std.proofs.lemmas.Fmt.{decimal_digit, decimal_step}
use Rattle.std.proofs.lemmas.List.Elements.{All-nil, All-cons, All-append}
use Rattle.ame_page.specs.Escapes.{is_mark, by_number, escaped_byte, escaped, HasNoMark}

-- the four marks have numbers of two digits
mark_range : (b : ℕ) → is_mark b ≡ true → (34 ≤ b) × (b ≤ 62)
mark_range b m = (grind (arith, m), grind (arith, m))

two_digits : (n : ℕ) → 10 ≤ n → n < 100 → decimal n ≡ (48 + n / 10) ∷ (48 + n % 10) ∷ []
two_digits n low high =
    let small : n < 2 ^ 64 = omega arith in
    let tens : n / 10 < 10 = omega arith in
    decimal_step n low small ∙ ap (λ l. l ++ (48 + n % 10) ∷ []) (decimal_digit (n / 10) tens)

spelled : (b : ℕ) → is_mark b ≡ true → by_number b ≡ 38 ∷ 35 ∷ (48 + b / 10) ∷ (48 + b % 10) ∷ 59 ∷ []
spelled b m =
    let r = mark_range b m in
    ap (λ l. codes "&#" ++ l ++ codes ";") (two_digits b (omega (arith, r.0)) (omega (arith, r.1)))

-- no byte of an escaped one is a mark
abbrev IsNoMark : ℕ → Type 0
IsNoMark byte = (byte ≢ 60) × (byte ≢ 62) × (byte ≢ 34)

byte_has_no_mark : (b : ℕ) (m : Bool) → is_mark b ≡ m → HasNoMark (cond m (by_number b) (b ∷ []))
byte_has_no_mark b true m =
    let r = mark_range b m in
    let tens : IsNoMark (48 + b / 10) = (λ e. omega (arith, e, r.1), λ e. omega (arith, e, r.1), λ e. omega (arith, e)) in
    let ones : IsNoMark (48 + b % 10) = (λ e. omega (arith, e), λ e. omega (arith, e), λ e. omega (arith, e)) in
    let P : List ℕ → Type 0 = HasNoMark in
    subst P (sym (spelled b m))
    (All-cons IsNoMark 38 ((35 ∷ (48 + b / 10) ∷ (48 + b % 10) ∷ 59 ∷ [])) (λ e. omega (arith, e), λ e. omega (arith, e), λ e. omega (arith, e))
    (All-cons IsNoMark 35 ((48 + b / 10) ∷ (48 + b % 10) ∷ 59 ∷ []) (λ e. omega (arith, e), λ e. omega (arith, e), λ e. omega (arith, e))
    (All-cons IsNoMark (48 + b / 10) ((48 + b % 10) ∷ 59 ∷ []) tens
    (All-cons IsNoMark (48 + b % 10) (59 ∷ []) ones
    (All-cons IsNoMark 59 [] (λ e. omega (arith, e), λ e. omega (arith, e), λ e. omega (arith, e)) (All-nil IsNoMark))))))
byte_has_no_mark b false m =
    All-cons IsNoMark b [] (λ e. absurd (grind (arith, m, e)), λ e. absurd (grind (arith, m, e)), λ e. absurd (grind (arith, m, e))) (All-nil IsNoMark)

pub has_no_mark : (text : List ℕ) → HasNoMark (escaped text)
has_no_mark [] = All-nil IsNoMark
has_no_mark (b ∷ text) = All-append IsNoMark (escaped_byte b) (escaped text) (byte_has_no_mark b (is_mark b) refl) (has_no_mark text)

-- the first byte of an escaped one: a mark by its number, or no mark
front_number : (b : ℕ) (xs : List ℕ) → is_mark b ≡ true → by_number b ++ xs ≡ 38 ∷ 35 ∷ (48 + b / 10) ∷ (48 + b % 10) ∷ 59 ∷ xs
front_number b xs m = ap (λ l. l ++ xs) (spelled b m)

plain_is : (b : ℕ) → is_mark b ≡ false → (b ≡ 38) ⊎ (b ≡ 60) → ⊥
plain_is b m e = grind (arith, m, e)

front_same : (a b : ℕ) (m n : Bool) (xs ys : List ℕ) → is_mark a ≡ m → is_mark b ≡ n → cond m (by_number a) (a ∷ []) ++ xs ≡ cond n (by_number b) (b ∷ []) ++ ys →
    (a ≡ b) × (xs ≡ ys)
front_same a b true true xs ys m n e =
    let same = sym (front_number a xs m) ∙ e ∙ front_number b ys n in
    let tens : 48 + a / 10 ≡ 48 + b / 10 = ap (λ l. get_or l 2 0) same in
    let ones : 48 + a % 10 ≡ 48 + b % 10 = ap (λ l. get_or l 3 0) same in
    (omega (arith, tens, ones), ap (drop 5) same)
front_same a b true false xs ys m n e =
    let same = sym (front_number a xs m) ∙ e in
    let first : 38 ≡ b = ap (λ l. get_or l 0 0) same in
    absurd (plain_is b n (inl (sym first)))
front_same a b false true xs ys m n e =
    let same = e ∙ front_number b ys n in
    let first : a ≡ 38 = ap (λ l. get_or l 0 0) same in
    absurd (plain_is a m (inl first))
front_same a b false false xs ys m n e = (ap (λ l. get_or l 0 0) e, ap (drop 1) e)

-- no escaped byte begins with `<`
front_is : (b : ℕ) (m : Bool) (xs ys : List ℕ) → is_mark b ≡ m → cond m (by_number b) (b ∷ []) ++ xs ≡ 60 ∷ ys → ⊥
front_is b true xs ys m e =
    let same = sym (front_number b xs m) ∙ e in
    let first : 38 ≡ 60 = ap (λ l. get_or l 0 0) same in
    absurd (omega (arith, first))
front_is b false xs ys m e =
    let first : b ≡ 60 = ap (λ l. get_or l 0 0) e in
    absurd (plain_is b m (inr first))

-- what stands before the first `<` determines what was escaped
pub tells : (s t xs ys : List ℕ) → escaped s ++ 60 ∷ xs ≡ escaped t ++ 60 ∷ ys → (s ≡ t) × (xs ≡ ys)
tells [] [] xs ys e = (refl, ap (drop 1) e)
tells [] (b ∷ t) xs ys e = absurd (front_is b (is_mark b) (escaped t ++ 60 ∷ ys) xs refl (sym (e ∙ append_assoc (escaped_byte b) (escaped t) (60 ∷ ys))))
tells (a ∷ s) [] xs ys e = absurd (front_is a (is_mark a) (escaped s ++ 60 ∷ xs) ys refl (sym (append_assoc (escaped_byte a) (escaped s) (60 ∷ xs)) ∙ e))
tells (a ∷ s) (b ∷ t) xs ys e =
    let both = front_same a b (is_mark a) (is_mark b) (escaped s ++ 60 ∷ xs) (escaped t ++ 60 ∷ ys) refl refl
    (sym (append_assoc (escaped_byte a) (escaped s) (60 ∷ xs)) ∙ e ∙ append_assoc (escaped_byte b) (escaped t) (60 ∷ ys)) in
    let rest = tells s t xs ys both.1 in
    (ap (λ x. x ∷ s) both.0 ∙ ap (λ l. b ∷ l) rest.0, rest.1)
