-- The classes of bytes, and the stretches of bytes that tokens and comments are made of.
use Rattle.std.specs.Prelude.{◌≡◌, ℕ, ◌-◌, ◌+◌, ◌*◌, ◌||◌, Bool, true, false, not, if◌then◌else◌, ◌==◌, List, [], ◌∷◌, ◌++◌}
use Rattle.std.specs.List.{AllByRecursion, fold}
use Rattle.std.specs.Char.{is_ascii_alphabetic, is_ascii_digit}
use Rattle.ame_lex.specs.declared.classes.Class.{Class}
use Rattle.ame_lex.specs.declared.classes.Class.TheVariants.{Blank, Semicolon, Opening, Closing, Letter, Digit, Underscore, Minus, Operator, Other}

-- a text is its bytes
abbrev pub Text : Type 0
Text = List ℕ

-- the most bytes that a text may have
abbrev pub max_text : ℕ
max_text = 1048576

-- what a byte is outside a comment
unfoldable pub class_of : ℕ → Class
class_of b =
    if b == 32 || b == 9 || b == 13 || b == 10 then Blank
    else (if b == 59 then Semicolon
    else (if b == 40 then Opening
    else (if b == 41 then Closing
    else (if is_ascii_alphabetic b then Letter
    else (if is_ascii_digit b then Digit
    else (if b == 95 then Underscore
    else (if b == 45 then Minus
    else (if b == 43 || b == 42 || b == 60 || b == 61 then Operator
    else Other))))))))

-- a word goes on with letters, digits and underscores
abbrev pub continues_word : Class → Bool
continues_word Letter = true
continues_word Digit = true
continues_word Underscore = true
continues_word _ = false

-- a letter, a digit or an underscore
abbrev pub is_word_byte : ℕ → Bool
is_word_byte b = continues_word (class_of b)

-- a number goes on with digits
abbrev pub continues_number : Class → Bool
continues_number Digit = true
continues_number _ = false

-- one of `0` to `9`
abbrev pub is_digit : ℕ → Bool
is_digit b = continues_number (class_of b)

-- a comment goes on to the next line feed
abbrev pub is_comment_byte : ℕ → Bool
is_comment_byte b = not (b == 10)

-- the text begins with a byte that passes
abbrev pub begins : (ℕ → Bool) → Text → Bool
begins passes [] = false
begins passes (b ∷ rest) = passes b

-- `stretch` are all bytes that pass at the beginning of the text, and `rest` follows
pub record IsStretch (passes : ℕ → Bool) (text stretch rest : Text) : Type 0 where
  pub split : text ≡ stretch ++ rest
  pub pass : AllByRecursion (λ b. passes b ≡ true) stretch
  pub longest : begins passes rest ≡ false

-- the value of decimal digits
abbrev pub decimal : Text → ℕ
decimal digits = fold (λ value digit. 10 * value + (digit - 48)) 0 digits
