-- The first piece of a text, if the grammar has a number or a token there.
use Rattle.std.proofs.Common.{◌≡◌, ℕ, suc, ◌+◌, ◌<◌, Bool, true, false, cond, ℤ, pos, neg_ℤ, lit<, ◌∷◌, ◌++◌, length, refl, ap, ◌∙◌, arith}
use Rattle.std.specs.List.{prefix_len}
use Rattle.ame_lex.specs.declared.classes.Class.{Class}
use Rattle.ame_lex.specs.declared.classes.Class.TheVariants.{Opening, Closing, Letter, Digit, Minus, Operator}
use Rattle.ame_lex.specs.declared.pieces.Piece.TheVariants.{Found, Bad, Long}
use Rattle.ame_lex.specs.declared.tokens.Kind.{Kind}
use Rattle.ame_lex.specs.declared.tokens.Kind.TheVariants.{Word, Number, Symbol}
use Rattle.ame_lex.specs.Bytes.{Text, class_of, continues_number, is_word_byte, is_digit, begins, IsStretch, decimal}
use Rattle.ame_lex.specs.Grammar.{IsNumber, IsToken, plain, negative, opening, closing, word, number, symbol, minus}
use Rattle.ame_lex.specs.Reading as reading
use Rattle.ame_lex.specs.Reading.{fits_literal, value_of, checked, piece_by, first_piece}
use Rattle.ame_lex.proofs.RunLemmas.{one-plus, run_len, run_rest, run_front}
use Rattle.ame_lex.proofs.FitLemmas.{fits_test}
use Rattle.ame_lex.proofs.ReadingLemmas.{front}

-- the first piece of a text, by the class of its first byte
pub front_by : (class : Class) (b : ℕ) (rest : Text) → class_of b ≡ class → front (b ∷ rest) ≡ piece_by class b rest
unfolding first_piece
front_by class b rest e = ap (λ k. piece_by k b rest) e

-- the piece at digits after their sign
pub number-digits : (is_negative : Bool) (first : ℕ) (text more rest : Text) → class_of first ≡ Digit → IsStretch is_digit text more rest
    → reading.number is_negative (first ∷ text) ≡ checked (value_of is_negative (first ∷ more)) (cond is_negative 1 0 + suc (length more)) rest
unfolding reading.number
number-digits is_negative first text more rest e run =
    let count : prefix_len is_digit (first ∷ text) ≡ suc (length more) =
    ap (λ k. cond (continues_number k) (1 + prefix_len is_digit text) 0) e ∙ ap (λ n. 1 + n) (run_len run) ∙ one-plus (length more) in
    rw (count, run_front run, run_rest run) refl

-- the piece at a number
pub front-number : {text spelling rest : Text} {value : ℤ} → IsNumber text value spelling rest → front text ≡ checked value (length spelling) rest
front-number (plain {first = first} {text = text} {more = more} {rest = rest} digit run) =
    front_by Digit first text digit ∙ number-digits false first text more rest digit run ∙ ap (λ n. checked (pos (decimal (first ∷ more))) n rest) (omega arith)
front-number (negative {sign = sign} {first = first} {text = text} {more = more} {rest = rest} sign_is digit run) =
    front_by Minus sign (first ∷ text) sign_is
    ∙ ap (λ k. cond (continues_number k) (reading.number true (first ∷ text)) (Found (Symbol sign) 1)) digit
    ∙ number-digits true first text more rest digit run
    ∙ ap (λ n. checked (neg_ℤ (pos (decimal (first ∷ more)))) n rest) (omega arith)

-- the piece at a token
pub front-token : {text spelling rest : Text} {kind : Kind} → IsToken text kind spelling rest → front text ≡ Found kind (length spelling)
front-token (opening {b = b} {rest = rest} e) = front_by Opening b rest e
front-token (closing {b = b} {rest = rest} e) = front_by Closing b rest e
front-token (word {first = first} {text = text} {more = more} e run) =
    front_by Letter first text e ∙ ap (λ n. Found Word n) (ap (λ n. 1 + n) (run_len run) ∙ one-plus (length more))
front-token (number {spelling = spelling} {rest = rest} {value = value} n fit alone) =
    front-number n ∙ ap (λ b. cond b (cond (begins is_word_byte rest) (Bad (length spelling)) (Found (Number value) (length spelling))) Long) (fits_test value fit)
    ∙ ap (λ b. cond b (Bad (length spelling)) (Found (Number value) (length spelling))) alone
front-token (symbol {b = b} {rest = rest} e) = front_by Operator b rest e
front-token (minus {b = b} {rest = rest} e alone) = front_by Minus b rest e ∙ ap (λ v. cond v (reading.number true rest) (Found (Symbol b) 1)) alone

-- a number and a token are a part of the text that is not empty
pub number-splits : {text spelling rest : Text} {value : ℤ} → IsNumber text value spelling rest → (text ≡ spelling ++ rest) × (0 < length spelling)
number-splits (plain {first = first} digit run) = (ap (λ z. first ∷ z) run.split, omega arith)
number-splits (negative {sign = sign} {first = first} sign_is digit run) = (ap (λ z. sign ∷ first ∷ z) run.split, omega arith)

pub token-splits : {text spelling rest : Text} {kind : Kind} → IsToken text kind spelling rest → (text ≡ spelling ++ rest) × (0 < length spelling)
token-splits (opening e) = (refl, lit< tt)
token-splits (closing e) = (refl, lit< tt)
token-splits (word {first = first} e run) = (ap (λ z. first ∷ z) run.split, omega arith)
token-splits (number n fit alone) = number-splits n
token-splits (symbol e) = (refl, lit< tt)
token-splits (minus e alone) = (refl, lit< tt)
