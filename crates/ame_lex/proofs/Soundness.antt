-- The computed outcome of a text is its outcome by the grammar.
use Rattle.std.proofs.Common.{◌≡◌, ℕ, zero, suc, ◌+◌, ◌-◌, Bool, true, false, cond, ℤ, pos, neg_ℤ, [], ◌∷◌, length, take, drop, refl, sym, subst, add-zero, Ok, Err, arith}
use Rattle.std.specs.List.{prefix_len}
use Rattle.ame_lex.specs.declared.classes.Class.{Class}
use Rattle.ame_lex.specs.declared.classes.Class.TheVariants.{Blank, Semicolon, Opening, Closing, Letter, Digit, Underscore, Minus, Operator, Other}
use Rattle.ame_lex.specs.declared.pieces.Piece.TheVariants.{Space, Found, Bad, Long}
use Rattle.ame_lex.specs.declared.tokens.Kind.{Kind}
use Rattle.ame_lex.specs.declared.tokens.Kind.TheVariants.{Word, Number, Symbol}
use Rattle.ame_lex.specs.declared.tokens.LexFault.TheVariants.{BadByte}
use Rattle.ame_lex.specs.Bytes.{Text, class_of, is_word_byte, is_digit, is_comment_byte, begins, decimal}
use Rattle.ame_lex.specs.Grammar.{IsNumber, plain, negative, IsToken, opening, closing, word, number, symbol, minus, BeginsNothing, underscore, other, bad_byte, long_number, letter_after_number, Lexes, finished, blank, comment, token, later, faulty}
use Rattle.ame_lex.specs.Reading as reading
use Rattle.ame_lex.specs.Reading.{LexOutcome, fits_literal, value_of, checked, piece_by, first_piece, after_piece, with_first, token_at, tokens_from, tokens_of}
use Rattle.ame_lex.proofs.RunLemmas.{run_of, run_at_len, digit_is}
use Rattle.ame_lex.proofs.FitLemmas.{fits_so, too_long}
use Rattle.ame_lex.proofs.PieceLemmas.{number-digits}

-- a token, and then whatever the rest is
pub lexes-token : {at : ℕ} {text spelling rest : Text} {kind : Kind} (len : ℕ) (outcome : LexOutcome) → IsToken text kind spelling rest → length spelling ≡ len
    → Lexes (at + len) rest outcome → Lexes at text (with_first (token_at at kind len) outcome)
lexes-token {at} {text} {spelling} {rest} {kind} len (Ok tokens) t e more =
    subst (λ n. Lexes at text (Ok (token_at at kind n ∷ tokens))) e (token t (subst (λ n. Lexes (at + n) rest (Ok tokens)) (sym e) more))
lexes-token {at} {text} {spelling} {rest} {kind} len (Err fault) t e more =
    later t (subst (λ n. Lexes (at + n) rest (Err fault)) (sym e) more)

module _ (at b : ℕ) (text : Text) (next : ℕ → LexOutcome) (lexes : (more : ℕ) → Lexes (at + 1 + more) (drop more text) (next more)) where
  -- the piece takes these many bytes more
  lexes-after : (more len : ℕ) → len ≡ suc more → Lexes (at + len) (drop more text) (next (len - 1))
  lexes-after more len e =
      let place : at + 1 + more ≡ at + len = omega arith in
      let left : len - 1 ≡ more = omega arith in
      subst (λ k. Lexes k (drop more text) (next (len - 1))) place (subst (λ n. Lexes (at + 1 + more) (drop more text) (next n)) (sym left) (lexes more))

  lexes-number : (spelling rest : Text) (value : ℤ) (more len : ℕ) (fit : Bool) (letter : Bool) → IsNumber (b ∷ text) value spelling rest → length spelling ≡ len → len ≡ suc more → rest ≡ drop more text
      → fits_literal value ≡ fit → begins is_word_byte rest ≡ letter
      → Lexes at (b ∷ text) (after_piece (cond fit (cond letter (Bad len) (Found (Number value) len)) Long) at next)
  lexes-number spelling rest value more len false letter n spelled e after fit glued = faulty (long_number n (too_long value fit))
  lexes-number spelling rest value more len true true n spelled e after fit glued =
      subst (λ k. Lexes at (b ∷ text) (Err (BadByte (at + k)))) spelled (faulty (letter_after_number n (fits_so value fit) glued))
  lexes-number spelling rest value more len true false n spelled e after fit glued =
      lexes-token len (next (len - 1)) (number n (fits_so value fit) glued) spelled (subst (λ z. Lexes (at + len) z (next (len - 1))) (sym after) (lexes-after more len e))

  lexes-word : class_of b ≡ Letter → Lexes at (b ∷ text) (after_piece (Found Word (1 + prefix_len is_word_byte text)) at next)
  lexes-word e =
      let len : length (b ∷ take (prefix_len is_word_byte text) text) ≡ 1 + prefix_len is_word_byte text = omega (arith, run_at_len is_word_byte text) in
      lexes-token (1 + prefix_len is_word_byte text) _ (word e (run_of is_word_byte text)) len (lexes-after (prefix_len is_word_byte text) _ (omega arith))

  lexes-comment : class_of b ≡ Semicolon → Lexes at (b ∷ text) (after_piece (Space (1 + prefix_len is_comment_byte text)) at next)
  lexes-comment e =
      let place : at + (1 + prefix_len is_comment_byte text) ≡ at + 1 + length (take (prefix_len is_comment_byte text) text) = omega (arith, run_at_len is_comment_byte text) in
      comment e (run_of is_comment_byte text)
      (subst (λ k. Lexes k (drop (prefix_len is_comment_byte text) text) (next ((1 + prefix_len is_comment_byte text) - 1))) place
      (lexes-after (prefix_len is_comment_byte text) (1 + prefix_len is_comment_byte text) (omega arith)))

  lexes-digits : class_of b ≡ Digit → Lexes at (b ∷ text) (after_piece (reading.number false (b ∷ text)) at next)
  lexes-digits e =
      let count = prefix_len is_digit text in
      let run = run_of is_digit text in
      let len : length (b ∷ take count text) ≡ 0 + suc (length (take count text)) = omega arith in
      let more : 0 + suc (length (take count text)) ≡ suc count = omega (arith, run_at_len is_digit text) in
      subst (λ p. Lexes at (b ∷ text) (after_piece p at next)) (sym (number-digits false b text _ _ e run))
      (lexes-number (b ∷ take count text) (drop count text) (pos (decimal (b ∷ take count text))) count _ _ _ (plain e run) len more refl refl refl)

lexes-minus : (at b : ℕ) (text : Text) (next : ℕ → LexOutcome) (lexes : (more : ℕ) → Lexes (at + 1 + more) (drop more text) (next more)) (signed : Bool) → class_of b ≡ Minus → begins is_digit text ≡ signed
    → Lexes at (b ∷ text) (after_piece (cond signed (reading.number true text) (Found (Symbol b) 1)) at next)
lexes-minus at b text next lexes false e alone = lexes-token 1 (next 0) (minus e alone) refl (lexes-after at b text next lexes 0 1 refl)
lexes-minus at b [] next lexes true e signed = (cc)
lexes-minus at b (d ∷ text) next lexes true e signed =
    let count = prefix_len is_digit text in
    let run = run_of is_digit text in
    let digit = digit_is d signed in
    let len : length (b ∷ d ∷ take count text) ≡ 1 + suc (length (take count text)) = omega arith in
    let more : 1 + suc (length (take count text)) ≡ suc (suc count) = omega (arith, run_at_len is_digit text) in
    subst (λ p. Lexes at (b ∷ d ∷ text) (after_piece p at next)) (sym (number-digits true d text _ _ digit run))
    (lexes-number at b (d ∷ text) next lexes (b ∷ d ∷ take count text) (drop count text) (neg_ℤ (pos (decimal (d ∷ take count text)))) (suc count) _ _ _ (negative e digit run) len more refl refl refl)

lexes-nothing : (at b : ℕ) (text : Text) → BeginsNothing (class_of b) → Lexes at (b ∷ text) (Err (BadByte (at + 0)))
lexes-nothing at b text nothing = rw add-zero (faulty (bad_byte nothing))

-- one piece, by the class of its first byte
lexes-piece : (at b : ℕ) (text : Text) (next : ℕ → LexOutcome) (lexes : (more : ℕ) → Lexes (at + 1 + more) (drop more text) (next more)) (class : Class) → class_of b ≡ class
    → Lexes at (b ∷ text) (after_piece (piece_by class b text) at next)
lexes-piece at b text next lexes Blank e = blank e (lexes-after at b text next lexes 0 1 refl)
lexes-piece at b text next lexes Semicolon e = lexes-comment at b text next lexes e
lexes-piece at b text next lexes Opening e = lexes-token 1 (next 0) (opening e) refl (lexes-after at b text next lexes 0 1 refl)
lexes-piece at b text next lexes Closing e = lexes-token 1 (next 0) (closing e) refl (lexes-after at b text next lexes 0 1 refl)
lexes-piece at b text next lexes Letter e = lexes-word at b text next lexes e
lexes-piece at b text next lexes Digit e = lexes-digits at b text next lexes e
lexes-piece at b text next lexes Underscore e = lexes-nothing at b text (subst BeginsNothing (sym e) underscore)
lexes-piece at b text next lexes Minus e = lexes-minus at b text next lexes (begins is_digit text) e refl
lexes-piece at b text next lexes Operator e = lexes-token 1 (next 0) (symbol e) refl (lexes-after at b text next lexes 0 1 refl)
lexes-piece at b text next lexes Other e = lexes-nothing at b text (subst BeginsNothing (sym e) other)

lexes_from : (text : Text) (at n : ℕ) → Lexes (at + n) (drop n text) (tokens_from at n text)
unfolding tokens_from first_piece
lexes_from [] at zero = finished
lexes_from [] at (suc n) = finished
lexes_from (b ∷ text) at (suc n) = let place : at + 1 + n ≡ at + suc n = omega arith in subst (λ k. Lexes k (drop n text) (tokens_from (at + 1) n text)) place (lexes_from text (at + 1) n)
lexes_from (b ∷ text) at zero =
    subst (λ k. Lexes k (b ∷ text) (tokens_from at zero (b ∷ text))) (sym (add-zero at))
    (lexes-piece at b text (λ more. tokens_from (at + 1) more text) (λ more. lexes_from text (at + 1) more) (class_of b) refl)

pub lexes_text : (text : Text) → Lexes 0 text (tokens_of text)
unfolding tokens_of
lexes_text text = lexes_from text 0 0
