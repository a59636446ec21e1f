-- The grammar of tokens: which token a text begins with, and what a whole text is.
use Rattle.std.specs.Prelude.{◌≡◌, ℕ, ◌+◌, true, false, ℤ, pos, neg_ℤ, FitsSigned, List, [], ◌∷◌, length, Result, Ok, Err}
use Rattle.std.specs.Int.{w64}
use Rattle.ame_lex.specs.declared.classes.Class.{Class}
use Rattle.ame_lex.specs.declared.classes.Class.TheVariants.{Blank, Semicolon, Opening, Closing, Letter, Digit, Underscore, Minus, Operator, Other}
use Rattle.ame_lex.specs.declared.tokens.Kind.{Kind}
use Rattle.ame_lex.specs.declared.tokens.Kind.TheVariants.{Open, Close, Word, Number, Symbol}
use Rattle.ame_lex.specs.declared.tokens.Token.{Token}
use Rattle.ame_lex.specs.declared.tokens.LexFault.{LexFault}
use Rattle.ame_lex.specs.declared.tokens.LexFault.TheVariants.{BadByte, LongNumber}
use Rattle.ame_lex.specs.Bytes.{Text, class_of, is_word_byte, is_digit, is_comment_byte, begins, IsStretch, decimal}

-- The text begins with a number of this value and this spelling, however large, and `rest` follows.
pub data IsNumber : Text → ℤ → Text → Text → Type 0 where
  -- digits, as many as follow
  plain : {first : ℕ} {text more rest : Text} → class_of first ≡ Digit → IsStretch is_digit text more rest
      → IsNumber (first ∷ text) (pos (decimal (first ∷ more))) (first ∷ more) rest
  -- a minus and at once digits
  negative : {sign first : ℕ} {text more rest : Text} → class_of sign ≡ Minus → class_of first ≡ Digit → IsStretch is_digit text more rest
      → IsNumber (sign ∷ first ∷ text) (neg_ℤ (pos (decimal (first ∷ more)))) (sign ∷ first ∷ more) rest

-- The text begins with a token of this kind and this spelling, and `rest` follows.
pub data IsToken : Text → Kind → Text → Text → Type 0 where
  opening : {b : ℕ} {rest : Text} → class_of b ≡ Opening → IsToken (b ∷ rest) Open (b ∷ []) rest
  closing : {b : ℕ} {rest : Text} → class_of b ≡ Closing → IsToken (b ∷ rest) Close (b ∷ []) rest
  -- a letter, then letters, digits and underscores, as many as follow
  word : {first : ℕ} {text more rest : Text} → class_of first ≡ Letter → IsStretch is_word_byte text more rest
      → IsToken (first ∷ text) Word (first ∷ more) rest
  -- a number that fits 64 bits, with no letter or underscore right after it
  number : {text spelling rest : Text} {value : ℤ} → IsNumber text value spelling rest → FitsSigned w64 value → begins is_word_byte rest ≡ false
      → IsToken text (Number value) spelling rest
  symbol : {b : ℕ} {rest : Text} → class_of b ≡ Operator → IsToken (b ∷ rest) (Symbol b) (b ∷ []) rest
  -- a minus that belongs to no number
  minus : {b : ℕ} {rest : Text} → class_of b ≡ Minus → begins is_digit rest ≡ false → IsToken (b ∷ rest) (Symbol b) (b ∷ []) rest

-- a byte that begins no token, blank or comment
pub data BeginsNothing : Class → Type 0 where
  underscore : BeginsNothing Underscore
  other : BeginsNothing Other

-- The text, whose first byte stands at this place, begins with this fault.
pub data IsFault : ℕ → Text → LexFault → Type 0 where
  bad_byte : {at b : ℕ} {rest : Text} → BeginsNothing (class_of b) → IsFault at (b ∷ rest) (BadByte at)
  -- a number that doesn't fit 64 bits, whatever follows it
  long_number : {at : ℕ} {text spelling rest : Text} {value : ℤ} → IsNumber text value spelling rest → ¬ (FitsSigned w64 value)
      → IsFault at text (LongNumber at)
  -- the letter or underscore right after a number
  letter_after_number : {at : ℕ} {text spelling rest : Text} {value : ℤ} → IsNumber text value spelling rest → FitsSigned w64 value → begins is_word_byte rest ≡ true
      → IsFault at text (BadByte (at + length spelling))

-- The text, whose first byte stands at this place, has these tokens, or this first fault.
pub data Lexes : ℕ → Text → Result (List Token) LexFault → Type 0 where
  finished : {at : ℕ} → Lexes at [] (Ok [])
  blank : {at b : ℕ} {rest : Text} {outcome : Result (List Token) LexFault} → class_of b ≡ Blank → Lexes (at + 1) rest outcome → Lexes at (b ∷ rest) outcome
  -- from a semicolon to the next line feed or the end, over any bytes
  comment : {at b : ℕ} {text body rest : Text} {outcome : Result (List Token) LexFault} → class_of b ≡ Semicolon → IsStretch is_comment_byte text body rest
      → Lexes (at + 1 + length body) rest outcome → Lexes at (b ∷ text) outcome
  token : {at : ℕ} {text spelling rest : Text} {kind : Kind} {tokens : List Token} → IsToken text kind spelling rest
      → Lexes (at + length spelling) rest (Ok tokens) → Lexes at text (Ok (record { start = at; end = at + length spelling; kind = kind } ∷ tokens))
  -- the first fault is after this token
  later : {at : ℕ} {text spelling rest : Text} {kind : Kind} {fault : LexFault} → IsToken text kind spelling rest
      → Lexes (at + length spelling) rest (Err fault) → Lexes at text (Err fault)
  faulty : {at : ℕ} {text : Text} {fault : LexFault} → IsFault at text fault → Lexes at text (Err fault)
