-- The outcome of a text, computed: its tokens, or its first fault.
use Rattle.std.specs.Prelude.{◌≡◌, ℕ, zero, suc, ◌+◌, ◌-◌, ◌^◌, ◌<◌, ◌≤◌, Bool, true, false, if◌then◌else◌, nat_lt, ℤ, pos, negsuc, neg_ℤ, List, [], ◌∷◌, take, drop, Result, Ok, Err, ⊤}
use Rattle.std.specs.List.{prefix_len}
use Rattle.ame_lex.specs.declared.classes.Class.{Class}
use Rattle.ame_lex.specs.declared.classes.Class.TheVariants.{Blank, Semicolon, Opening, Closing, Letter, Digit, Underscore, Minus, Operator, Other}
use Rattle.ame_lex.specs.declared.pieces.Piece.{Piece}
use Rattle.ame_lex.specs.declared.pieces.Piece.TheVariants.{Space, Found, Bad, Long}
use Rattle.ame_lex.specs.declared.tokens.Kind.{Kind}
use Rattle.ame_lex.specs.declared.tokens.Kind.TheVariants.{Open, Close, Word, Number, Symbol}
use Rattle.ame_lex.specs.declared.tokens.Token.{Token}
use Rattle.ame_lex.specs.declared.tokens.LexFault.{LexFault}
use Rattle.ame_lex.specs.declared.tokens.LexFault.TheVariants.{BadByte, LongNumber, NoMemory}
use Rattle.ame_lex.specs.Bytes.{Text, class_of, is_word_byte, is_digit, is_comment_byte, begins, decimal}

-- whether a number fits 64 bits
abbrev pub fits_literal : ℤ → Bool
fits_literal (pos n) = nat_lt n (2 ^ 63)
fits_literal (negsuc n) = nat_lt n (2 ^ 63)

-- the value of digits after their sign
abbrev pub value_of : Bool → Text → ℤ
value_of true digits = neg_ℤ (pos (decimal digits))
value_of false digits = pos (decimal digits)

-- a number of this value and this many bytes, before `rest`
abbrev pub checked : ℤ → ℕ → Text → Piece
checked value len rest = if fits_literal value then (if begins is_word_byte rest then Bad len else Found (Number value) len) else Long

-- the number whose digits the text begins with, after its sign
unfoldable pub number : Bool → Text → Piece
number is_negative text =
    let count = prefix_len is_digit text in
    checked (value_of is_negative (take count text)) ((if is_negative then 1 else 0) + count) (drop count text)

-- the first piece of a text, by the class of its first byte
abbrev pub piece_by : Class → ℕ → Text → Piece
piece_by Blank b rest = Space 1
piece_by Semicolon b rest = Space (1 + prefix_len is_comment_byte rest)
piece_by Opening b rest = Found Open 1
piece_by Closing b rest = Found Close 1
piece_by Letter b rest = Found Word (1 + prefix_len is_word_byte rest)
piece_by Digit b rest = number false (b ∷ rest)
piece_by Minus b rest = if begins is_digit rest then number true rest else Found (Symbol b) 1
piece_by Operator b rest = Found (Symbol b) 1
piece_by Underscore b rest = Bad 0
piece_by Other b rest = Bad 0

-- the first piece of a text: blanks or a comment, a token, or a fault
unfoldable pub first_piece : ℕ → Text → Piece
first_piece b rest = piece_by (class_of b) b rest

-- the tokens, or the first fault
abbrev pub LexOutcome : Type 0
LexOutcome = Result (List Token) LexFault

-- the outcome with this token before it
abbrev pub with_first : Token → LexOutcome → LexOutcome
with_first token (Ok tokens) = Ok (token ∷ tokens)
with_first token (Err fault) = Err fault

-- the token of this kind and this many bytes at a place
abbrev pub token_at : ℕ → Kind → ℕ → Token
token_at at kind len = record { start = at; end = at + len; kind = kind }

-- the outcome at a piece, if `next` is the outcome after that many more bytes
abbrev pub after_piece : Piece → ℕ → (ℕ → LexOutcome) → LexOutcome
after_piece (Space len) at next = next (len - 1)
after_piece (Found kind len) at next = with_first (token_at at kind len) (next (len - 1))
after_piece (Bad offset) at next = Err (BadByte (at + offset))
after_piece Long at next = Err (LongNumber at)

-- the outcome from a place on, after `skipped` bytes
unfoldable pub tokens_from : ℕ → ℕ → Text → LexOutcome
tokens_from at skipped [] = Ok []
tokens_from at (suc skipped) (b ∷ rest) = tokens_from (at + 1) skipped rest
tokens_from at zero (b ∷ rest) = after_piece (first_piece b rest) at (λ more. tokens_from (at + 1) more rest)

-- the tokens of a text, or its first fault
unfoldable pub tokens_of : Text → LexOutcome
tokens_of text = tokens_from 0 0 text

-- what was answered is this outcome, unless memory ran out
abbrev pub AnswersTokens : {A : Type 0} → (A → List Token) → Result A LexFault → LexOutcome → Type 0
AnswersTokens items (Ok tokens) outcome = outcome ≡ Ok (items tokens)
AnswersTokens items (Err NoMemory) outcome = ⊤
AnswersTokens items (Err fault) outcome = outcome ≡ Err fault

-- the first piece of a text of this length
abbrev pub FitsIn : ℕ → Piece → Type 0
FitsIn size (Space len) = (0 < len) × (len ≤ size)
FitsIn size (Found kind len) = (0 < len) × (len ≤ size)
FitsIn size (Bad offset) = offset < size
FitsIn size Long = ⊤
