-- The place of a fault, and the tokens that two texts share up to there.
use Rattle.std.specs.Prelude.{◌≡◌, ℕ, List, [], ◌∷◌, map, Option, Some, None, Ok}
use Rattle.ame_lex.specs.Bytes.{Text}
use Rattle.ame_lex.specs.Reading.{tokens_of}
use Rattle.ame_lex.specs.declared.tokens.Kind.{Kind}
use Rattle.ame_lex.specs.declared.tokens.Token.{Token}
use Rattle.ame_parse.specs.declared.fault.ParseFault.{ParseFault}
use Rattle.ame_parse.specs.declared.fault.ParseFault.TheVariants.{Expected, UnknownName, TooNested, Trailing, NoMemory}
use Rattle.ame_parse.specs.Input.{Seen}
use Rattle.ame_parse.specs.Seen.{seen}

-- the place of a fault
abbrev pub place_of : ParseFault → ℕ
place_of (Expected place wanted) = place
place_of (UnknownName place) = place
place_of (TooNested place) = place
place_of (Trailing place) = place
place_of NoMemory = 0

-- the same fault at another place
abbrev pub at_place : ℕ → ParseFault → ParseFault
at_place place (Expected other wanted) = Expected place wanted
at_place place (UnknownName other) = UnknownName place
at_place place (TooNested other) = TooNested place
at_place place (Trailing other) = Trailing place
at_place place NoMemory = NoMemory

-- a token wherever it stands: its kind and its bytes
abbrev pub Lexeme : Type 0
Lexeme = Kind × Text

abbrev pub lexeme_of : Seen → Lexeme
lexeme_of token = (token.kind, token.spelling)

-- the lexeme that comes next; none at the end
abbrev pub first_lexeme : List Seen → Option Lexeme
first_lexeme [] = None
first_lexeme (token ∷ rest) = Some (lexeme_of token)

-- the text has these tokens, as the reading sees them
pub record HasSeenTokens (text : Text) (all : List Seen) : Type 0 where
  pub tokens : List Token
  pub lexed : tokens_of text ≡ Ok tokens
  pub seen_so : map (seen text) tokens ≡ all
