-- The places of the tokens of a text.
use Rattle.std.specs.Prelude.{ℕ, ◌<◌, ◌≤◌, List, [], ◌∷◌, length, drop, slice_range}
use Rattle.ame_lex.specs.declared.tokens.Token.{Token}
use Rattle.ame_lex.specs.Bytes.{Text}
use Rattle.ame_lex.specs.Grammar.{IsToken}

-- the bytes of a token
abbrev pub spelled : Text → Token → Text
spelled text token = slice_range text token.start token.end

-- the token is at least one byte of the text
pub record IsWithin (text : Text) (token : Token) : Type 0 where
  pub some : token.start < token.end
  pub inside : token.end ≤ length text

-- the bytes of the token are a token of its kind by the grammar, before what follows them in the text
abbrev pub IsSpelled : Text → Token → Type 0
IsSpelled text token = IsToken (drop token.start text) token.kind (spelled text token) (drop token.end text)

-- the tokens stand one after another between two places
abbrev pub InOrder : ℕ → List Token → ℕ → Type 0
InOrder from [] to = from ≤ to
InOrder from (token ∷ tokens) to = (from ≤ token.start) × (token.start < token.end) × InOrder token.end tokens to
