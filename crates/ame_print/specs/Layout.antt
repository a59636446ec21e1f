-- Canonical tokens, and their layout.
use Rattle.std.specs.Prelude.{ℕ, ℤ, Bool, true, false, ◌||◌, if◌then◌else◌, List, [], ◌∷◌, ◌++◌}
use Rattle.std.specs.Fmt.{signed_decimal}
use Rattle.ame_lex.specs.Bytes.{Text}
use Rattle.ame_lex.specs.declared.tokens.Kind.{Kind}
use Rattle.ame_lex.specs.declared.tokens.Kind.TheVariants as kind

-- a token: what it is, and its bytes
pub record Printed : Type 0 where
  pub kind : Kind
  pub bytes : Text

-- what a form begins with
abbrev pub open_token : Printed
open_token = record { kind = kind.Open; bytes = 40 ∷ [] }

-- what a form ends with
abbrev pub close_token : Printed
close_token = record { kind = kind.Close; bytes = 41 ∷ [] }

-- a word by its bytes
abbrev pub word : Text → Printed
word bytes = record { kind = kind.Word; bytes = bytes }

-- a number in decimal, without leading zeros or a plus
abbrev pub number_token : ℤ → Printed
number_token value = record { kind = kind.Number value; bytes = signed_decimal value }

-- a symbol by its byte
abbrev pub symbol : ℕ → Printed
symbol byte = record { kind = kind.Symbol byte; bytes = byte ∷ [] }

-- whether a token begins a form
abbrev pub is_open_kind : Kind → Bool
is_open_kind kind.Open = true
is_open_kind _ = false

-- whether a token ends a form
abbrev pub is_close_kind : Kind → Bool
is_close_kind kind.Close = true
is_close_kind _ = false

-- one space, but none before a closing parenthesis, and none where nothing or an opening one stands before
abbrev pub gap : Bool → Kind → Text
gap is_first next = if is_first || is_close_kind next then [] else 32 ∷ []

-- the bytes of tokens, by whether they follow nothing or an opening parenthesis, or anything else
abbrev pub layout : Bool → List Printed → Text
layout is_first [] = []
layout is_first (token ∷ rest) = gap is_first token.kind ++ token.bytes ++ layout (is_open_kind token.kind) rest
