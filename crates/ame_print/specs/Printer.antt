-- The text printed so far, and the text that more tokens make of it.
use Rattle.std.specs.Prelude.{ℕ, Bool, true, List, [], ◌∷◌, ◌++◌, map}
use Rattle.std.specs.Global.{Vec}
use Rattle.ame_lex.specs.Bytes.{Text}
use Rattle.ame_print.specs.Layout.{Printed, gap, is_open_kind}

-- the text so far, and whether it is empty or ends with an opening parenthesis
pub record Page : Type 0 where
  pub text : Text
  pub is_first : Bool

-- one token more
abbrev pub with_token : Page → Printed → Page
with_token page token = record { text = page.text ++ gap page.is_first token.kind ++ token.bytes; is_first = is_open_kind token.kind }

-- these tokens more
abbrev pub with_tokens : Page → List Printed → Page
with_tokens page [] = page
with_tokens page (token ∷ rest) = with_tokens (with_token page token) rest

-- an empty text
abbrev pub blank : Page
blank = record { text = []; is_first = true }

-- the spellings of names, by their numbers
abbrev pub spelling_of : List (Vec ℕ) → List Text
spelling_of names = map (λ name. name.items) names
