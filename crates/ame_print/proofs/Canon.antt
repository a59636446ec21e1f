-- The terms of the proofs that printed text is read again.
use Rattle.std.proofs.Common.{◌≡◌, ℕ, false, List, ◌++◌, map}
use Rattle.std.specs.Prelude.{⊤}
use Rattle.ame_lex.specs.Bytes.{Text, begins, is_word_byte}
use Rattle.ame_lex.specs.Grammar.{IsToken}
use Rattle.ame_lex.specs.declared.tokens.Kind.TheVariants as kind
use Rattle.ame_term.specs.Tree.{Tree}
use Rattle.ame_parse.specs.Input.{Seen, Input}
use Rattle.ame_parse.specs.Grammar.{IsTerm}
use Rattle.ame_print.specs.Layout.{Printed, is_open_kind, word, number_token}
use Rattle.ame_print.specs.Tokens.{term_tokens}
use Rattle.std.specs.List.{AllByRecursion}

-- a token that was read, without its place
abbrev pub token_of : Seen → Printed
token_of seen = record { kind = seen.kind; bytes = seen.spelling }

abbrev pub tokens_of : List Seen → List Printed
tokens_of seen = map token_of seen

-- the bytes are this token by the grammar, before whatever can't belong to it
abbrev pub IsAlone : Printed → Type 0
IsAlone token = (rest : Text) → (is_open_kind token.kind ≡ false → begins is_word_byte rest ≡ false) → IsToken (token.bytes ++ rest) token.kind token.bytes rest

-- the same of a token that was read, or of its canonical spelling
abbrev pub IsGood : Seen → Type 0
IsGood seen = elim seen.kind [
  | kind.Open ↦ ⊤
  | kind.Close ↦ ⊤
  | kind.Word ↦ IsAlone (word seen.spelling)
  | kind.Number value ↦ IsAlone (number_token value)
  | kind.Symbol byte ↦ ⊤
]

-- these names first, and perhaps more
pub record IsFirstOf (names all : List Text) : Type 0 where
  pub more : List Text
  pub split : all ≡ names ++ more

-- two inputs with the same names, the same bound ones among them, and as many `ref` forms before them
pub record IsLike (i i' : Input) : Type 0 where
  pub names : i'.names ≡ i.names
  pub scope : i'.scope ≡ i.scope
  pub refs : i'.refs ≡ i.refs

-- an input that goes on with these tokens, and is like another one
pub record Reaches (P : Input → Type 0) (j : Input) (more : List Printed) : Type 0 where
  pub last : Input
  pub ends : P last
  pub like : IsLike j last
  pub left : tokens_of last.rest ≡ more

-- The canonical tokens of a tree that was read from one input up to another: each stands alone, and an input like the first one that begins with
-- them is read as the same tree.
pub record IsRead (all : List Text) (n : ℕ) (i : Input) (tree : Tree) (j : Input) : Type 0 where
  pub alone : AllByRecursion IsAlone (term_tokens all tree)
  pub again : (i' : Input) (more : List Printed) → IsLike i i' → tokens_of i'.rest ≡ term_tokens all tree ++ more
      → Reaches (λ j'. IsTerm n i' tree j') j more
