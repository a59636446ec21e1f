-- Tokens that are left.
use Rattle.std.proofs.Common.{◌≡◌, ℕ, false, Option, Some, None, refl, ◌+◌, ◌<◌, ◌≤◌, List, [], ◌∷◌, length, arith}
use Rattle.ame_lex.specs.declared.tokens.Token.{Token}
use Rattle.ame_lex.specs.Tokens.{InOrder}
use Rattle.ame_lex.specs.Bytes.{Text}
use Rattle.ame_lex.specs.declared.tokens.Kind.TheVariants as kind
use Rattle.ame_parse.specs.declared.words.Word.{Word}
use Rattle.ame_parse.specs.declared.ahead.Ahead.TheVariants as a
use Rattle.ame_parse.specs.Words.{word_of}
use Rattle.ame_parse.specs.Input.{Seen, Input, ahead_in, ahead_of, ahead_of_word, ahead, is_closing, spelling_in, spelling, tokens_left}
use Rattle.ame_parse.specs.Letters.{sort_of}
use Rattle.ame_term.specs.declared.types.Sort.{Sort}

name_is_left_in : (rest : List Seen) → ahead_in rest ≡ a.Name → 0 < length rest
name_is_left_in [] e = absurd (cc)
name_is_left_in (token ∷ rest) e = omega arith

pub name_is_left : (i : Input) → ahead i ≡ a.Name → 0 < tokens_left i
unfolding ahead tokens_left
name_is_left i e = name_is_left_in i.rest e

sort_is_left_in : (rest : List Seen) (s : Sort) → sort_of (spelling_in rest) ≡ Some s → 0 < length rest
unfolding sort_of
sort_is_left_in [] s e = absurd (cc)
sort_is_left_in (token ∷ rest) s e = omega arith

pub sort_is_left : (i : Input) (s : Sort) → sort_of (spelling i) ≡ Some s → 0 < tokens_left i
unfolding spelling tokens_left
sort_is_left i s e = sort_is_left_in i.rest s e

-- a text has no more tokens than bytes
pub tokens_are_few : (tokens : List Token) (from to : ℕ) → InOrder from tokens to → from + length tokens ≤ to
tokens_are_few [] from to e = omega (arith, e)
tokens_are_few (token ∷ tokens) from to e = omega (arith, e.0, e.1, tokens_are_few tokens token.end to e.2)

word_is_open : (word : Option Word) → is_closing (ahead_of_word word) ≡ false
word_is_open (Some word) = refl
word_is_open None = refl

-- no word closes a form, whichever it is
pub closes : (spelling : Text) → is_closing (ahead_of kind.Word spelling) ≡ false
closes spelling = word_is_open (word_of spelling)
