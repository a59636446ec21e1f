-- The parentheses that are open before a place.
use Rattle.std.specs.Prelude.{ℕ, ◌-◌, ◌++◌, nat_lt, if◌then◌else◌, List, [], ◌∷◌, length, take, Ok, Err}
use Rattle.std.specs.List.{fold}
use Rattle.ame_lex.specs.declared.tokens.Kind.{Kind}
use Rattle.ame_lex.specs.declared.tokens.Token.{Token}
use Rattle.ame_lex.specs.Reading.{LexOutcome}

-- the parentheses that are open after a token, the innermost last
abbrev pub open_after : List ℕ → ℕ → Kind → List ℕ
open_after before start Kind.Open = before ++ start ∷ []
open_after before start Kind.Close = take (length before - 1) before
open_after before start _ = before

-- the places of those that are open before a place, the innermost last
abbrev pub open_before : ℕ → List Token → List ℕ
open_before place tokens = fold (λ before token. if nat_lt token.start place then open_after before token.start token.kind else before) [] tokens

-- the tokens of a text; none if it has an error
abbrev pub tokens_or_none : LexOutcome → List Token
tokens_or_none (Ok tokens) = tokens
tokens_or_none (Err fault) = []
