-- The places of the tokens of a text.
use Rattle.std.proofs.Common.{◌≡◌, ℕ, ◌+◌, ◌≤◌, List, [], ◌∷◌, length, length-append, ap, subst, Ok, arith}
use Rattle.std.specs.Prelude.{All}
use Rattle.std.specs.List.{AllByRecursion}
use Rattle.std.proofs.lemmas.List.Elements.{All-from_recursion}
use Rattle.ame_lex.specs.declared.tokens.Token.{Token}
use Rattle.ame_lex.specs.Bytes.{Text}
use Rattle.ame_lex.specs.Tokens.{IsWithin, InOrder}
use Rattle.ame_lex.specs.Grammar.{Lexes, finished, blank, comment, token}
use Rattle.ame_lex.specs.Reading.{tokens_of}
use Rattle.ame_lex.proofs.PieceLemmas.{token-splits}
use Rattle.ame_lex.proofs.Soundness.{lexes_text}

-- tokens that stand between two places stand between any two round these
InOrder-wider : (early from to late : ℕ) (tokens : List Token) → early ≤ from → to ≡ late → InOrder from tokens to → InOrder early tokens late
InOrder-wider early from to late [] h e ordered = omega arith
InOrder-wider early from to late (t ∷ tokens) h e ordered = (omega (arith, ordered.0), ordered.1, subst (InOrder t.end tokens) e ordered.2)

in_order : {at : ℕ} {text : Text} {tokens : List Token} → Lexes at text (Ok tokens) → InOrder at tokens (at + length text)
in_order (finished {at = at}) = omega arith
in_order (blank {at = at} {rest = rest} {outcome = Ok tokens} e more) = InOrder-wider at (at + 1) _ _ tokens (omega arith) (omega arith) (in_order more)
in_order (comment {at = at} {body = body} {rest = rest} {outcome = Ok tokens} e run more) =
    InOrder-wider at _ _ _ tokens (omega arith) (omega (arith, ap length run.split, length-append body rest)) (in_order more)
in_order (token {at = at} {spelling = spelling} {rest = rest} {tokens = tokens} t more) =
    let splits = token-splits t in
    (omega arith, omega (arith, splits.1), InOrder-wider _ _ _ _ tokens (omega arith) (omega (arith, ap length splits.0, length-append spelling rest)) (in_order more))

pub ordered_tokens : (text : Text) (tokens : List Token) → tokens_of text ≡ Ok tokens → InOrder 0 tokens (length text)
ordered_tokens text tokens e =
    InOrder-wider 0 0 _ _ tokens (omega arith) (omega arith) (in_order (subst (Lexes 0 text) e (lexes_text text)))

-- tokens in order stand before the last place
ends : (from to : ℕ) (tokens : List Token) → InOrder from tokens to → from ≤ to
ends from to [] ordered = ordered
ends from to (t ∷ tokens) ordered = omega (arith, ordered.0, ordered.1, ends t.end to tokens ordered.2)

within : (text : Text) (from : ℕ) (tokens : List Token) → InOrder from tokens (length text) → AllByRecursion (IsWithin text) tokens
within text from [] ordered = tt
within text from (t ∷ tokens) ordered = (record { some = ordered.1; inside = ends t.end (length text) tokens ordered.2 }, within text t.end tokens ordered.2)

pub tokens_within : (text : Text) (tokens : List Token) → tokens_of text ≡ Ok tokens → All (IsWithin text) tokens
tokens_within text tokens e = All-from_recursion (IsWithin text) tokens (within text 0 tokens (ordered_tokens text tokens e))
