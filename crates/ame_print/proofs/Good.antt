-- Each token that was lexed is good: alone it is a token of its kind.
use Rattle.std.proofs.Common.{ℕ, List, [], ◌∷◌, map, Ok}
use Rattle.std.specs.List.{AllByRecursion}
use Rattle.std.proofs.lemmas.List.Elements.{recursion_from_All}
use Rattle.ame_lex.specs.declared.tokens.Kind.{Kind}
use Rattle.ame_lex.specs.declared.tokens.Token.{Token}
use Rattle.ame_lex.specs.Bytes.{Text}
use Rattle.ame_lex.specs.Grammar as grammar
use Rattle.ame_lex.specs.Grammar.{IsToken, Lexes}
use Rattle.ame_lex.specs.Tokens.{IsSpelled}
use Rattle.ame_lex.proofs.Completeness.{read_text}
use Rattle.ame_lex.proofs.Spelling.{tokens_spell}
use Rattle.ame_parse.specs.Seen.{seen}
use Rattle.ame_print.proofs.Alone.{word_alone}
use Rattle.ame_print.proofs.Canon.{IsGood}
use Rattle.ame_print.proofs.Numbers.{number_alone}

-- a token of the grammar is good, wherever it stands
good_token : {text spelling rest : Text} {kind : Kind} (place : ℕ) → IsToken text kind spelling rest → IsGood (record { place = place; kind = kind; spelling = spelling })
good_token place (grammar.opening e) = tt
good_token place (grammar.closing e) = tt
good_token place (grammar.word {first = first} {more = more} letter run) = word_alone first more letter run.pass
good_token place (grammar.number {value = value} n fit alone) = number_alone value fit
good_token place (grammar.symbol e) = tt
good_token place (grammar.minus e alone) = tt

good_each : (text : Text) (tokens : List Token) → AllByRecursion (IsSpelled text) tokens → AllByRecursion IsGood (map (seen text) tokens)
good_each text [] all = tt
good_each text (token ∷ tokens) all = (good_token token.start all.0, good_each text tokens all.1)

-- each token of a text is good
pub good : (text : Text) (tokens : List Token) → Lexes 0 text (Ok tokens) → AllByRecursion IsGood (map (seen text) tokens)
good text tokens lexes = good_each text tokens (recursion_from_All (IsSpelled text) tokens (tokens_spell text tokens (read_text text (Ok tokens) lexes)))
