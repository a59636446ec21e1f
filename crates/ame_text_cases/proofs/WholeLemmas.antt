-- Tokens that are lexed and read, and their text.
use Rattle.std.proofs.Common.{◌≡◌, refl, sym, ap, ◌∙◌, ℕ, true, List, [], ◌∷◌, map, append-nil}
use Rattle.ame_lex.specs.Bytes.{Text}
use Rattle.ame_parse.specs.declared.ahead.Ahead.TheVariants as a
use Rattle.ame_parse.specs.Fault.{lexeme_of}
use Rattle.ame_parse.specs.Grammar as g
use Rattle.ame_parse.specs.Input.{Seen, Input, ahead, ahead_in}
use Rattle.ame_parse.specs.Seen.{start_of}
use Rattle.ame_parse.specs.Text.{Source}
use Rattle.ame_print.specs.Layout.{Printed, layout}
use Rattle.ame_print.specs.Tokens.{term_tokens}
use Rattle.ame_print.proofs.Canon.{tokens_of}
use Rattle.ame_print.proofs.Lexing.{lexed_again}
use Rattle.ame_print.proofs.Whole.{SpellsAs}
use Rattle.ame_text_cases.proofs.Lexing.{LexedBehind}
use Rattle.ame_text_cases.proofs.PartLemmas.{IsPart, input_with}

no_more_in : (rest : List Seen) → tokens_of rest ≡ [] → ahead_in rest ≡ a.End
no_more_in [] none = refl
no_more_in (token ∷ rest) none = cc

no_more : (i : Input) → tokens_of i.rest ≡ [] → ahead i ≡ a.End
unfolding ahead
no_more i none = no_more_in i.rest none

-- a text whose tokens are read as a term spells it
pub spelled_so : (text : Text) (source : Source) (refs : ℕ) → LexedBehind [] text (term_tokens source.names source.tree)
    → IsPart (term_tokens source.names source.tree) 200 (input_with [] [] 0) source.tree (input_with source.names [] refs) → SpellsAs text source
spelled_so text source refs lexed part =
    let tokens = term_tokens source.names source.tree in
    let done = part.again (start_of text lexed.found) [] (record { names = refl; scope = refl; refs = refl }) (lexed.same ∙ sym (append-nil tokens)) in
    record {
      again = record { names = done.last.names; places = done.last.places; tree = source.tree };
      spells = g.program lexed.lexes done.ends (no_more done.last done.left);
      names = done.like.names;
      tree = refl;
    }

-- the canonical text of a term that is read from its tokens
pub canonical_lexed : (source : Source) (refs : ℕ) → IsPart (term_tokens source.names source.tree) 200 (input_with [] [] 0) source.tree (input_with source.names [] refs)
    → LexedBehind [] (layout true (term_tokens source.names source.tree)) (term_tokens source.names source.tree)
canonical_lexed source refs part =
    let laid = lexed_again (term_tokens source.names source.tree) part.alone in
    record { found = laid.found; lexes = laid.lexes; same = laid.same }

lexemes : (all : List Seen) → map lexeme_of all ≡ map (λ (token : Printed). (token.kind, token.bytes)) (tokens_of all)
lexemes [] = refl
lexemes (token ∷ rest) = ap (λ z. lexeme_of token ∷ z) (lexemes rest)

-- what is seen as the same tokens has the same lexemes
pub same_lexemes : (ones others : List Seen) (tokens : List Printed) → tokens_of ones ≡ tokens → tokens_of others ≡ tokens → map lexeme_of ones ≡ map lexeme_of others
same_lexemes ones others tokens e e' = lexemes ones ∙ ap (map (λ (token : Printed). (token.kind, token.bytes))) (e ∙ sym e') ∙ sym (lexemes others)
