-- The canonical text of a program spells the same names and the same term.
use Rattle.std.proofs.Common.{◌≡◌, true, List, [], ◌∷◌, append-nil, refl, sym, ◌∙◌}
use Rattle.ame_lex.specs.Bytes.{Text}
use Rattle.ame_parse.specs.declared.ahead.Ahead.TheVariants as a
use Rattle.ame_parse.specs.Grammar as g
use Rattle.ame_parse.specs.Grammar.{Spells}
use Rattle.ame_parse.specs.Input.{Seen, Input, ahead, ahead_in}
use Rattle.ame_parse.specs.Seen.{start_of}
use Rattle.ame_parse.specs.Text.{Source}
use Rattle.ame_print.specs.Again.{source_text}
use Rattle.ame_print.specs.Layout.{layout}
use Rattle.ame_print.specs.Tokens.{term_tokens}
use Rattle.ame_print.proofs.Canon.{tokens_of}
use Rattle.ame_print.proofs.Good.{good}
use Rattle.ame_print.proofs.Lexing.{lexed_again}
use Rattle.ame_print.proofs.TermsAgain.{term_again}

-- the text spells a program with these names and this tree
pub record SpellsAs (text : Text) (source : Source) : Type 0 where
  pub again : Source
  pub spells : Spells text again
  pub names : again.names ≡ source.names
  pub tree : again.tree ≡ source.tree

no_more_in : (rest : List Seen) → tokens_of rest ≡ [] → ahead_in rest ≡ a.End
no_more_in [] none = refl
no_more_in (token ∷ rest) none = cc

no_more : (i : Input) → tokens_of i.rest ≡ [] → ahead i ≡ a.End
unfolding ahead
no_more i none = no_more_in i.rest none

pub spelled_again : (text : Text) (source : Source) → Spells text source → SpellsAs (source_text source) source
spelled_again text source (g.program {tokens = tokens} {tree = tree} {last = last} lexes term at_end) =
    let all = last.names in
    let read = term_again term all (record { more = []; split = sym (append-nil all) }) (good text tokens lexes) in
    let laid = lexed_again (term_tokens all tree) read.alone in
    let start = start_of (layout true (term_tokens all tree)) laid.found in
    let done = read.again start [] (record { names = refl; scope = refl; refs = refl }) (laid.same ∙ sym (append-nil (term_tokens all tree))) in
    record {
      again = record { names = done.last.names; places = done.last.places; tree = tree };
      spells = g.program laid.lexes done.ends (no_more done.last done.left);
      names = done.like.names;
      tree = refl;
    }
