-- A term with its redex between marks.
use Rattle.std.specs.Prelude.{List, [], ◌∷◌, ◌++◌, length, codes}
use Rattle.ame_lex.specs.Bytes.{Text}
use Rattle.ame_term.specs.Tree.{Tree}
use Rattle.ame_term.specs.Context.{Focus, focus, fill}
use Rattle.ame_print.specs.Tokens.{term_text}

-- the text of a redex between marks
abbrev pub marked_redex : List Text → Tree → Text
marked_redex names redex = codes ">" ++ term_text names redex ++ codes "<"

-- a term as it is shown: in place of its redex stands a name that is spelled as the marked redex
abbrev pub marked_at : List Text → Tree → Focus → Text
marked_at names tree (Focus.AtValue v) = term_text names tree
marked_at names tree (Focus.AtRedex side redex) = term_text (names ++ marked_redex names redex ∷ []) (fill tree (Tree.Var (length names)))

unfoldable pub marked_text : List Text → Tree → Text
marked_text names tree = marked_at names tree (focus tree)
