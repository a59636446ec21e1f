-- Printed text is read again.
use Rattle.std.specs.Prelude.{◌≡◌, Ok}
use Rattle.ame_lex.specs.Bytes.{Text}
use Rattle.ame_parse.specs.Text.{Source, reading}
use Rattle.ame_print.specs.Tokens.{term_text}

-- the text is read as a program with the names and the term of this one
pub record ReadsAs (text : Text) (source : Source) : Type 0 where
  pub again : Source
  pub read : reading text ≡ Ok again
  pub names : again.names ≡ source.names
  pub tree : again.tree ≡ source.tree

-- the canonical text of a program
abbrev pub source_text : Source → Text
source_text source = term_text source.names source.tree
