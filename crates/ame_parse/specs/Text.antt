-- The program of a text, or its first fault.
use Rattle.std.specs.Prelude.{◌≡◌, ℕ, List, map, Result, Ok, Err, ⊤}
use Rattle.ame_lex.specs.Bytes.{Text}
use Rattle.ame_lex.specs.declared.tokens.Token.{Token}
use Rattle.ame_lex.specs.declared.tokens.LexFault.{LexFault}
use Rattle.ame_lex.specs.Reading.{tokens_of}
use Rattle.ame_term.specs.Tree.{Tree}
use Rattle.ame_term.specs.View.{tree_of}
use Rattle.ame_term.specs.declared.program.Program.{Program}
use Rattle.ame_parse.specs.declared.fault.ParseFault.{ParseFault}
use Rattle.ame_parse.specs.declared.fault.ParseFault.TheVariants.{NoMemory}
use Rattle.ame_parse.specs.Input.{ParseOutcome}
use Rattle.ame_parse.specs.Seen.{start_of}
use Rattle.ame_parse.specs.Reading.{program}

-- a program as plain data: its names by their numbers, the place of each node in preorder, and the term
pub record Source : Type 0 where
  pub names : List Text
  pub places : List ℕ
  pub tree : Tree

-- what a program of the run shows
abbrev pub source_of : Program → Source
source_of p = record { names = map (λ name. name.items) p.names.items; places = p.places.items; tree = tree_of p.term }

-- why a text is no program: by its bytes, or by its tokens
pub data ReadingFault : Type 0 where
  Lexical : LexFault → ReadingFault
  Syntactic : ParseFault → ReadingFault

abbrev pub source_by : ParseOutcome Tree → Result Source ReadingFault
source_by (Ok (tree, i)) = Ok (record { names = i.names; places = i.places; tree = tree })
source_by (Err fault) = Err (ReadingFault.Syntactic fault)

abbrev pub reading_by : Text → Result (List Token) LexFault → Result Source ReadingFault
reading_by text (Ok tokens) = source_by (program (start_of text tokens))
reading_by text (Err fault) = Err (ReadingFault.Lexical fault)

-- the program of a text, or its first fault; a fault of the bytes comes before all others
unfoldable pub reading : Text → Result Source ReadingFault
reading text = reading_by text (tokens_of text)

-- what was answered is what is read of the text, unless memory ran out
abbrev pub AnswersProgram : Text → Result Program ParseFault → Type 0
AnswersProgram text (Ok program) = reading text ≡ Ok (source_of program)
AnswersProgram text (Err NoMemory) = ⊤
AnswersProgram text (Err fault) = reading text ≡ Err (ReadingFault.Syntactic fault)
