-- Texts that are programs, and errors of those that aren't.
use Rattle.std.specs.Prelude.{◌≡◌, ℕ, Ok, Err}
use Rattle.ame_lex.specs.Bytes.{Text}
use Rattle.ame_lex.specs.declared.tokens.LexFault.{LexFault}
use Rattle.ame_parse.specs.declared.fault.ParseFault.{ParseFault}
use Rattle.ame_parse.specs.Text.{Source, ReadingFault, source_of, reading}
use Rattle.ame_term.specs.View.{tree_of}
use Rattle.ame_term.specs.Tree.{Typ}
use Rattle.ame_term.specs.Typing.{typing}
use Rattle.ame_term.specs.declared.accepted.Accepted.{Accepted}
use Rattle.ame_types.specs.Fault.{fault_of}
use Rattle.ame_types.specs.declared.fault.TypeFault.{TypeFault}
use Rattle.ame_app.specs.declared.fault.TextFault.{TextFault}

-- why the reading of a text fails, by its fault
abbrev pub why_of : TextFault → ReadingFault
why_of (TextFault.Lexical fault) = ReadingFault.Lexical fault
why_of (TextFault.Syntactic fault) = ReadingFault.Syntactic fault

-- the text is no program, and this is its first error; out of memory is no such error
abbrev pub IsNoProgram : Text → TextFault → Type 0
IsNoProgram text (TextFault.Lexical LexFault.NoMemory) = ⊥
IsNoProgram text (TextFault.Syntactic ParseFault.NoMemory) = ⊥
IsNoProgram text fault = reading text ≡ Err (why_of fault)

-- the text is a program that isn't Unit under protected with this number of devices, and this is its first error
pub record IsIllTyped (text : Text) (devices : ℕ) (fault : TypeFault) : Type 0 where
  pub source : Source
  pub reads : reading text ≡ Ok source
  pub is : typing devices source.places source.tree ≡ Err (fault_of fault)

-- the text is a program that the types accept with this number of devices
pub record IsAcceptedText (text : Text) (devices : ℕ) : Type 0 where
  pub source : Source
  pub reads : reading text ≡ Ok source
  pub typed : typing devices source.places source.tree ≡ Ok Typ.Unit

-- the accepted program is that of the text, and is Unit under protected with this number of devices
pub record IsProgramOf (text : Text) (count : ℕ) (accepted : Accepted) : Type 0 where
  pub reads : reading text ≡ Ok (source_of accepted.program)
  pub devices : accepted.devices ≡ count
  pub typed : typing count accepted.program.places.items (tree_of accepted.program.term) ≡ Ok Typ.Unit
