-- The facts about a text that its fault states.
use Rattle.std.specs.Prelude.{◌≡◌, ℕ, List, Ok}
use Rattle.ame_lex.specs.declared.tokens.Token.{Token}
use Rattle.ame_lex.specs.declared.tokens.LexFault.{LexFault}
use Rattle.ame_lex.specs.declared.tokens.LexFault.TheVariants.{BadByte, LongNumber, NoMemory}
use Rattle.ame_lex.specs.Bytes.{Text}
use Rattle.ame_lex.specs.Grammar.{Lexes}

-- the text has tokens and no fault
abbrev pub HasTokens : Text → Type 0
HasTokens text = (tokens : List Token) × Lexes 0 text (Ok tokens)

-- the fault is one of the text, at this place
abbrev pub IsFaultAt : LexFault → ℕ → Type 0
IsFaultAt (BadByte place) at = place ≡ at
IsFaultAt (LongNumber place) at = place ≡ at
IsFaultAt NoMemory at = ⊥
