-- The answer that a caller gets: numbers, and texts as far as there is room.
use Rattle.std.specs.Prelude.{◌≡◌, ℕ, List, ◌++◌, length, take, drop}
use Rattle.ame_lex.specs.declared.tokens.LexFault.{LexFault}
use Rattle.ame_parse.specs.declared.fault.ParseFault.{ParseFault}
use Rattle.ame_app.specs.declared.fault.TextFault.{TextFault}
use Rattle.ame_app.specs.declared.status.Status.{Status}
use Rattle.ame_app.specs.Verdict.{number_of}
use Rattle.ame_c.specs.declared.lines.Lines.{Lines}

-- the bytes of lines
abbrev pub bytes_in : Lines → List ℕ
bytes_in (Lines.Many bytes) = bytes.items
bytes_in (Lines.Last line) = line.bytes

-- the place of an error in a text
abbrev pub place_in : TextFault → ℕ
place_in (TextFault.Lexical (LexFault.BadByte place)) = place
place_in (TextFault.Lexical (LexFault.LongNumber place)) = place
place_in (TextFault.Lexical LexFault.NoMemory) = 0
place_in (TextFault.Syntactic (ParseFault.Expected place want)) = place
place_in (TextFault.Syntactic (ParseFault.UnknownName place)) = place
place_in (TextFault.Syntactic (ParseFault.TooNested place)) = place
place_in (TextFault.Syntactic (ParseFault.Trailing place)) = place
place_in (TextFault.Syntactic ParseFault.NoMemory) = 0

-- the last number in the line of a status, but of those of `resume`; of a device that failed its own
abbrev pub place_of : Status → ℕ
place_of (Status.Blocked n) = n
place_of (Status.DeviceFault device) = device
place_of (Status.Tall n) = n
place_of (Status.Valid n) = n
place_of (Status.Invalid n) = n
place_of (Status.LongJournal n) = n
place_of (Status.BadJournal n) = n
place_of (Status.Text fault) = place_in fault
place_of (Status.Types fault) = fault.place
place_of _ = 0

-- the rule of the types that a text breaks
abbrev pub rule_of : Status → ℕ
rule_of (Status.Types fault) = fault.rule
rule_of _ = 0

-- a room that begins with a text, as far as it fits; the rest of the room stays
abbrev pub fitted : List ℕ → List ℕ → List ℕ
fitted room text = take (length room) text ++ drop (length text) room

-- a status and its number are handed out
pub record IsTold (told : Status) (status number : ℕ) : Type 0 where
  pub status_is : status ≡ number_of told
  pub number_is : number ≡ place_of told

-- a text is handed out, with its length
pub record IsHandedOut (text room left : List ℕ) (whole : ℕ) : Type 0 where
  pub left_is : left ≡ fitted room text
  pub whole_is : whole ≡ length text
