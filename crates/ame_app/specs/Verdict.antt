-- The number and the line of a status.
use Rattle.std.specs.Prelude.{ℕ, List, [], ◌++◌, codes, decimal}
use Rattle.ame_lex.specs.declared.tokens.LexFault.{LexFault}
use Rattle.ame_parse.specs.declared.fault.Want.{Want}
use Rattle.ame_parse.specs.declared.fault.ParseFault.{ParseFault}
use Rattle.ame_app.specs.declared.fault.TextFault.{TextFault}
use Rattle.ame_app.specs.declared.fault.WordsFault.{WordsFault}
use Rattle.ame_app.specs.declared.status.Status.{Status}

-- the status of the process
abbrev pub number_of : Status → ℕ
number_of Status.Finished = 0
number_of (Status.Blocked number) = 1
number_of Status.Spent = 2
number_of Status.Usage = 3
number_of Status.ReadFault = 4
number_of Status.TooLong = 5
number_of (Status.Text fault) = 5
number_of (Status.Types fault) = 6
number_of Status.WriteFault = 7
number_of (Status.DeviceFault device) = 8
number_of Status.NoMemory = 9
number_of (Status.Tall number) = 10
number_of (Status.Valid entries) = 11
number_of (Status.Invalid entry) = 12
number_of (Status.BadJournal line) = 13
number_of (Status.LongJournal entry) = 14
number_of (Status.FarJournal entry) = 15
number_of (Status.TallJournal entry) = 16
number_of Status.BadSchedule = 17

-- the status of a process whose words can't be read
abbrev pub unread : WordsFault → Status
unread WordsFault.NotText = Status.Usage
unread WordsFault.NoMemory = Status.NoMemory

-- what was expected, up to the place
abbrev pub want_line : Want → List ℕ
want_line Want.Term = codes "refused: expected term at "
want_line Want.Form = codes "refused: expected form at "
want_line Want.Name = codes "refused: expected name at "
want_line Want.Ty = codes "refused: expected type at "
want_line Want.Effect = codes "refused: expected effect at "
want_line Want.Sort = codes "refused: expected sort at "
want_line Want.Device = codes "refused: expected device at "
want_line Want.Opening = codes "refused: expected opening at "
want_line Want.Closing = codes "refused: expected closing at "

-- a number in decimal, and the line's end
abbrev pub line_at : List ℕ → ℕ → List ℕ
line_at text number = text ++ (decimal number ++ codes "\n")

-- the line of an error in the bytes, or in the tokens
abbrev pub lexical_line : LexFault → List ℕ
lexical_line (LexFault.BadByte place) = line_at (codes "refused: bad byte at ") place
lexical_line (LexFault.LongNumber place) = line_at (codes "refused: long number at ") place
lexical_line LexFault.NoMemory = codes "no memory" ++ codes "\n"

abbrev pub syntactic_line : ParseFault → List ℕ
syntactic_line (ParseFault.Expected place want) = line_at (want_line want) place
syntactic_line (ParseFault.UnknownName place) = line_at (codes "refused: unknown name at ") place
syntactic_line (ParseFault.TooNested place) = line_at (codes "refused: too nested at ") place
syntactic_line (ParseFault.Trailing place) = line_at (codes "refused: trailing at ") place
syntactic_line ParseFault.NoMemory = codes "no memory" ++ codes "\n"

abbrev pub text_line : TextFault → List ℕ
text_line (TextFault.Lexical fault) = lexical_line fault
text_line (TextFault.Syntactic fault) = syntactic_line fault

-- the verdict line; there is none after a write fault
abbrev pub verdict : Status → List ℕ
verdict Status.Finished = codes "finished" ++ codes "\n"
verdict (Status.Blocked number) = line_at (codes "blocked ") number
verdict Status.Spent = codes "spent" ++ codes "\n"
verdict Status.Usage = codes "usage" ++ codes "\n"
verdict Status.ReadFault = codes "read fault" ++ codes "\n"
verdict Status.TooLong = codes "refused: too long" ++ codes "\n"
verdict (Status.Text fault) = text_line fault
verdict (Status.Types fault) = codes "types: rule " ++ (decimal fault.rule ++ line_at (codes " at ") fault.place)
verdict Status.WriteFault = []
verdict (Status.DeviceFault device) = codes "device " ++ (decimal device ++ (codes " failed" ++ codes "\n"))
verdict Status.NoMemory = codes "no memory" ++ codes "\n"
verdict (Status.Tall number) = line_at (codes "tall ") number
verdict Status.BadSchedule = codes "bad schedule" ++ codes "\n"
verdict (Status.Valid entries) = line_at (codes "valid ") entries
verdict (Status.Invalid entry) = line_at (codes "invalid at ") entry
verdict (Status.BadJournal line) = line_at (codes "bad journal at ") line
verdict (Status.LongJournal entry) = line_at (codes "long journal at ") entry
verdict (Status.FarJournal entry) = line_at (codes "far journal at ") entry
verdict (Status.TallJournal entry) = line_at (codes "tall journal at ") entry
