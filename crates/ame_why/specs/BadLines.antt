-- A line that spells no entry of a journal, and what is said of it.
use Rattle.std.specs.Prelude.{◌≡◌, ◌==◌, ◌⊎◌, ◌||◌, ℕ, ℤ, ◌+◌, ◌≤◌, ◌<◌, Bool, true, false, List, ◌++◌, length, if◌then◌else◌, FitsSigned, decimal, codes}
use Rattle.std.specs.List.{list_any}
use Rattle.std.specs.Fmt.{signed_decimal}
use Rattle.std.specs.Int.{w64}
use Rattle.std.specs.Str.{bytes_eq}
use Rattle.ame_journal.specs.declared.entry.EntryKind.{EntryKind}
use Rattle.ame_journal.specs.Kinds.{kind_word}
use Rattle.ame_check.specs.Input.{HasProgramLine}
use Rattle.ame_why.specs.Placed.{placed_within}
use Rattle.ame_why.specs.Words.{line_place, line_from, word_from}
use Rattle.ame_why.specs.declared.journal_line.LinePart.{LinePart}
use Rattle.ame_why.specs.declared.journal_line.LinePart.TheVariants as part

-- what must stand somewhere
abbrev pub part_words : LinePart → List ℕ
part_words part.Kind = codes "expected `ran`, `free`, `stuck`, `cut` or `tall`\n"
part_words part.Seat = codes "expected a seat: a number from 0 to 31\n"
part_words part.Member = codes "expected the number of a task: below 18446744073709551616, without leading zeros\n"
part_words part.Steps = codes "expected the number of steps: below 18446744073709551616, without leading zeros\n"
part_words part.Location = codes "expected a new location: below 4294967296, without leading zeros; only a `free` line has an answer, after `=`\n"
part_words part.Answer = codes "expected an answer: a signed 64-bit integer without leading zeros\n"
part_words part.End = codes "text after the answer: an answer ends its line\n"

-- the words for this word of a line
abbrev pub wanted : LinePart → List ℕ → List ℕ
wanted part word = if list_any (λ b. b == 13) word then codes "carriage return in the line: a line ends with a line feed only\n" else part_words part

-- the kind of an entry
abbrev pub IsKind : List ℕ → Type 0
IsKind word = (kind : EntryKind) × (word ≡ kind_word kind)

-- a number up to this one
abbrev pub IsUpTo : ℕ → List ℕ → Type 0
IsUpTo most word = (n : ℕ) × (n ≤ most) × (word ≡ decimal n)

-- an integer of 64 bits
abbrev pub SpellsInteger : List ℕ → Type 0
SpellsInteger word = (x : ℤ) × FitsSigned w64 x × (word ≡ signed_decimal x)

-- a word may stand for a part of a line; only after the word `free` may `=` stand for a location
abbrev pub MayStand : Bool → LinePart → List ℕ → Type 0
MayStand is_free part.Kind word = IsKind word
MayStand is_free part.Seat word = IsUpTo 31 word
MayStand is_free part.Member word = IsUpTo 18446744073709551615 word
MayStand is_free part.Steps word = IsUpTo 18446744073709551615 word
MayStand is_free part.Location word = IsUpTo 4294967295 word ⊎ ((is_free ≡ true) × (word ≡ codes "="))
MayStand is_free part.Answer word = SpellsInteger word
MayStand is_free part.End word = ⊥

-- the part that follows a word
abbrev pub next_part : LinePart → List ℕ → LinePart
next_part part.Kind word = part.Seat
next_part part.Seat word = part.Member
next_part part.Member word = part.Steps
next_part part.Steps word = part.Location
next_part part.Location word = if bytes_eq word (codes "=") then part.Answer else part.Location
next_part part.Answer word = part.End
next_part part.End word = part.End

-- a line that ends with this word lacks a part
abbrev pub ends_early : LinePart → List ℕ → Bool
ends_early part.Steps word = false
ends_early part.Location word = bytes_eq word (codes "=")
ends_early part.Answer word = false
ends_early _ word = true

-- the words for a line that ends with this word, if all its words may stand
abbrev pub ending : LinePart → List ℕ → List ℕ
ending part word =
    if ends_early part word then codes "incomplete line: expected kind, seat, task, steps, then new locations\n"
    else codes "no error in this line: it has all parts of an entry\n"

-- Each word before a place may stand at its own place, and this part comes next. The flag says that one of them is `free`.
pub data ReadsTo (line : List ℕ) : ℕ → LinePart → Bool → Type 0 where
  none : ReadsTo line 0 part.Kind false
  more : (place : ℕ) (part : LinePart) (is_free : Bool) → ReadsTo line place part is_free → MayStand is_free part (word_from line place)
      → place + length (word_from line place) < length line
      → ReadsTo line (place + length (word_from line place) + 1) (next_part part (word_from line place))
      (is_free || bytes_eq (word_from line place) (codes "free"))

-- An error is at the first word that may not stand at its place, or at the end of a line in which all words may. Such a line lacks a part, or has no
-- error.
pub data IsLineError (line : List ℕ) (place : ℕ) (message : List ℕ) : Type 0 where
  word : (part : LinePart) (is_free : Bool) → ReadsTo line place part is_free → (MayStand is_free part (word_from line place) → ⊥)
      → message ≡ wanted part (word_from line place) → IsLineError line place message
  whole : (start : ℕ) (part : LinePart) (is_free : Bool) → ReadsTo line start part is_free → MayStand is_free part (word_from line start)
      → length line ≤ start + length (word_from line start) → place ≡ length line
      → message ≡ ending part (word_from line start) → IsLineError line place message

-- The page shows an error of this line; or it shows the beginning of the line, and that the input has no line `program`.
pub data ExplainsLine (input : List ℕ) (line : ℕ) (page : List ℕ) : Type 0 where
  no_program : ((k : ℕ) → HasProgramLine input k → ⊥) →
      page ≡ placed_within input (line_place input line) ++ codes "missing line `program` between the journal and the program text\n" → ExplainsLine input line page
  fault : (place : ℕ) (message : List ℕ) → IsLineError (line_from input (line_place input line)) place message →
      page ≡ placed_within input (line_place input line + place) ++ message → ExplainsLine input line page
