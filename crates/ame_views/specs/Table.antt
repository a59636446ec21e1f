-- A journal as a table that a person can follow.
use Rattle.std.specs.Prelude.{ℕ, ◌+◌, ◌-◌, ℤ, List, [], ◌∷◌, ◌++◌, replicate, slice_index_or, nat_lt, if◌then◌else◌, Option, Some, None, codes, decimal}
use Rattle.std.specs.Fmt.{signed_decimal}
use Rattle.std.specs.List.{flat_map}
use Rattle.ame_journal.specs.declared.entry.Entry.{Entry}
use Rattle.ame_journal.specs.declared.entry.EntryKind.{EntryKind}
use Rattle.ame_protocol.specs.declared.types.Tried.{Tried}
use Rattle.ame_why.specs.declared.position.Position.{Position}
use Rattle.ame_views.specs.declared.starters.Starter.{Starter}
use Rattle.ame_why.specs.Position.{position_words}
use Rattle.ame_views.specs.Nexts.{kind_of_next}
use Rattle.ame_page.specs.Columns.{column, padded}
use Rattle.ame_views.specs.Starters.{starter_in}

-- the words for steps of unprotected code, given the kind of the member's next entry: a fragment that begins shows that they had ended
abbrev pub outside_words : Option EntryKind → List ℕ
outside_words (Some EntryKind.Ran) = codes "finished its unprotected code"
outside_words (Some EntryKind.Stuck) = codes "finished its unprotected code"
outside_words _ = codes "ran unprotected code"

-- the words for a fragment: if its member has a next entry, it came to `unprotected`
abbrev pub fragment_words : Option EntryKind → List ℕ
fragment_words None = codes "ran"
fragment_words (Some kind) = codes "ran, and entered unprotected code"

-- the words for an entry of a kind, given the kind of the member's next entry
abbrev pub kind_words : EntryKind → Option EntryKind → List ℕ
kind_words EntryKind.Ran next = fragment_words next
kind_words EntryKind.Free next = outside_words next
kind_words EntryKind.Stuck next = codes "rolled back: condition false"
kind_words EntryKind.Cut next = codes "rolled back: cut off"
kind_words EntryKind.Tall next = codes "rolled back: value nested too deeply"

-- a number after a space
abbrev pub spaced_number : ℕ → List ℕ
spaced_number n = codes " " ++ decimal n

-- an integer after a space
abbrev pub spaced_integer : ℤ → List ℕ
spaced_integer x = codes " " ++ signed_decimal x

-- which locations were made, if any were
abbrev pub made_words : List ℕ → List ℕ
made_words [] = []
made_words (l ∷ made) = codes ", created" ++ flat_map spaced_number (l ∷ made)

-- what a device answered, if one was called
abbrev pub answer_shown : Option ℤ → List ℕ
answer_shown None = []
answer_shown (Some answer) = codes ", answer " ++ signed_decimal answer

-- the place of the form that started a task, if it is known
abbrev pub form_words : Option Position → List ℕ
form_words None = []
form_words (Some there) = codes "at " ++ position_words (Some there)

-- the entry that started a task, and the place of the form; the program has no starter
abbrev pub starter_words : Option Starter → List ℕ
starter_words None = codes "    -"
starter_words (Some starter) = column 5 starter.entry ++ form_words starter.form

-- the same in a column, and a space
unfoldable pub starter_column : Option Starter → List ℕ
starter_column starter = padded 15 (starter_words starter) ++ codes " "

-- the columns before the words: which entry it is, the seat, the fragment, what started that, and the steps
unfoldable pub counts : ℕ → Entry → Option Starter → List ℕ
counts n entry starter = column 5 n ++ column 5 entry.seat ++ column 9 entry.number ++ starter_column starter ++ column 6 entry.steps

-- which lines were printed, if any were
abbrev pub printed_words : List ℤ → List ℕ
printed_words [] = []
printed_words (x ∷ printed) = codes ", printed" ++ flat_map spaced_integer (x ∷ printed)

-- what an entry left: locations, an answer, lines
unfoldable pub left_words : Entry → List ℤ → List ℕ
left_words entry printed = made_words entry.fresh ++ answer_shown entry.answer ++ printed_words printed

-- the column of words, given the kind of the member's next entry, and the lines that were printed
unfoldable pub deed : Entry → Option EntryKind → List ℤ → List ℕ
deed entry next printed = codes " " ++ kind_words entry.kind next ++ left_words entry printed ++ codes "\n"

-- the row of entry n, whose fragment was started so
unfoldable pub entry_row : ℕ → Entry → Option Starter → Option EntryKind → List ℤ → List ℕ
entry_row n entry starter next printed = counts n entry starter ++ deed entry next printed

-- the words for an attempt: the entry after which its reads were last valid
unfoldable pub tried_words : ℕ → List ℕ
tried_words at = codes " rolled back; its reads were last valid after entry " ++ decimal at ++ codes "\n"

-- the row of a try that left no entry: its fragment, what started that, and how many of its steps were valid
unfoldable pub tried_row : Tried → Option Starter → List ℕ
tried_row t starter = replicate 12 32 ++ column 9 t.number ++ starter_column starter ++ column 6 t.steps ++ tried_words t.at

-- the rows of the first tries, as far as these were valid before entry n
unfoldable pub tried_rows : ℕ → List Tried → (ℕ → Option Starter) → List ℕ
tried_rows n [] started = []
tried_rows n (t ∷ tries) started = if nat_lt t.at n then tried_row t (started t.number) ++ tried_rows n tries started else []

-- the later attempts
abbrev pub later_tries : ℕ → List Tried → List Tried
later_tries n [] = []
later_tries n (t ∷ tries) = if nat_lt t.at n then later_tries n tries else t ∷ tries

-- The rows of entries, from entry n on, and of attempts between them, given the starter of each task and the lines of each entry.
unfoldable pub rows : ℕ → List Entry → List Tried → (ℕ → Option Starter) → (ℕ → List ℤ) → List ℕ
rows n [] tries started told = tried_rows n tries started
rows n (entry ∷ entries) tries started told =
    tried_rows n tries started
    ++ (entry_row n entry (started entry.number) (kind_of_next entry.number entries) (told n) ++ rows (n + 1) entries (later_tries n tries) started told)

-- the lines of entry n, counted from 1; none if there are fewer
abbrev pub lines_at : List (List ℤ) → ℕ → List ℤ
lines_at lines n = slice_index_or lines (n - 1) []

-- A line that names the columns, and a row for each entry, counted from 1, with its lines, and for each attempt. The list of starters has
-- the starter of each task but the program, in the order of their numbers.
abbrev pub table : List Entry → List Tried → List Starter → List (List ℤ) → List ℕ
table entries tries starters lines =
    codes "entry  seat      task  started by      steps  what it did\n" ++ rows 1 entries tries (starter_in starters) (lines_at lines)
