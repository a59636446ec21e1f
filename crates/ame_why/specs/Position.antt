-- Lines of a text, and the line of a place.
use Rattle.std.specs.Prelude.{ℕ, ◌+◌, ◌==◌, Bool, not, List, ◌++◌, length, take, count_by, Option, Some, None, codes, decimal}
use Rattle.std.specs.List.{after_last}
use Rattle.ame_why.specs.declared.position.Position.{Position}

abbrev pub is_feed : ℕ → Bool
is_feed b = b == 10

abbrev pub is_within_line : ℕ → Bool
is_within_line b = not (is_feed b)

-- the line of a place: one more than the line feeds before it
abbrev pub line_number : List ℕ → ℕ → ℕ
line_number text place = count_by is_feed (take place text) + 1

-- the column of a place: one more than the bytes after the last of them
abbrev pub column_of : List ℕ → ℕ → ℕ
column_of text place = length (after_last is_feed (take place text)) + 1

-- the line and the column of a place
abbrev pub position : List ℕ → ℕ → Position
position text place = record { line = line_number text place; column = column_of text place }

-- a line and a column of it
abbrev pub position_words : Option Position → List ℕ
position_words None = codes "unknown"
position_words (Some at) = decimal at.line ++ codes ":" ++ decimal at.column
