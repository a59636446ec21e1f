-- A place of a text, as it is shown.
use Rattle.std.specs.Prelude.{ℕ, ◌-◌, ◌++◌, ◌==◌, ◌||◌, ◌&&◌, nat_lt, nat_le, if◌then◌else◌, List, [], length, map, take, drop, codes}
use Rattle.std.specs.List.{flat_map, after_last, before_first}
use Rattle.ame_why.specs.Position.{is_feed}

-- a byte as it is shown: a carriage return as a space, and another control byte, but the tab, as a question mark
abbrev pub shown_byte : ℕ → ℕ
shown_byte b = if b == 9 then 9 else (if b == 13 then 32 else (if nat_lt b 32 || b == 127 then 63 else b))

-- what stands below a byte: a tab below a tab, nothing below a byte that goes on a character, and else a space
abbrev pub below_byte : ℕ → List ℕ
below_byte b = if b == 9 then codes "\t" else (if nat_le 128 b && nat_lt b 192 then [] else codes " ")

-- the end of a stretch before a place, at most 60 bytes
unfoldable pub shown_before : List ℕ → List ℕ
shown_before line = if nat_le (length line) 60 then line else codes "..." ++ drop (length line - 57) line

-- the beginning of a stretch from a place on, at most 40 bytes
unfoldable pub shown_behind : List ℕ → List ℕ
shown_behind line = if nat_le (length line) 40 then line else take 37 line ++ codes "..."

-- two stretches in a line, and below it a caret, below which the second begins
unfoldable pub page_lines : List ℕ → List ℕ → List ℕ
page_lines before behind =
    codes "    " ++ map shown_byte before ++ map shown_byte behind ++ codes "\n    " ++ flat_map below_byte before ++ codes "^\n"

-- the line in which a place is, and below it a caret at the place
abbrev pub excerpt : List ℕ → ℕ → List ℕ
excerpt text place = page_lines (shown_before (after_last is_feed (take place text))) (shown_behind (before_first is_feed (drop place text)))
