-- A place as editors read it, with a verdict.
use Rattle.std.specs.Prelude.{ℕ, List, ◌++◌, Some, length, min, codes}
use Rattle.ame_why.specs.Position.{position, position_words}

-- the name of the text, the line and the column of a place (or of the end of a shorter text), and a verdict
abbrev pub heading : List ℕ → List ℕ → ℕ → List ℕ → List ℕ
heading name text place told = name ++ codes ":" ++ position_words (Some (position text (min place (length text)))) ++ codes ": " ++ told
