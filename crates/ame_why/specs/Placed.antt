-- A place as a person finds it, and what is explained there.
use Rattle.std.specs.Prelude.{◌≡◌, ◌++◌, ℕ, List, length, min, codes, decimal}
use Rattle.ame_why.specs.Position.{line_number, column_of}
use Rattle.ame_why.specs.Excerpt.{excerpt}

-- the line and the column of a place, and the line itself with a caret below it
unfoldable pub placed_text : List ℕ → ℕ → List ℕ
placed_text text place =
    codes "line " ++ decimal (line_number text place) ++ codes ", column " ++ decimal (column_of text place) ++ codes ":\n" ++ excerpt text place

-- the same for a place in a text, or for its end if the text is shorter
abbrev pub placed_within : List ℕ → ℕ → List ℕ
placed_within text place = placed_text text (min place (length text))

-- the page shows this place of the text, and then a message
pub record IsExplained (text : List ℕ) (place : ℕ) (page : List ℕ) : Type 0 where
  pub message : List ℕ
  pub shown : page ≡ placed_within text place ++ message
