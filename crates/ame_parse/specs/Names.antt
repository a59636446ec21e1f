-- The numbers of names.
use Rattle.std.specs.Prelude.{ℕ, if◌then◌else◌, List, [], ◌∷◌, ◌++◌}
use Rattle.std.specs.List.{list_any, position_or_len}
use Rattle.std.specs.Str.{bytes_eq}
use Rattle.ame_lex.specs.Bytes.{Text}

-- the number of a name: its place among the names so far, or else the next one
abbrev pub number_in : List Text → Text → ℕ
number_in names name = position_or_len (bytes_eq name) names

-- the names after this one was read; a new one goes last
abbrev pub with_name : List Text → Text → List Text
with_name names name = if list_any (bytes_eq name) names then names else names ++ name ∷ []
