-- The values of the locations that are left.
use Rattle.std.specs.Prelude.{◌≡◌, ℕ, ◌+◌, List, [], ◌∷◌, ◌++◌, Bool, true, false, ◌||◌, if◌then◌else◌, Option, Some, None}
use Rattle.std.specs.Prelude.{codes, slice_get}
use Rattle.ame_term.specs.Tree.{Tree}
use Rattle.ame_term.specs.View.{val_of}
use Rattle.ame_term.specs.declared.term.Value.{Value}
use Rattle.ame_term.specs.declared.types.Sort.{Sort}
use Rattle.ame_store.specs.declared.cell.Cell.{Cell}
use Rattle.ame_value.specs.FlatValue.{FlatValue}
use Rattle.ame_value.specs.Meaning.{meant}
use Rattle.ame_value.specs.View.{flat_value}
use Rattle.ame_value.specs.declared.val.Val.{Val}
use Rattle.ame_print.specs.Tokens.{term_text}
use Rattle.ame_why.specs.declared.position.Position.{Position}
use Rattle.ame_why.specs.Position.{position_words}
use Rattle.ame_page.specs.Columns.{column, padded}

-- whether a function is in a value
abbrev pub has_function : FlatValue → Bool
has_function (FlatValue.Function function captured height) = true
has_function (FlatValue.Pair first second height) = has_function first || has_function second
has_function _ = false

-- no value if a function is in it, and otherwise the one for which it stands, whatever the program is
abbrev pub IsFirstOrder : FlatValue → Option Value → Type 0
IsFirstOrder v None = has_function v ≡ true
IsFirstOrder v (Some value) = (has_function v ≡ false) × (val_of value ≡ meant [] v)

-- the value's canonical text, unless a function is in it
unfoldable pub held_words : FlatValue → List ℕ
held_words v = if has_function v then codes "has a function" else term_text [] (Tree.Held (meant [] v))

abbrev pub sort_column : Sort → List ℕ
sort_column Sort.Protected = codes " p     "
sort_column Sort.Unprotected = codes " u     "

-- a location, its sort, and the place of the `ref` form that made it
unfoldable pub origin_words : List Position → ℕ → Cell Val → List ℕ
origin_words places l cell = column 8 l ++ sort_column cell.sort ++ padded 10 (position_words (slice_get places cell.ty.0))

-- the row of a location: nothing if it isn't live
unfoldable pub stored_row : List Position → ℕ → Cell Val → List ℕ
stored_row places l cell = if cell.live then origin_words places l cell ++ held_words (flat_value cell.value) ++ codes "\n" else []

-- the rows of cells, from this location on
unfoldable pub stored_rows : List Position → ℕ → List (Cell Val) → List ℕ
stored_rows places l [] = []
stored_rows places l (cell ∷ cells) = stored_row places l cell ++ stored_rows places (l + 1) cells

-- a line that names the columns, and a row for each location that is live
abbrev pub store_table : List Position → List (Cell Val) → List ℕ
store_table places cells = codes "location  sort  ref form  value\n" ++ stored_rows places 0 cells
