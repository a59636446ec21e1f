-- The places of the `ref` forms of a text that created locations.
use Rattle.std.specs.Prelude.{ℕ, Bool, List, [], ◌∷◌, ◌++◌, if◌then◌else◌, slice_get, codes}
use Rattle.std.specs.List.{flat_map}
use Rattle.std.specs.Str.{bytes_eq}
use Rattle.ame_lex.specs.declared.tokens.Token.{Token}
use Rattle.ame_lex.specs.Bytes.{Text}
use Rattle.ame_lex.specs.Tokens.{spelled}
use Rattle.ame_why.specs.declared.position.Position.{Position}
use Rattle.ame_page.specs.Columns.{column}
use Rattle.ame_why.specs.Position.{position, position_words}
use Rattle.ame_views.specs.declared.forms.Created.{Created}

-- whether a token is the word of a `ref` form
abbrev pub is_form : Text → Token → Bool
is_form text token = bytes_eq (spelled text token) (codes "ref")

-- the place of a token, if it is the word of a `ref` form
unfoldable pub form_position : Text → Token → List Position
form_position text token = if is_form text token then position text token.start ∷ [] else []

-- the places of the `ref` forms, in the order of the text
abbrev pub positions : Text → List Token → List Position
positions text tokens = flat_map (form_position text) tokens

-- the row of a location, by the number of the form that made it
unfoldable pub form_row : List Position → Created → List ℕ
form_row places made = column 8 made.location.0 ++ codes " " ++ position_words (slice_get places made.form.0) ++ codes "\n"

-- a line that names the columns, and a row for each location
abbrev pub form_table : List Position → List Created → List ℕ
form_table places made = codes "location  ref form\n" ++ flat_map (form_row places) made
