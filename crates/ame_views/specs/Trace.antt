-- A run as a table, and the forms that created its locations.
use Rattle.std.specs.Prelude.{ℕ, ◌+◌, ℤ, List, [], ◌∷◌, ◌++◌, if◌then◌else◌, codes}
use Rattle.ame_journal.specs.declared.entry.Entry.{Entry}
use Rattle.ame_store.specs.declared.cell.Cell.{Cell}
use Rattle.ame_protocol.specs.declared.types.Tried.{Tried}
use Rattle.ame_value.specs.declared.val.Val.{Val}
use Rattle.ame_why.specs.declared.position.Position.{Position}
use Rattle.ame_views.specs.declared.forms.Created.{Created}
use Rattle.ame_views.specs.declared.starters.Starter.{Starter}
use Rattle.ame_views.specs.Forms.{form_table}
use Rattle.ame_views.specs.Table.{table}

-- a location with the form that made it, if it is live
abbrev pub made_there : ℕ → Cell Val → List Created
made_there l cell = if cell.live then record { location = record { 0 = l }; form = cell.ty } ∷ [] else []

-- those of cells, from this location on
unfoldable pub made_from : ℕ → List (Cell Val) → List Created
made_from l [] = []
made_from l (cell ∷ cells) = made_there l cell ++ made_from (l + 1) cells

-- where locations were made, if there are any
abbrev pub origin_part : List Position → List Created → List ℕ
origin_part places [] = []
origin_part places (one ∷ made) = codes "\n" ++ form_table places (one ∷ made)

-- the table of all entries and attempts, and the forms that created the locations that are left
abbrev pub trace : List Position → List Entry → List Starter → List (List ℤ) → List Tried → List (Cell Val) → List ℕ
trace places entries starters lines tried cells = table entries tried starters lines ++ origin_part places (made_from 0 cells)
