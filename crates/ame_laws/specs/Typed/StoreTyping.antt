-- Store typings: assignments of types to locations.
use Rattle.std.specs.Prelude.{◌≡◌, ℕ, Option, Some}
use Rattle.ame_term.specs.Tree.{Typ}
use Rattle.ame_term.specs.declared.types.Sort.{Sort}

-- the sort and the content type of each location that has them
abbrev pub StoreTyping : Type 0
StoreTyping = ℕ → Option (Sort × Typ)

-- each location that had a sort and a type has the same later
abbrev pub Grows : StoreTyping → StoreTyping → Type 0
Grows cells later = (l : ℕ) (cell : Sort × Typ) → cells l ≡ Some cell → later l ≡ Some cell
