-- The surroundings for which a term is typed.
use Rattle.std.specs.Prelude.{◌≡◌, ℕ, List, Option, Some, None, slice_get}
use Rattle.ame_term.specs.Tree.{Typ}

-- the number of devices, and, if known, the types of the values that `ref` forms store, by the forms' numbers
pub record Signature : Type 0 where
  pub devices : ℕ
  pub refs : Option (List Typ)

-- nothing is known of `ref` forms
abbrev pub unlisted : ℕ → Signature
unlisted devices = record { devices = devices; refs = None }

abbrev pub listed : ℕ → List Typ → Signature
listed devices refs = record { devices = devices; refs = Some refs }

-- a `ref` form with this number may store values of this type
abbrev pub MayStore : Option (List Typ) → ℕ → Typ → Type 0
MayStore None number t = Unit {0}
MayStore (Some refs) number t = slice_get refs number ≡ Some t
