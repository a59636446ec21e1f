-- Forms with one part: what is tested before the part, and what a `ref` form stores.
use Rattle.std.specs.Prelude.{ℕ, ◌<◌, Bool, true, ◌&&◌, List, [], ◌∷◌, length, slice_set, nat_lt}
use Rattle.ame_term.specs.Tree.{Typ}
use Rattle.ame_term.specs.Typing.{same_effect}
use Rattle.ame_term.specs.declared.types.Effect.{Effect}
use Rattle.ame_term.specs.declared.types.Unary.{Unary}
use Rattle.ame_term.specs.declared.types.Unary.TheVariants as unary

-- whether a form may stand under an effect, on this number of devices, whatever its part is
abbrev pub stands_under : ℕ → Unary → Effect → Bool
stands_under devices unary.Peek q = same_effect q Effect.Unprotected
stands_under devices unary.Block q = same_effect q Effect.Protected
stands_under devices (unary.Call device) q = same_effect q Effect.Unprotected && nat_lt device devices
stands_under devices _ q = true

-- the room for the type that a `ref` form stores
abbrev pub ref_room : Unary → List Typ
ref_room (unary.Ref sort number) = Typ.Unit ∷ []
ref_room _ = []

-- a `ref` form has its room among stored types at this number
abbrev pub HasRefRoom : Unary → List Typ → ℕ → Type 0
HasRefRoom (unary.Ref sort number) types n = n < length types
HasRefRoom _ types n = Unit {0}

-- the stored types once the room of a `ref` form got its type
abbrev pub filled : Unary → List Typ → ℕ → Typ → List Typ
filled (unary.Ref sort number) types n t = slice_set types n t
filled _ types n t = types
