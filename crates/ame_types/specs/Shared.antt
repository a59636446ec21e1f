-- Types whose parts are shared, and the table that numbers them: the list of its keys.
use Rattle.std.specs.Prelude.{◌≡◌, ℕ, List, Some, slice_get}
use Rattle.ame_term.specs.Tree.{Typ}
use Rattle.ame_term.specs.declared.types.Sort.{Sort}
use Rattle.ame_term.specs.declared.types.Effect.{Effect}
use Rattle.ame_types.specs.declared.shared_type.SharedType as shared
use Rattle.ame_types.specs.declared.shared_type.Mark.{Mark}
use Rattle.ame_types.specs.declared.shared_type.Mark.TheVariants as mark
use Rattle.ame_types.specs.declared.shared_type.Zone.{Zone}
use Rattle.ame_types.specs.declared.shared_type.Key.{Key}
use Rattle.ame_types.specs.declared.shared_type.Key.TheVariants as key

-- the type
abbrev pub shared_type : shared.SharedType → Typ
shared_type shared.Unit = Typ.Unit
shared_type shared.Bool = Typ.Bool
shared_type shared.Int = Typ.Int
shared_type (shared.Ref' n sort _ content) = Typ.Ref sort (shared_type content)
shared_type (shared.Fun' n effect _ param _ result) = Typ.Fun effect (shared_type param) (shared_type result)
shared_type (shared.Pair' n _ first _ second) = Typ.Pair (shared_type first) (shared_type second)

-- the mark that sets it apart
abbrev pub mark_of : shared.SharedType → Mark
mark_of shared.Unit = mark.Unit
mark_of shared.Bool = mark.Bool
mark_of shared.Int = mark.Int
mark_of (shared.Ref' n sort _ content) = mark.Numbered n
mark_of (shared.Fun' n effect _ param _ result) = mark.Numbered n
mark_of (shared.Pair' n _ first _ second) = mark.Numbered n

-- the code that a reference or a function belongs to
abbrev pub sort_zone : Sort → Zone
sort_zone Sort.Protected = Zone.Protected
sort_zone Sort.Unprotected = Zone.Unprotected

abbrev pub effect_zone : Effect → Zone
effect_zone Effect.Protected = Zone.Protected
effect_zone Effect.Unprotected = Zone.Unprotected
effect_zone Effect.Either = Zone.Either

-- the key of a type with parts
abbrev pub ref_key : Sort → shared.SharedType → Key
ref_key sort content = key.Ref (sort_zone sort) (mark_of content)

abbrev pub fun_key : Effect → shared.SharedType → shared.SharedType → Key
fun_key effect param result = key.Fun (effect_zone effect) (mark_of param) (mark_of result)

abbrev pub pair_key : shared.SharedType → shared.SharedType → Key
pair_key first second = key.Pair (mark_of first) (mark_of second)

-- a table has the keys of a type and of its parts at their numbers
abbrev pub IsListed : List Key → shared.SharedType → Type 0
IsListed keys shared.Unit = Unit {0}
IsListed keys shared.Bool = Unit {0}
IsListed keys shared.Int = Unit {0}
IsListed keys (shared.Ref' n sort _ content) = (slice_get keys n ≡ Some (ref_key sort content)) × IsListed keys content
IsListed keys (shared.Fun' n effect _ param _ result) =
    (slice_get keys n ≡ Some (fun_key effect param result)) × IsListed keys param × IsListed keys result
IsListed keys (shared.Pair' n _ first _ second) =
    (slice_get keys n ≡ Some (pair_key first second)) × IsListed keys first × IsListed keys second

-- what a table has at a number stays there
pub record Lengthens (old new : List Key) : Type 0 where
  pub stays : (n : ℕ) (k : Key) → slice_get old n ≡ Some k → slice_get new n ≡ Some k
