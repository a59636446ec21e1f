-- Effects, sorts and device numbers, which are recognised by their position.
use Rattle.std.specs.Prelude.{ℕ, ℤ, pos, negsuc, nat_lt, if◌then◌else◌, Option, Some, None, codes}
use Rattle.std.specs.Str.{bytes_eq}
use Rattle.ame_lex.specs.Bytes.{Text}
use Rattle.ame_term.specs.declared.types.Sort.{Sort}
use Rattle.ame_term.specs.declared.types.Sort.TheVariants as sorts
use Rattle.ame_term.specs.declared.types.TyNo.{TyNo}
use Rattle.ame_term.specs.declared.types.Effect.{Effect}
use Rattle.ame_term.specs.declared.types.Effect.TheVariants as effects
use Rattle.ame_parse.specs.declared.ahead.Ahead.{Ahead}
use Rattle.ame_parse.specs.declared.ahead.Ahead.TheVariants as a
use Rattle.ame_parse.specs.declared.fault.Want.TheVariants as want
use Rattle.ame_parse.specs.Input.{Parser, ◌>>=◌, ◌>>◌, pure, expected, advance, ahead, spelling, count_ref}

unfoldable pub sort_of : Text → Option Sort
sort_of word = if bytes_eq word (codes "p") then Some sorts.Protected else (if bytes_eq word (codes "u") then Some sorts.Unprotected else None)

unfoldable pub effect_named : Text → Option Effect
effect_named word =
    if bytes_eq word (codes "p") then Some effects.Protected
    else (if bytes_eq word (codes "u") then Some effects.Unprotected
    else (if bytes_eq word (codes "a") then Some effects.Either
    else None))

abbrev pub small : ℤ → Option ℕ
small (pos n) = if nat_lt n 256 then Some n else None
small (negsuc n) = None

-- a number from 0 to 255
unfoldable pub device_of : Ahead → Option ℕ
device_of (a.Number value) = small value
device_of _ = None

abbrev pub sort_by : Option Sort → Parser Sort
sort_by (Some found) = advance >> pure found
sort_by None = expected want.Sort

unfoldable pub sort : Parser Sort
sort = λ i. sort_by (sort_of (spelling i)) i

-- the sort of a `ref` form, and its number
unfoldable pub numbered_sort : Parser (Sort × TyNo)
numbered_sort = do
  which ← sort
  number ← count_ref
  pure (which, number)

abbrev pub effect_by : Option Effect → Parser Effect
effect_by (Some found) = advance >> pure found
effect_by None = expected want.Effect

unfoldable pub effect_word : Parser Effect
effect_word = λ i. effect_by (effect_named (spelling i)) i

abbrev pub device_by : Option ℕ → Parser ℕ
device_by (Some found) = advance >> pure found
device_by None = expected want.Device

unfoldable pub device : Parser ℕ
device = λ i. device_by (device_of (ahead i)) i
