-- Typed fragments and values, for a signature and the types of locations.
use Rattle.ame_term.specs.Tree.{Typ, Val, Tree}
use Rattle.ame_term.specs.Signature.{Signature}
use Rattle.ame_term.specs.Scope.{unscoped}
use Rattle.ame_term.specs.Frame.{Side}
use Rattle.ame_term.specs.HasType.{HasType, HasValue}
use Rattle.ame_term.specs.declared.types.Effect.{Effect}
use Rattle.ame_laws.specs.Typed.StoreTyping.{StoreTyping}
use Rattle.ame_laws.specs.Typed.WellFormed.{IsWellFormed, IsWellFormedValue}

-- a closed term of a type, under an effect
abbrev pub IsFragment : Signature → StoreTyping → Effect → Tree → Typ → Type 0
IsFragment signature cells q e t = HasType signature cells unscoped q e t × IsWellFormed e

-- a value of a type
abbrev pub IsValueOf : Signature → StoreTyping → Val → Typ → Type 0
IsValueOf signature cells v t = HasValue signature cells v t × IsWellFormedValue v

-- the effect of a part on a side of `unprotected`, in a term under an effect
abbrev pub effect_at : Side → Effect → Effect
effect_at Side.Protected q = q
effect_at Side.Unprotected q = Effect.Unprotected
