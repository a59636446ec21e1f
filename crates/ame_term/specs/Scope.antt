-- The types of the names in scope.
use Rattle.std.specs.Prelude.{ℕ, ◌==◌, Option, Some, None, if◌then◌else◌}
use Rattle.ame_term.specs.Tree.{Typ, OwnName}
use Rattle.ame_term.specs.declared.types.Effect.{Effect}

abbrev pub Scope : Type 0
Scope = ℕ → Option Typ

-- no names
abbrev pub unscoped : Scope
unscoped y = None

-- with one more name, which hides an outer one
abbrev pub bind : ℕ → Typ → Scope → Scope
bind x t names y = if x == y then Some t else names y

-- a function form's names within its body: its own name, and the parameter, which hides it
abbrev pub within : Effect → Option OwnName → ℕ → Typ → Scope → Scope
within effect None param param_type names = bind param param_type names
within effect (Some own) param param_type names =
    bind param param_type (bind own.name (Typ.Fun effect param_type own.result) names)
