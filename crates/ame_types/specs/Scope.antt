-- The names that a chain of bindings has in scope.
use Rattle.std.specs.Prelude.{ℕ, List, [], ◌∷◌}
use Rattle.ame_term.specs.Scope.{Scope, unscoped, bind}
use Rattle.ame_types.specs.declared.type_scope.TypeScope as chain
use Rattle.ame_types.specs.declared.shared_type.Key.{Key}
use Rattle.ame_types.specs.Shared.{shared_type, IsListed}

-- the types of the names in scope
abbrev pub scope_of : chain.TypeScope → Scope
scope_of chain.Empty = unscoped
scope_of (chain.Bound' _ outer x ty) = bind x.0 (shared_type ty) (scope_of outer)
scope_of (chain.Beside' _ outer ty) = scope_of outer

-- the names in scope, the innermost first
abbrev pub names_of : chain.TypeScope → List ℕ
names_of chain.Empty = []
names_of (chain.Bound' _ outer x ty) = x.0 ∷ names_of outer
names_of (chain.Beside' _ outer ty) = names_of outer

-- a table has the types of a chain
abbrev pub AreListed : List Key → chain.TypeScope → Type 0
AreListed keys chain.Empty = Unit {0}
AreListed keys (chain.Bound' _ outer x ty) = AreListed keys outer × IsListed keys ty
AreListed keys (chain.Beside' _ outer ty) = AreListed keys outer × IsListed keys ty
