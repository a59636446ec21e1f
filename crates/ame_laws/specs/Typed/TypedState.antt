-- Typed states.
use Rattle.std.specs.Prelude.{◌≡◌, ℕ, Some, IsSome}
use Rattle.std.specs.List.{AllByRecursion}
use Rattle.ame_term.specs.Tree.{Typ, Val, Tree}
use Rattle.ame_term.specs.Signature.{Signature}
use Rattle.ame_term.specs.Maps.{at}
use Rattle.ame_term.specs.State.{State}
use Rattle.ame_term.specs.declared.types.Sort.{Sort}
use Rattle.ame_term.specs.declared.types.Effect.{Effect}
use Rattle.ame_laws.specs.Typed.StoreTyping.{StoreTyping, Grows}
use Rattle.ame_laws.specs.Typed.Fragment.{IsFragment, IsValueOf}

-- a value that is stored at a location has the location's type
abbrev pub IsStored : Signature → StoreTyping → ℕ → Val → Type 0
IsStored signature cells l v = (cell : Sort × Typ) × (cells l ≡ Some cell) × IsValueOf signature cells v cell.1

-- a member is Unit under protected, also one that stands under `unprotected`
abbrev pub IsMember : Signature → StoreTyping → Tree → Type 0
IsMember signature cells term = IsFragment signature cells Effect.Protected term Typ.Unit

-- Each location of the store has a type, and what is stored there is of it. Each member is typed, and
-- the active one is one of them. Locations that the store doesn't have may have types too.
pub record IsTypedBy (signature : Signature) (cells : StoreTyping) (s : State) : Type 0 where
  pub stored : (l : ℕ) (v : Val) → at s.store l ≡ Some v → IsStored signature cells l v
  pub members : AllByRecursion (λ member. IsMember signature cells member.1) s.members
  pub present : (i : ℕ) → s.active ≡ Some i → IsSome (at s.members i)

-- a state is typed, and the locations of its store alone have types
pub record IsTyped (signature : Signature) (cells : StoreTyping) (s : State) : Type 0 where
  pub typed : IsTypedBy signature cells s
  pub located : (l : ℕ) (cell : Sort × Typ) → cells l ≡ Some cell → IsSome (at s.store l)

-- a state is typed, for some assignment that gives the locations of another one the same types
abbrev pub IsTypedLater : Signature → StoreTyping → State → Type 0
IsTypedLater signature cells s = (later : StoreTyping) × Grows cells later × IsTyped signature later s
