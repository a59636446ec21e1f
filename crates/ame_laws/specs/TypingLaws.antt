-- The table computes a type exactly if a term has one.
use Rattle.std.specs.Prelude.{◌≡◌, ℕ, Option, Ok}
use Rattle.ame_term.specs.Tree.{Typ, Tree}
use Rattle.ame_term.specs.Signature.{Signature, unlisted}
use Rattle.ame_term.specs.Scope.{Scope}
use Rattle.ame_term.specs.Typing.{typed}
use Rattle.ame_term.specs.HasType.{HasType}
use Rattle.ame_term.specs.declared.types.Sort.{Sort}
use Rattle.ame_term.specs.declared.types.Effect.{Effect}

-- a type that the table gives is had, if nothing is known of `ref` forms
abbrev pub GivesOnlyHad : Type 0
GivesOnlyHad =
    (devices : ℕ) (cells : ℕ → Option (Sort × Typ)) (places : ℕ → ℕ) (g : Scope) (q : Effect) (i : ℕ) (e : Tree) (t : Typ) →
    typed devices cells places g q i e ≡ Ok t → HasType (unlisted devices) cells g q e t

-- a type that is had is given, whatever the places
abbrev pub GivesAllHad : Type 0
GivesAllHad =
    (signature : Signature) (cells : ℕ → Option (Sort × Typ)) (places : ℕ → ℕ) (g : Scope) (q : Effect) (i : ℕ) (e : Tree) (t : Typ) →
    HasType signature cells g q e t → typed signature.devices cells places g q i e ≡ Ok t

-- two types of a term are the same
abbrev pub HasOneType : Type 0
HasOneType =
    (signature : Signature) (cells : ℕ → Option (Sort × Typ)) (g : Scope) (q : Effect) (e : Tree) (t u : Typ) →
    HasType signature cells g q e t → HasType signature cells g q e u → t ≡ u
