-- Runs that are given values of the right types.
use Rattle.std.specs.Prelude.{◌≡◌, ℕ, List, [], ◌∷◌, Some}
use Rattle.std.specs.List.{AllByRecursion}
use Rattle.ame_term.specs.Tree.{Typ, Val, Tree}
use Rattle.ame_term.specs.Signature.{Signature}
use Rattle.ame_term.specs.Frame.{Side}
use Rattle.ame_term.specs.Context.{Focus, focus}
use Rattle.ame_term.specs.Act.{Act, act_of}
use Rattle.ame_term.specs.HasType.{HasValue}
use Rattle.ame_term.specs.Maps.{at}
use Rattle.ame_term.specs.declared.types.Effect.{Effect}
use Rattle.ame_laws.specs.Typed.StoreTyping.{StoreTyping}
use Rattle.ame_laws.specs.Typed.Fragment.{IsFragment}
use Rattle.ame_laws.specs.Typed.TypedState.{IsStored, IsMember}
use Rattle.ame_machine.specs.Run.Local.{LocalState, local}

module _ (signature : Signature) (cells : StoreTyping) where
  -- A value is fit for an act that is fed it: what is taken from a location is of its type, and a new
  -- location has the sort and the type of what is set there. All else is fit.
  abbrev pub IsFitFor : Act → Val → Type 0
  IsFitFor (Act.Allocates sort number v) (Val.Loc l) = (content : Typ) × (cells l ≡ Some (sort, content)) × HasValue signature cells v content
  IsFitFor (Act.Reads l) v = IsStored signature cells l v
  IsFitFor (Act.Peeks l) v = IsStored signature cells l v
  IsFitFor _ v = Unit {0}

  -- the next input of a run, if it has one, is fit for the act of its redex
  abbrev pub IsFitNext : Side → LocalState → Type 0
  IsFitNext side p =
      (redex : Tree) (v : Val) (inputs : List Val) → focus p.term ≡ Focus.AtRedex side redex → p.inputs ≡ v ∷ inputs → IsFitFor (act_of redex) v

  -- A place of a run is typed: its term has the type, what it set is of its location's type, and its new
  -- members are typed.
  pub record IsTypedPlace (t : Typ) (p : LocalState) : Type 0 where
    pub fragment : IsFragment signature cells Effect.Protected p.term t
    pub stored : (l : ℕ) (v : Val) → at p.sets l ≡ Some v → IsStored signature cells l v
    pub members : AllByRecursion (λ body. IsMember signature cells body) p.spawns

  -- each place of a run that has used all inputs is typed
  abbrev pub IsTypedThroughout : Side → Tree → List Val → Typ → Type 0
  IsTypedThroughout side term inputs t = (n : ℕ) (p : LocalState) → local side term inputs n ≡ Some p → p.inputs ≡ [] → IsTypedPlace t p
