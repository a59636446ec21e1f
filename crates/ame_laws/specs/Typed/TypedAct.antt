-- The act of a redex of a type, and the terms that it may become.
use Rattle.std.specs.Prelude.{◌≡◌, ◌<◌, Some}
use Rattle.ame_term.specs.Tree.{Typ}
use Rattle.ame_term.specs.Signature.{Signature, MayStore}
use Rattle.ame_term.specs.Act.{Act}
use Rattle.ame_term.specs.HasType.{code_of}
use Rattle.ame_term.specs.declared.types.Sort.{Sort}
use Rattle.ame_term.specs.declared.types.Effect.{Effect}
use Rattle.ame_laws.specs.Typed.StoreTyping.{StoreTyping}
use Rattle.ame_laws.specs.Typed.Fragment.{IsFragment, IsValueOf}

module _ (signature : Signature) (cells : StoreTyping) where
  -- the act of a redex that is of a type under an effect
  abbrev pub IsTypedAct : Effect → Typ → Act → Type 0
  IsTypedAct q t (Act.Becomes e) = IsFragment signature cells q e t
  IsTypedAct q t (Act.Allocates sort number v) = (content : Typ) × (t ≡ Typ.Ref sort content) × IsValueOf signature cells v content × MayStore signature.refs number.0 content
  IsTypedAct q t (Act.Reads l) = (sort : Sort) × (cells l ≡ Some (sort, t)) × (code_of sort ≡ q)
  IsTypedAct q t (Act.Peeks l) = (cells l ≡ Some (Sort.Protected, t)) × (q ≡ Effect.Unprotected)
  IsTypedAct q t (Act.Writes l v) =
      (sort : Sort) × (content : Typ) × (cells l ≡ Some (sort, content)) × IsValueOf signature cells v content × (code_of sort ≡ q) × (t ≡ Typ.Unit)
  IsTypedAct q t (Act.Spawns body) = IsFragment signature cells Effect.Protected body Typ.Unit × (t ≡ Typ.Unit)
  IsTypedAct q t (Act.Prints n) = t ≡ Typ.Unit
  IsTypedAct q t Act.Passes = (q ≡ Effect.Protected) × (t ≡ Typ.Unit)
  IsTypedAct q t Act.Fails = (q ≡ Effect.Protected) × (t ≡ Typ.Unit)
  IsTypedAct q t (Act.Calls device n) = (device < signature.devices) × (q ≡ Effect.Unprotected) × (t ≡ Typ.Int)
  IsTypedAct q t (Act.Closes v) = IsValueOf signature cells v t × (q ≡ Effect.Protected)
  IsTypedAct q t Act.Stuck = ⊥
