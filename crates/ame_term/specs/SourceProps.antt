-- The properties of a program's term have one proof at most.
use Rattle.std.specs.Prelude.{ℕ, List, [], ◌∷◌, true}
use Rattle.std.specs.Coded.{×_prop, Unit-prop}
use mathlib.Core.HLevel.{×₃_prop, ⊥_prop}
use mathlib.Core.Bool.{Bool-set}
use Rattle.ame_term.specs.Tree.{Val, Tree, Trees}
use Rattle.ame_term.specs.SourceTerm.{IsConstant, HasTwo, IsSourceTerm, AreSourceTerms, names_within, is_name_of, IsBound, AllBound, IsClosedValue}

IsConstant-prop : (v : Val) → IsProp (IsConstant v)
IsConstant-prop Val.Unit = Unit-prop
IsConstant-prop (Val.Bool b) = Unit-prop
IsConstant-prop (Val.Int n) = Unit-prop
IsConstant-prop (Val.Loc l) = ⊥_prop
IsConstant-prop (Val.Fun head body) = ⊥_prop
IsConstant-prop (Val.Pair first second) = ⊥_prop

HasTwo-prop : (parts : Trees) → IsProp (HasTwo parts)
HasTwo-prop Trees.None = ⊥_prop
HasTwo-prop (Trees.More part Trees.None) = ⊥_prop
HasTwo-prop (Trees.More part (Trees.More next rest)) = Unit-prop

mutual
  unfolding IsSourceTerm AreSourceTerms

  pub IsSourceTerm-prop : (t : Tree) → IsProp (IsSourceTerm t)
  IsSourceTerm-prop (Tree.Held v) = IsConstant-prop v
  IsSourceTerm-prop (Tree.Var x) = Unit-prop
  IsSourceTerm-prop (Tree.Lambda head body) = IsSourceTerm-prop body
  IsSourceTerm-prop (Tree.Let x bound body) = ×_prop (IsSourceTerm-prop bound) (IsSourceTerm-prop body)
  IsSourceTerm-prop (Tree.Do parts) = ×_prop (HasTwo-prop parts) (AreSourceTerms-prop parts)
  IsSourceTerm-prop (Tree.If a b c) = ×₃_prop (IsSourceTerm-prop a) (IsSourceTerm-prop b) (IsSourceTerm-prop c)
  IsSourceTerm-prop (Tree.Async body) = IsSourceTerm-prop body
  IsSourceTerm-prop (Tree.Unprotected part) = IsSourceTerm-prop part
  IsSourceTerm-prop (Tree.One op part) = IsSourceTerm-prop part
  IsSourceTerm-prop (Tree.Two op left right) = ×_prop (IsSourceTerm-prop left) (IsSourceTerm-prop right)

  AreSourceTerms-prop : (parts : Trees) → IsProp (AreSourceTerms parts)
  AreSourceTerms-prop Trees.None = Unit-prop
  AreSourceTerms-prop (Trees.More part rest) = ×_prop (IsSourceTerm-prop part) (AreSourceTerms-prop rest)

mutual
  unfolding IsBound AllBound IsClosedValue

  pub IsBound-prop : (names : List ℕ) (t : Tree) → IsProp (IsBound names t)
  IsBound-prop names (Tree.Held v) = IsClosedValue-prop v
  IsBound-prop names (Tree.Var x) = Bool-set (is_name_of names x) true
  IsBound-prop names (Tree.Lambda head body) = IsBound-prop (names_within head.own head.param names) body
  IsBound-prop names (Tree.Let x bound body) = ×_prop (IsBound-prop names bound) (IsBound-prop (x ∷ names) body)
  IsBound-prop names (Tree.Do parts) = AllBound-prop names parts
  IsBound-prop names (Tree.If a b c) = ×₃_prop (IsBound-prop names a) (IsBound-prop names b) (IsBound-prop names c)
  IsBound-prop names (Tree.Async body) = IsBound-prop names body
  IsBound-prop names (Tree.Unprotected part) = IsBound-prop names part
  IsBound-prop names (Tree.One op part) = IsBound-prop names part
  IsBound-prop names (Tree.Two op left right) = ×_prop (IsBound-prop names left) (IsBound-prop names right)

  AllBound-prop : (names : List ℕ) (parts : Trees) → IsProp (AllBound names parts)
  AllBound-prop names Trees.None = Unit-prop
  AllBound-prop names (Trees.More part rest) = ×_prop (IsBound-prop names part) (AllBound-prop names rest)

  IsClosedValue-prop : (v : Val) → IsProp (IsClosedValue v)
  IsClosedValue-prop Val.Unit = Unit-prop
  IsClosedValue-prop (Val.Bool b) = Unit-prop
  IsClosedValue-prop (Val.Int n) = Unit-prop
  IsClosedValue-prop (Val.Loc l) = Unit-prop
  IsClosedValue-prop (Val.Fun head body) = IsBound-prop (names_within head.own head.param []) body
  IsClosedValue-prop (Val.Pair first second) = ×_prop (IsClosedValue-prop first) (IsClosedValue-prop second)
