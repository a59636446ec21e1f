-- The condition that typing leaves open: each `do` has two parts or more, as in every program text. Without
-- it a typed `do` with one part would have no reduction.
use Rattle.ame_term.specs.Tree.{Val, Tree, Trees}
use Rattle.ame_term.specs.SourceTerm.{HasTwo}

unfoldable mutual
  -- each `do` of the value has two parts or more
  pub IsWellFormedValue : Val → Type 0
  IsWellFormedValue Val.Unit = Unit {0}
  IsWellFormedValue (Val.Bool b) = Unit {0}
  IsWellFormedValue (Val.Int n) = Unit {0}
  IsWellFormedValue (Val.Loc l) = Unit {0}
  IsWellFormedValue (Val.Fun head body) = IsWellFormed body
  IsWellFormedValue (Val.Pair first second) = IsWellFormedValue first × IsWellFormedValue second

  -- each `do` of the term, and of the values that it holds, has two parts or more
  pub IsWellFormed : Tree → Type 0
  IsWellFormed (Tree.Held v) = IsWellFormedValue v
  IsWellFormed (Tree.Var x) = Unit {0}
  IsWellFormed (Tree.Lambda head body) = IsWellFormed body
  IsWellFormed (Tree.Let x bound body) = IsWellFormed bound × IsWellFormed body
  IsWellFormed (Tree.Do parts) = HasTwo parts × AreWellFormed parts
  IsWellFormed (Tree.If test then_part else_part) = IsWellFormed test × IsWellFormed then_part × IsWellFormed else_part
  IsWellFormed (Tree.Async body) = IsWellFormed body
  IsWellFormed (Tree.Unprotected part) = IsWellFormed part
  IsWellFormed (Tree.One op part) = IsWellFormed part
  IsWellFormed (Tree.Two op left right) = IsWellFormed left × IsWellFormed right

  pub AreWellFormed : Trees → Type 0
  AreWellFormed Trees.None = Unit {0}
  AreWellFormed (Trees.More part rest) = IsWellFormed part × AreWellFormed rest
