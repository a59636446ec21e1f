-- Sizes of values and terms, for recursions over both.
use Rattle.std.proofs.Common.{◌≡◌, ℕ, ◌+◌, ◌<◌, List, [], ◌∷◌, length, get_or, zero, suc, ap, arith}
use Rattle.ame_term.specs.Tree.{Val, Tree, Trees}
use Rattle.ame_term.specs.View.{tree_of, trees_of}
use Rattle.ame_term.specs.declared.term.Term.{Term, Do}
use Rattle.std.proofs.Common.{Vec, Global}
use Rattle.ame_term.proofs.TreesLemmas as trees

abbrev mutual
  pub value_size : Val → ℕ
  value_size (Val.Fun head body) = size body + 1
  value_size (Val.Pair first second) = value_size first + value_size second + 1
  value_size _ = 1

  pub size : Tree → ℕ
  size (Tree.Held value) = value_size value + 1
  size (Tree.Var x) = 1
  size (Tree.Lambda head body) = size body + 1
  size (Tree.Let x bound body) = size bound + size body + 1
  size (Tree.Do parts) = row_size parts + 2
  size (Tree.If test first second) = size test + size first + size second + 1
  size (Tree.Async body) = size body + 1
  size (Tree.Unprotected part) = size part + 2
  size (Tree.One op part) = size part + 1
  size (Tree.Two op left right) = size left + size right + 1

  pub row_size : Trees → ℕ
  row_size Trees.None = 0
  row_size (Trees.More part rest) = size part + row_size rest + 1

-- a part is smaller than the row
pub part_is_smaller : (parts : List Term) (i : ℕ) (part : Term) → i < length parts → part ≡ get_or parts i part → size (tree_of part) < row_size (trees_of parts)
part_is_smaller [] i part below is = omega (arith, below)
part_is_smaller (p ∷ ps) zero part below is = omega (arith, ap (λ t. size (tree_of t)) is)
part_is_smaller (p ∷ ps) (suc i) part below is = omega (arith, part_is_smaller ps i part (omega (arith, below)) is)

-- the view of a `do` form has the views of its parts
pub tree_of_do : (parts : Vec Term Global) → tree_of (Do parts) ≡ Tree.Do (trees_of parts.items)
tree_of_do parts = trees.tree_of_do parts
