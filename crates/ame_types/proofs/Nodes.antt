-- Numbers of nodes.
use Rattle.std.proofs.Common.{◌<◌, arith}
use Rattle.ame_term.specs.Tree.{Tree}
use Rattle.ame_term.specs.SourceTerm.{nodes}

-- a term has a node
pub nodes-positive : (t : Tree) → 0 < nodes t
unfolding nodes
nodes-positive (Tree.Held v) = omega arith
nodes-positive (Tree.Var x) = omega arith
nodes-positive (Tree.Lambda head body) = omega arith
nodes-positive (Tree.Let x bound body) = omega arith
nodes-positive (Tree.Do parts) = omega arith
nodes-positive (Tree.If test then_part else_part) = omega arith
nodes-positive (Tree.Async body) = omega arith
nodes-positive (Tree.Unprotected part) = omega arith
nodes-positive (Tree.One op part) = omega arith
nodes-positive (Tree.Two op left right) = omega arith

pub ruleset positive = (nodes-positive)
