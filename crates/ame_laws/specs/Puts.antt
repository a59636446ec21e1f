-- Substitution as a relation, a rule for each form: what binds the name stops it.
use Rattle.std.specs.Prelude.{◌≡◌, ◌≢◌, ℕ, ◌⊎◌, Some}
use Rattle.ame_term.specs.Tree.{OwnName, Head, Val, Tree, Trees}
use Rattle.ame_term.specs.declared.types.Unary.{Unary}
use Rattle.ame_term.specs.declared.types.Binary.{Binary}

-- a function form binds its parameter, and its own name if it has one
abbrev pub Binds : Head → ℕ → Type 0
Binds head x = (head.param ≡ x) ⊎ ((own : OwnName) × (head.own ≡ Some own) × (own.name ≡ x))

mutual
  -- u is t with the closed value w at each free place of the name x
  pub data Puts (x : ℕ) (w : Val) : Tree → Tree → Type 0 where
    held : (v : Val) → Puts x w (Tree.Held v) (Tree.Held v)
    this_name : Puts x w (Tree.Var x) (Tree.Held w)
    other_name : (y : ℕ) → y ≢ x → Puts x w (Tree.Var y) (Tree.Var y)
    function_binds : (head : Head) (body : Tree) → Binds head x → Puts x w (Tree.Lambda head body) (Tree.Lambda head body)
    function_passes : (head : Head) (body after : Tree) → (Binds head x → ⊥) → Puts x w body after
        → Puts x w (Tree.Lambda head body) (Tree.Lambda head after)
    let_binds : (bound bound_after body : Tree) → Puts x w bound bound_after → Puts x w (Tree.Let x bound body) (Tree.Let x bound_after body)
    let_passes : (y : ℕ) (bound bound_after body after : Tree) → y ≢ x → Puts x w bound bound_after → Puts x w body after
        → Puts x w (Tree.Let y bound body) (Tree.Let y bound_after after)
    sequence : (parts after : Trees) → PutsAll x w parts after → Puts x w (Tree.Do parts) (Tree.Do after)
    choice : (test test_after then_part then_after else_part else_after : Tree)
        → Puts x w test test_after → Puts x w then_part then_after → Puts x w else_part else_after
        → Puts x w (Tree.If test then_part else_part) (Tree.If test_after then_after else_after)
    fragment : (body after : Tree) → Puts x w body after → Puts x w (Tree.Async body) (Tree.Async after)
    unprotected : (part after : Tree) → Puts x w part after → Puts x w (Tree.Unprotected part) (Tree.Unprotected after)
    one : (op : Unary) (part after : Tree) → Puts x w part after → Puts x w (Tree.One op part) (Tree.One op after)
    two : (op : Binary) (left left_after right right_after : Tree) → Puts x w left left_after → Puts x w right right_after
        → Puts x w (Tree.Two op left right) (Tree.Two op left_after right_after)

  -- the same of each part of a `do` form
  pub data PutsAll (x : ℕ) (w : Val) : Trees → Trees → Type 0 where
    none : PutsAll x w Trees.None Trees.None
    more : (part after : Tree) (rest rest_after : Trees) → Puts x w part after → PutsAll x w rest rest_after
        → PutsAll x w (Trees.More part rest) (Trees.More after rest_after)
