-- The values that a term holds, and how high a value is by those that are in it.
use Rattle.std.specs.Prelude.{◌≡◌, ℕ, ◌+◌, ◌<◌, ◌⊎◌}
use Rattle.ame_term.specs.Tree.{Head, Val, Tree, Trees}
use Rattle.ame_term.specs.Height.{height}
use Rattle.ame_term.specs.declared.types.Unary.{Unary}
use Rattle.ame_term.specs.declared.types.Binary.{Binary}

module _ (w : Val) where
  mutual
    -- the value is held in the term, in whichever part, also in what isn't evaluated yet
    pub data Holds : Tree → Type 0 where
      itself : Holds (Tree.Held w)
      in_function : {head : Head} {body : Tree} → Holds body → Holds (Tree.Lambda head body)
      in_bound : {x : ℕ} {bound body : Tree} → Holds bound → Holds (Tree.Let x bound body)
      in_scope : {x : ℕ} {bound body : Tree} → Holds body → Holds (Tree.Let x bound body)
      in_sequence : {parts : Trees} → HoldsAmong parts → Holds (Tree.Do parts)
      in_test : {test then_part else_part : Tree} → Holds test → Holds (Tree.If test then_part else_part)
      in_then : {test then_part else_part : Tree} → Holds then_part → Holds (Tree.If test then_part else_part)
      in_else : {test then_part else_part : Tree} → Holds else_part → Holds (Tree.If test then_part else_part)
      in_async : {body : Tree} → Holds body → Holds (Tree.Async body)
      in_unprotected : {part : Tree} → Holds part → Holds (Tree.Unprotected part)
      in_one : {op : Unary} {part : Tree} → Holds part → Holds (Tree.One op part)
      in_left : {op : Binary} {left right : Tree} → Holds left → Holds (Tree.Two op left right)
      in_right : {op : Binary} {left right : Tree} → Holds right → Holds (Tree.Two op left right)

    -- the value is held in one of the parts of a `do` form
    pub data HoldsAmong : Trees → Type 0 where
      in_part : {part : Tree} {rest : Trees} → Holds part → HoldsAmong (Trees.More part rest)
      in_rest : {part : Tree} {rest : Trees} → HoldsAmong rest → HoldsAmong (Trees.More part rest)

-- one of two values
abbrev pub IsOneOf : Val → Val → Val → Type 0
IsOneOf a b w = (w ≡ a) ⊎ (w ≡ b)

-- A height is above that of each of the values, and is one more than that of some of them, or 1 where
-- there are none.
pub record IsOneAbove (among : Val → Type 0) (h : ℕ) : Type 0 where
  pub above : (w : Val) → among w → height w < h
  pub least : (((w : Val) → among w → ⊥) × (h ≡ 1)) ⊎ ((w : Val) × among w × (h ≡ height w + 1))
