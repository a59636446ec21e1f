-- The numbers of `ref` forms: their places among those of a text, in reading order.
use Rattle.std.specs.Prelude.{◌≡◌, ℕ, ◌+◌}
use Rattle.std.specs.Coded.{×_prop, Unit-prop}
use mathlib.Core.HLevel.{×₃_prop}
use native.Mathlib.Nat.{ℕ_set}
use Rattle.ame_term.specs.Tree.{Tree, Trees}
use Rattle.ame_term.specs.declared.types.Unary.{Unary}
use Rattle.ame_term.specs.declared.types.Unary.TheVariants as unary

-- a `ref` form counts as one
abbrev pub own_ref_count : Unary → ℕ
own_ref_count (unary.Ref sort number) = 1
own_ref_count _ = 0

unfoldable mutual
  -- how many `ref` forms a term has; a held value has none
  pub ref_count : Tree → ℕ
  ref_count (Tree.Held v) = 0
  ref_count (Tree.Var x) = 0
  ref_count (Tree.Lambda head body) = ref_count body
  ref_count (Tree.Let x bound body) = ref_count bound + ref_count body
  ref_count (Tree.Do parts) = all_ref_count parts
  ref_count (Tree.If test then_part else_part) = ref_count test + ref_count then_part + ref_count else_part
  ref_count (Tree.Async body) = ref_count body
  ref_count (Tree.Unprotected part) = ref_count part
  ref_count (Tree.One op part) = own_ref_count op + ref_count part
  ref_count (Tree.Two op left right) = ref_count left + ref_count right

  -- the same of the parts of a `do` form
  pub all_ref_count : Trees → ℕ
  all_ref_count Trees.None = 0
  all_ref_count (Trees.More part rest) = ref_count part + all_ref_count rest

-- a `ref` form has this number
abbrev pub HasRefNumber : Unary → ℕ → Type 0
HasRefNumber (unary.Ref sort number) k = number.0 ≡ k
HasRefNumber _ k = Unit {0}

unfoldable mutual
  -- the `ref` forms of a term have the numbers from this one on, in reading order
  pub IsNumbered : ℕ → Tree → Type 0
  IsNumbered k (Tree.Held v) = Unit {0}
  IsNumbered k (Tree.Var x) = Unit {0}
  IsNumbered k (Tree.Lambda head body) = IsNumbered k body
  IsNumbered k (Tree.Let x bound body) = IsNumbered k bound × IsNumbered (k + ref_count bound) body
  IsNumbered k (Tree.Do parts) = AreNumbered k parts
  IsNumbered k (Tree.If test then_part else_part) =
      IsNumbered k test × IsNumbered (k + ref_count test) then_part × IsNumbered (k + ref_count test + ref_count then_part) else_part
  IsNumbered k (Tree.Async body) = IsNumbered k body
  IsNumbered k (Tree.Unprotected part) = IsNumbered k part
  IsNumbered k (Tree.One op part) = HasRefNumber op k × IsNumbered (k + own_ref_count op) part
  IsNumbered k (Tree.Two op left right) = IsNumbered k left × IsNumbered (k + ref_count left) right

  pub AreNumbered : ℕ → Trees → Type 0
  AreNumbered k Trees.None = Unit {0}
  AreNumbered k (Trees.More part rest) = IsNumbered k part × AreNumbered (k + ref_count part) rest

HasRefNumber-prop : (op : Unary) (k : ℕ) → IsProp (HasRefNumber op k)
HasRefNumber-prop (unary.Ref sort number) k = ℕ_set number.0 k
HasRefNumber-prop _ k = Unit-prop

mutual
  unfolding IsNumbered AreNumbered

  -- a term is numbered in one way
  pub IsNumbered-prop : (k : ℕ) (t : Tree) → IsProp (IsNumbered k t)
  IsNumbered-prop k (Tree.Held v) = Unit-prop
  IsNumbered-prop k (Tree.Var x) = Unit-prop
  IsNumbered-prop k (Tree.Lambda head body) = IsNumbered-prop k body
  IsNumbered-prop k (Tree.Let x bound body) = ×_prop (IsNumbered-prop k bound) (IsNumbered-prop (k + ref_count bound) body)
  IsNumbered-prop k (Tree.Do parts) = AreNumbered-prop k parts
  IsNumbered-prop k (Tree.If a b c) = ×₃_prop (IsNumbered-prop k a) (IsNumbered-prop (k + ref_count a) b) (IsNumbered-prop (k + ref_count a + ref_count b) c)
  IsNumbered-prop k (Tree.Async body) = IsNumbered-prop k body
  IsNumbered-prop k (Tree.Unprotected part) = IsNumbered-prop k part
  IsNumbered-prop k (Tree.One op part) = ×_prop (HasRefNumber-prop op k) (IsNumbered-prop (k + own_ref_count op) part)
  IsNumbered-prop k (Tree.Two op left right) = ×_prop (IsNumbered-prop k left) (IsNumbered-prop (k + ref_count left) right)

  AreNumbered-prop : (k : ℕ) (parts : Trees) → IsProp (AreNumbered k parts)
  AreNumbered-prop k Trees.None = Unit-prop
  AreNumbered-prop k (Trees.More part rest) = ×_prop (IsNumbered-prop k part) (AreNumbered-prop (k + ref_count part) rest)
