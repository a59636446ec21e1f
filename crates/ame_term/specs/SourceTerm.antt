-- The properties that reading a text ensures of its term.
use Rattle.std.specs.Prelude.{ℕ, ◌+◌, ◌==◌, Bool, false, ◌||◌, IsTrue, List, [], ◌∷◌, Option, Some, None}
use Rattle.ame_term.specs.Tree.{OwnName, Val, Tree, Trees}

unfoldable mutual
  -- the number of nodes of a term; a held value is one
  pub nodes : Tree → ℕ
  nodes (Tree.Held v) = 1
  nodes (Tree.Var x) = 1
  nodes (Tree.Lambda head body) = 1 + nodes body
  nodes (Tree.Let x bound body) = 1 + nodes bound + nodes body
  nodes (Tree.Do parts) = 1 + all_nodes parts
  nodes (Tree.If test then_part else_part) = 1 + nodes test + nodes then_part + nodes else_part
  nodes (Tree.Async body) = 1 + nodes body
  nodes (Tree.Unprotected part) = 1 + nodes part
  nodes (Tree.One op part) = 1 + nodes part
  nodes (Tree.Two op left right) = 1 + nodes left + nodes right

  -- the number of nodes of the parts of a `do` form
  pub all_nodes : Trees → ℕ
  all_nodes Trees.None = 0
  all_nodes (Trees.More part rest) = nodes part + all_nodes rest

-- a value that is a constant
abbrev pub IsConstant : Val → Type 0
IsConstant Val.Unit = Unit {0}
IsConstant (Val.Bool b) = Unit {0}
IsConstant (Val.Int n) = Unit {0}
IsConstant (Val.Loc l) = ⊥
IsConstant (Val.Fun head body) = ⊥
IsConstant (Val.Pair first second) = ⊥

-- two parts or more
abbrev pub HasTwo : Trees → Type 0
HasTwo Trees.None = ⊥
HasTwo (Trees.More part Trees.None) = ⊥
HasTwo (Trees.More part (Trees.More next rest)) = Unit {0}

unfoldable mutual
  -- a term as texts spell them: it holds constants alone, and each `do` has two parts or more
  pub IsSourceTerm : Tree → Type 0
  IsSourceTerm (Tree.Held v) = IsConstant v
  IsSourceTerm (Tree.Var x) = Unit {0}
  IsSourceTerm (Tree.Lambda head body) = IsSourceTerm body
  IsSourceTerm (Tree.Let x bound body) = IsSourceTerm bound × IsSourceTerm body
  IsSourceTerm (Tree.Do parts) = HasTwo parts × AreSourceTerms parts
  IsSourceTerm (Tree.If test then_part else_part) = IsSourceTerm test × IsSourceTerm then_part × IsSourceTerm else_part
  IsSourceTerm (Tree.Async body) = IsSourceTerm body
  IsSourceTerm (Tree.Unprotected part) = IsSourceTerm part
  IsSourceTerm (Tree.One op part) = IsSourceTerm part
  IsSourceTerm (Tree.Two op left right) = IsSourceTerm left × IsSourceTerm right

  pub AreSourceTerms : Trees → Type 0
  AreSourceTerms Trees.None = Unit {0}
  AreSourceTerms (Trees.More part rest) = IsSourceTerm part × AreSourceTerms rest

-- the names bound in the body of a function form
abbrev pub names_within : Option OwnName → ℕ → List ℕ → List ℕ
names_within None param names = param ∷ names
names_within (Some own) param names = param ∷ own.name ∷ names

-- whether a name is among others
abbrev pub is_name_of : List ℕ → ℕ → Bool
is_name_of [] x = false
is_name_of (y ∷ names) x = (y == x) || is_name_of names x

unfoldable mutual
  -- each name stands within a form that binds it, or is among these; a held function is closed
  pub IsBound : List ℕ → Tree → Type 0
  IsBound names (Tree.Held v) = IsClosedValue v
  IsBound names (Tree.Var x) = IsTrue (is_name_of names x)
  IsBound names (Tree.Lambda head body) = IsBound (names_within head.own head.param names) body
  IsBound names (Tree.Let x bound body) = IsBound names bound × IsBound (x ∷ names) body
  IsBound names (Tree.Do parts) = AllBound names parts
  IsBound names (Tree.If test then_part else_part) = IsBound names test × IsBound names then_part × IsBound names else_part
  IsBound names (Tree.Async body) = IsBound names body
  IsBound names (Tree.Unprotected part) = IsBound names part
  IsBound names (Tree.One op part) = IsBound names part
  IsBound names (Tree.Two op left right) = IsBound names left × IsBound names right

  pub AllBound : List ℕ → Trees → Type 0
  AllBound names Trees.None = Unit {0}
  AllBound names (Trees.More part rest) = IsBound names part × AllBound names rest

  -- a value without free names
  pub IsClosedValue : Val → Type 0
  IsClosedValue Val.Unit = Unit {0}
  IsClosedValue (Val.Bool b) = Unit {0}
  IsClosedValue (Val.Int n) = Unit {0}
  IsClosedValue (Val.Loc l) = Unit {0}
  IsClosedValue (Val.Fun head body) = IsBound (names_within head.own head.param []) body
  IsClosedValue (Val.Pair first second) = IsClosedValue first × IsClosedValue second
