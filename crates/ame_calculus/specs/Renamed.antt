-- Locations under other names.
use Rattle.std.specs.Prelude.{◌≡◌, ℕ, map, option_map}
use Rattle.ame_term.specs.Tree.{Val, Tree, Trees}
use Rattle.ame_term.specs.Maps.{at}
use Rattle.ame_term.specs.State.{State}
use Rattle.ame_term.specs.declared.semantics.StepKind.{StepKind}
use Rattle.ame_term.specs.declared.semantics.Label.{Label}
use Rattle.ame_journal.specs.declared.entry.Entry.{Entry}

unfoldable mutual
  -- a value, a term and the parts of a `do` form, with each location renamed
  pub renamed_value : (ℕ → ℕ) → Val → Val
  renamed_value f (Val.Loc l) = Val.Loc (f l)
  renamed_value f (Val.Fun head body) = Val.Fun head (renamed f body)
  renamed_value f (Val.Pair first second) = Val.Pair (renamed_value f first) (renamed_value f second)
  renamed_value f v = v

  pub renamed : (ℕ → ℕ) → Tree → Tree
  renamed f (Tree.Held v) = Tree.Held (renamed_value f v)
  renamed f (Tree.Var x) = Tree.Var x
  renamed f (Tree.Lambda head body) = Tree.Lambda head (renamed f body)
  renamed f (Tree.Let x bound body) = Tree.Let x (renamed f bound) (renamed f body)
  renamed f (Tree.Do parts) = Tree.Do (all_renamed f parts)
  renamed f (Tree.If test then_part else_part) = Tree.If (renamed f test) (renamed f then_part) (renamed f else_part)
  renamed f (Tree.Async body) = Tree.Async (renamed f body)
  renamed f (Tree.Unprotected part) = Tree.Unprotected (renamed f part)
  renamed f (Tree.One op part) = Tree.One op (renamed f part)
  renamed f (Tree.Two op left right) = Tree.Two op (renamed f left) (renamed f right)

  pub all_renamed : (ℕ → ℕ) → Trees → Trees
  all_renamed f Trees.None = Trees.None
  all_renamed f (Trees.More part rest) = Trees.More (renamed f part) (all_renamed f rest)

-- a renaming and the one that undoes it
pub record AreInverse (f g : ℕ → ℕ) : Type 0 where
  pub back : (l : ℕ) → g (f l) ≡ l
  pub forth : (l : ℕ) → f (g l) ≡ l

-- a step, a label and an entry that make the renamed locations
abbrev pub renamed_kind : (ℕ → ℕ) → StepKind → StepKind
renamed_kind f (StepKind.Alloc l) = StepKind.Alloc (record { 0 = f l.0 })
renamed_kind f kind = kind

abbrev pub renamed_label : (ℕ → ℕ) → Label → Label
renamed_label f (Label.Step kind) = Label.Step (renamed_kind f kind)
renamed_label f (Label.Free i kind) = Label.Free i (renamed_kind f kind)
renamed_label f label = label

abbrev pub renamed_entry : (ℕ → ℕ) → Entry → Entry
renamed_entry f entry = record entry { fresh = map f entry.fresh }

-- The state t is s with its locations renamed: the same members and contents, renamed, and the same output.
pub record IsRenamed (f : ℕ → ℕ) (s t : State) : Type 0 where
  pub store : (l : ℕ) → at t.store (f l) ≡ option_map (renamed_value f) (at s.store l)
  pub members : (i : ℕ) → at t.members i ≡ option_map (renamed f) (at s.members i)
  pub active : t.active ≡ s.active
  pub output : t.output ≡ s.output
  pub next : t.next ≡ s.next
