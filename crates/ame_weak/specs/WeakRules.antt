-- The rules of the weak semantics, a constructor for each case. They share trees, frames, labels and the records of the two states with
-- `weak_after`, which computes the same, and no function. `Rule` and `Steps` are those of the strong semantics; `Steps` doesn't say who
-- is active.
use Rattle.std.specs.Prelude.{◌≡◌, ◌≢◌, ℕ, ◌+◌, ℤ, List, [], ◌∷◌, ◌++◌, Some, None}
use Rattle.std.specs.Map.{lookup, set_value}
use Rattle.std.specs.BTreeMap.{insert_entry, is_at}
use Rattle.std.specs.Ordering.{nat_cmp}
use Rattle.ame_term.specs.Tree.{Val, Tree}
use Rattle.ame_term.specs.Frame.{Frame, Side, plug_all, side_of}
use Rattle.ame_term.specs.State.{State}
use Rattle.ame_term.specs.declared.semantics.StepKind.{StepKind}
use Rattle.ame_term.specs.declared.semantics.Label.{Label}
use Rattle.ame_term.specs.declared.types.Unary.TheVariants as unary
use Rattle.ame_laws.specs.Rules.{Rule, Steps, Begins}
use Rattle.ame_weak.specs.Weak.{Weak}

-- Terms join members, each under the next number, in order.
pub data Joins : List (ℕ × Tree) → ℕ → List Tree → List (ℕ × Tree) → ℕ → Type 0 where
  none : (members : List (ℕ × Tree)) (next : ℕ) → Joins members next [] members next
  more : (members later : List (ℕ × Tree)) (next end : ℕ) (body : Tree) (bodies : List Tree)
      → Joins (insert_entry nat_cmp members next body) (next + 1) bodies later end → Joins members next (body ∷ bodies) later end

-- The effects that a fragment held take place in the state s that it leaves: its prints come after the output, and its members join. Nothing
-- is held then.
pub record Releases (s : State) (prints : List ℤ) (spawns : List Tree) (v : Weak) : Type 0 where
  pub store : v.state.store ≡ s.store
  pub active : v.state.active ≡ s.active
  pub output : v.state.output ≡ s.output ++ prints
  pub members : Joins s.members s.next spawns v.state.members v.state.next
  pub no_prints : v.prints ≡ []
  pub no_spawns : v.spawns ≡ []

-- The rules. A member becomes active if nothing is held. A print of the active member and a new member that it makes are held; its other
-- steps are as in the strong semantics. While it is active, each other member may make its steps under `unprotected`, and close, but not
-- peek.
pub data WeakRule (w : Weak) : Label → Weak → Type 0 where
  activates : (i : ℕ) (s : State) → w.prints ≡ [] → w.spawns ≡ [] → Rule w.state (Label.Activate i) s → WeakRule w (Label.Activate i) (record w { state = s })
  steps : (i : ℕ) (kind : StepKind) (s : State) → w.state.active ≡ Some i → kind ≢ StepKind.Print → kind ≢ StepKind.Spawn
      → Steps w.state Side.Protected kind i s → WeakRule w (Label.Step kind) (record w { state = s })
  prints : (i : ℕ) (frames : List Frame) (n : ℤ) → w.state.active ≡ Some i
      → lookup (is_at (nat_cmp i)) w.state.members ≡ Some (plug_all frames (Tree.One unary.Print (Tree.Held (Val.Int n)))) → side_of frames ≡ Side.Protected
      → WeakRule w (Label.Step StepKind.Print) (record {
        state = record w.state { members = set_value (is_at (nat_cmp i)) w.state.members (plug_all frames (Tree.Held Val.Unit)) };
        prints = w.prints ++ n ∷ [];
        spawns = w.spawns;
      })
  spawns : (i : ℕ) (frames : List Frame) (body : Tree) → w.state.active ≡ Some i
      → lookup (is_at (nat_cmp i)) w.state.members ≡ Some (plug_all frames (Tree.Async body)) → side_of frames ≡ Side.Protected
      → WeakRule w (Label.Step StepKind.Spawn) (record {
        state = record w.state { members = set_value (is_at (nat_cmp i)) w.state.members (plug_all frames (Tree.Held Val.Unit)) };
        prints = w.prints;
        spawns = w.spawns ++ body ∷ [];
      })
  leaves : (s : State) (v : Weak) → Rule w.state Label.Leave s → Releases s w.prints w.spawns v → WeakRule w Label.Leave v
  ends : (s : State) (v : Weak) → Rule w.state Label.End s → Releases s w.prints w.spawns v → WeakRule w Label.End v
  frees : (i : ℕ) (kind : StepKind) (s : State) → w.state.active ≢ Some i → (kind ≡ StepKind.Peek → w.state.active ≡ None)
      → Steps w.state Side.Unprotected kind i s → WeakRule w (Label.Free i kind) (record w { state = s })
  closes : (i : ℕ) (frames : List Frame) (v : Val) → w.state.active ≢ Some i
      → lookup (is_at (nat_cmp i)) w.state.members ≡ Some (plug_all frames (Tree.Unprotected (Tree.Held v))) → side_of frames ≡ Side.Protected
      → WeakRule w (Label.Close i)
      (record w { state = record w.state { members = set_value (is_at (nat_cmp i)) w.state.members (plug_all frames (Tree.Held v)) } })

-- The weak state in which a program begins: the strong one, and nothing is held.
pub record WeakBegins (program : Tree) (w : Weak) : Type 0 where
  pub state : Begins program w.state
  pub prints : w.prints ≡ []
  pub spawns : w.spawns ≡ []

-- Labels, each by a rule, lead from one weak state to another.
pub data WeakRuns : Weak → List Label → Weak → Type 0 where
  none : (w : Weak) → WeakRuns w [] w
  more : (w v u : Weak) (label : Label) (labels : List Label) → WeakRule w label v → WeakRuns v labels u → WeakRuns w (label ∷ labels) u
