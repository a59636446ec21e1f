-- Runs from a state to a false condition, to a call of a device, and to a value nested too deeply.
use Rattle.std.specs.Prelude.{◌≡◌, ◌≢◌, ◌⊎◌, ℕ, ◌+◌, ℤ, false, List, [], ◌∷◌, map, replicate, Some}
use Rattle.std.specs.Map.{lookup}
use Rattle.std.specs.BTreeMap.{is_at}
use Rattle.std.specs.Ordering.{nat_cmp}
use Rattle.ame_term.specs.Tree.{Val, Tree}
use Rattle.ame_term.specs.Frame.{Frame, Side, plug_all, side_of}
use Rattle.ame_term.specs.Height.{height, max_height}
use Rattle.ame_term.specs.State.{State}
use Rattle.ame_term.specs.declared.semantics.StepKind.{StepKind}
use Rattle.ame_term.specs.declared.semantics.Label.{Label}
use Rattle.ame_term.specs.declared.types.Unary.TheVariants as unary
use Rattle.ame_laws.specs.Rules.{Becomes, Runs}

-- member i becomes active and comes to a condition that is false
pub record ReachesFalse (s : State) (i : ℕ) : Type 0 where
  pub kinds : List StepKind
  pub t : State
  pub runs : Runs s (Label.Activate i ∷ map Label.Step kinds) t
  pub frames : List Frame
  pub stands : lookup (is_at (nat_cmp i)) t.members ≡ Some (plug_all frames (Tree.One unary.Block (Tree.Held (Val.Bool false))))
  pub outside : side_of frames ≡ Side.Protected

-- members are left, and each of them fails
pub record IsBlockedIn (s : State) : Type 0 where
  pub left : s.members ≢ []
  pub each : (i : ℕ) (term : Tree) → lookup (is_at (nat_cmp i)) s.members ≡ Some term → ReachesFalse s i

-- a member comes to a call of the device, by steps under `unprotected` that its term alone determines
pub record ComesToCallOf (s : State) (device : ℕ) : Type 0 where
  pub number : ℕ
  pub steps : ℕ
  pub t : State
  pub runs : Runs s (map (Label.Free number) (replicate steps StepKind.Local)) t
  pub frames : List Frame
  pub argument : ℤ
  pub stands : lookup (is_at (nat_cmp number)) t.members ≡ Some (plug_all frames (Tree.One (unary.Call device) (Tree.Held (Val.Int argument))))
  pub under : side_of frames ≡ Side.Unprotected

-- member i comes, in a fragment or by steps under `unprotected`, to a form whose value would be one higher than the limit
pub record GrowsTooHigh (s : State) (i : ℕ) : Type 0 where
  pub kinds : List StepKind
  pub t : State
  pub runs : Runs s (Label.Activate i ∷ map Label.Step kinds) t ⊎ Runs s (map (Label.Free i) kinds) t
  pub frames : List Frame
  pub redex : Tree
  pub stands : lookup (is_at (nat_cmp i)) t.members ≡ Some (plug_all frames redex)
  pub value : Val
  pub becomes : Becomes redex (Tree.Held value)
  pub high : height value ≡ max_height + 1
