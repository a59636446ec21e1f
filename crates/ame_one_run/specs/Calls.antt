-- The calls of devices that a run makes, over all devices, in the order in which it makes them.
use Rattle.std.specs.Prelude.{◌≡◌, ◌≢◌, ℕ, ◌==◌, ℤ, List, [], ◌∷◌, map, filter, Some}
use Rattle.std.specs.Map.{lookup}
use Rattle.std.specs.BTreeMap.{is_at}
use Rattle.std.specs.Ordering.{nat_cmp}
use Rattle.ame_term.specs.Tree.{Val, Tree}
use Rattle.ame_term.specs.Frame.{Frame, plug_all}
use Rattle.ame_term.specs.State.{State}
use Rattle.ame_term.specs.declared.semantics.StepKind.{StepKind}
use Rattle.ame_term.specs.declared.semantics.Label.{Label}
use Rattle.ame_term.specs.declared.types.Unary.TheVariants as unary
use Rattle.ame_laws.specs.Rules.{Rule}
use Rattle.ame_device.specs.declared.told.Heard.{Heard}

-- one call: the device, the argument and the answer
pub record DeviceCall : Type 0 where
  pub device : ℕ
  pub heard : Heard

-- Labels lead from one state to another, each by a rule, and make these calls in order. A label that makes a call belongs to a
-- member whose redex is that call.
pub data RunsAsking : State → List Label → List DeviceCall → State → Type 0 where
  none : (s : State) → RunsAsking s [] [] s
  call : (s t u : State) (i : ℕ) (frames : List Frame) (asked : DeviceCall) (labels : List Label) (more : List DeviceCall)
      → lookup (is_at (nat_cmp i)) s.members ≡ Some (plug_all frames (Tree.One (unary.Call asked.device) (Tree.Held (Val.Int asked.heard.argument))))
      → Rule s (Label.Free i (StepKind.Device asked.heard.answer)) t → RunsAsking t labels more u
      → RunsAsking s (Label.Free i (StepKind.Device asked.heard.answer) ∷ labels) (asked ∷ more) u
  other : (s t u : State) (label : Label) (labels : List Label) (more : List DeviceCall)
      → ((i : ℕ) (answer : ℤ) → label ≢ Label.Free i (StepKind.Device answer)) → Rule s label t → RunsAsking t labels more u
      → RunsAsking s (label ∷ labels) more u

-- the calls of device k
abbrev pub heard_by : ℕ → List DeviceCall → List Heard
heard_by k calls = map (λ asked. asked.heard) (filter (λ asked. asked.device == k) calls)
