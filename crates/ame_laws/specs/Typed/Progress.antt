-- The next thing that a member of a typed state can do, and the labels for it.
use Rattle.std.specs.Prelude.{◌≡◌, ℕ, Bool, true, false, ◌&&◌, IsTrue, List, [], Some, IsSome, is_none, is_some}
use Rattle.ame_term.specs.Tree.{Val, Tree}
use Rattle.ame_term.specs.Frame.{Frame, Side, plug_all, same_side, side_of}
use Rattle.ame_term.specs.Context.{Focus}
use Rattle.ame_term.specs.Act.{Act, act_of, making_on, makes}
use Rattle.ame_term.specs.Maps.{at}
use Rattle.ame_term.specs.State.{State, IsLegal, at_value, at_unprotected}
use Rattle.ame_term.specs.declared.semantics.StepKind.{StepKind}
use Rattle.ame_term.specs.declared.semantics.Label.{Label}
use Rattle.ame_term.specs.declared.types.Unary.TheVariants as unary
use Rattle.ame_laws.specs.Typed.StoreTyping.{StoreTyping}

-- `blockUntil false`, which has no rule
abbrev pub waiting : Tree
waiting = Tree.One unary.Block (Tree.Held (Val.Bool false))

-- a term waits: it has come to `blockUntil false`, outside of `unprotected`
abbrev pub Waits : Tree → Type 0
Waits term = (frames : List Frame) × (side_of frames ≡ Side.Protected) × (term ≡ plug_all frames waiting)

-- a label is legal
abbrev pub LeadsOn : State → Label → Type 0
LeadsOn s label = (t : State) × IsLegal s label t

-- a member that rests goes on: it becomes active, or makes a step or closes under `unprotected`
pub data GoesOn (s : State) (i : ℕ) : Type 0 where
  activates : LeadsOn s (Label.Activate i) → GoesOn s i
  steps : (kind : StepKind) → LeadsOn s (Label.Free i kind) → GoesOn s i
  closes : LeadsOn s (Label.Close i) → GoesOn s i

-- a state has no member left; or its active member waits; or some label is legal
pub data StateProgresses (s : State) : Type 0 where
  over : s.members ≡ [] → StateProgresses s
  waits : (i : ℕ) (term : Tree) → s.active ≡ Some i → at s.members i ≡ Some term → Waits term → StateProgresses s
  goes_on : (label : Label) → LeadsOn s label → StateProgresses s

-- where these locations are known, one that an act reads or writes is among them
abbrev pub IsKnown : (ℕ → Bool) → Act → Type 0
IsKnown known (Act.Reads l) = IsTrue (known l)
IsKnown known (Act.Peeks l) = IsTrue (known l)
IsKnown known (Act.Writes l v) = IsTrue (known l)
IsKnown known _ = Unit {0}

-- a kind of step makes the act on that side of `unprotected`, at locations that are known
abbrev pub CanBeMade : (ℕ → Bool) → Side → Act → Type 0
CanBeMade known side act = IsSome (making_on side act) × IsKnown known act

-- A term is a value; or waits; or stands at `unprotected` with a value in it; or has a redex whose
-- act can be made in its place.
pub data Progresses (known : ℕ → Bool) : Focus → Type 0 where
  ends : (v : Val) → Progresses known (Focus.AtValue v)
  waits : Progresses known (Focus.AtRedex Side.Protected waiting)
  closes : (v : Val) → Progresses known (Focus.AtRedex Side.Protected (Tree.Unprotected (Tree.Held v)))
  steps : (side : Side) (redex : Tree) → CanBeMade known side (act_of redex) → Progresses known (Focus.AtRedex side redex)

-- whether the store has a location
abbrev pub is_stored : State → ℕ → Bool
is_stored s l = is_some (at s.store l)

-- whether a location has a type
abbrev pub is_cell : StoreTyping → ℕ → Bool
is_cell cells l = is_some (cells l)

-- whether the location that a step makes isn't in the store
abbrev pub is_fresh : State → StepKind → Bool
is_fresh s (StepKind.Alloc l) = is_none (at s.store l.0)
is_fresh s _ = true

-- whether a step of a kind, on the given side of `unprotected`, makes the act of the redex there
abbrev pub is_step : State → Side → Focus → StepKind → Bool
is_step s side (Focus.AtValue v) kind = false
is_step s side (Focus.AtRedex under redex) kind = same_side side under && (makes side kind (act_of redex) && is_fresh s kind)

-- whether a label is a next one of the active member
abbrev pub is_next : State → Focus → Label → Bool
is_next s focus Label.End = at_value focus
is_next s focus Label.Leave = at_unprotected focus
is_next s focus (Label.Step kind) = is_step s Side.Protected focus kind
is_next s focus _ = false
