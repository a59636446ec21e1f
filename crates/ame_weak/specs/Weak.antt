-- The weak semantics: unprotected code steps between the steps of the active fragment, whose prints and
-- new members are held back until it leaves or ends. The interleaving is after Abadi, Birrell, Harris and
-- Isard (POPL 2008); what is held back, and that `peek` waits until nothing is active, are ours.
use Rattle.std.specs.Prelude.{◌≡◌, ℕ, ◌+◌, ◌==◌, ℤ, Bool, true, false, not, ◌&&◌, List, [], ◌∷◌, ◌++◌, length}
use Rattle.std.specs.Prelude.{Option, Some, None, option_map, option_and_then, if◌then◌else◌}
use Rattle.ame_term.specs.Tree.{Tree, unit_tree}
use Rattle.ame_term.specs.Frame.{Side, same_side}
use Rattle.ame_term.specs.Context.{Focus, focus, fill}
use Rattle.ame_term.specs.Act.{Act, act_of, makes}
use Rattle.ame_term.specs.Maps.{at, change}
use Rattle.ame_term.specs.State.{State, start, performed, reduce, closed, after}
use Rattle.ame_term.specs.declared.semantics.StepKind.{StepKind}
use Rattle.ame_term.specs.declared.semantics.Label.{Label}
use Rattle.ame_journal.specs.Calls.{label_call, of_next}
use Rattle.ame_machine.specs.Run.AgreesWith.{with_members}

-- A strong state, and what its active fragment holds back: integers that it printed and new members, each in order.
pub record Weak : Type 0 where
  pub state : State
  pub prints : List ℤ
  pub spawns : List Tree

-- a state whose fragment holds nothing back
abbrev pub holding_none : State → Weak
holding_none s = record { state = s; prints = []; spawns = [] }

-- with another state
abbrev pub moved : Weak → State → Weak
moved w s = record { state = s; prints = w.prints; spawns = w.spawns }

abbrev pub holds_none : List ℤ → List Tree → Bool
holds_none [] [] = true
holds_none _ _ = false

-- says if nothing is held back
abbrev pub holds_nothing : Weak → Bool
holds_nothing w = holds_none w.prints w.spawns

-- the weak state in which a program begins
abbrev pub weak_start : Tree → Weak
weak_start program = holding_none (start program)

-- Steps of the active fragment

-- an act that a kind of step makes; a print and a new member are held
abbrev pub held_performed : StepKind → Act → Weak → Option (Tree × Weak)
held_performed kind (Act.Spawns body) w = Some (unit_tree, record w { spawns = w.spawns ++ body ∷ [] })
held_performed kind (Act.Prints n) w = Some (unit_tree, record w { prints = w.prints ++ n ∷ [] })
held_performed kind act w = option_map (λ made. (made.0, moved w made.1)) (performed kind act w.state)

-- the result of a term's redex in protected code, and the weak state after it
abbrev pub held_at : StepKind → Focus → Weak → Option (Tree × Weak)
held_at kind (Focus.AtValue v) w = None
held_at kind (Focus.AtRedex under redex) w =
    if same_side Side.Protected under && makes Side.Protected kind (act_of redex) then held_performed kind (act_of redex) w else None

-- the weak state in which a member's redex was rewritten, after its effect
abbrev pub held_rewritten : ℕ → Tree → Tree × Weak → Weak
held_rewritten i term after_effect =
    let w = after_effect.1 in moved w (record w.state { members = change w.state.members i (fill term after_effect.0) })

-- a step of the active member
abbrev pub held_step : StepKind → ℕ → Weak → Option Weak
held_step kind i w = option_and_then (λ term. option_map (held_rewritten i term) (held_at kind (focus term) w)) (at w.state.members i)

-- with another output
abbrev pub with_output : State → List ℤ → State
with_output s output = record s { output = output }

-- with new members, which take the next numbers in order
abbrev pub all_joined : State → List Tree → State
all_joined s bodies = record s { members = with_members s.members s.next bodies; next = s.next + length bodies }

-- The effects that are held take place: prints come after the output, and new members get the next numbers in order.
abbrev pub with_held_released : Weak → Weak
with_held_released w = holding_none (all_joined (with_output w.state (w.state.output ++ w.prints)) w.spawns)

-- Labels

-- says if a member rests, though another one may be active
abbrev pub is_resting : Option ℕ → ℕ → Bool
is_resting None i = true
is_resting (Some j) i = not (j == i)

-- says if unprotected code may make a step of a kind: it doesn't peek while a fragment is active
abbrev pub may_free : Option ℕ → StepKind → Bool
may_free (Some j) StepKind.Peek = false
may_free _ kind = true

-- The weak state after a label, if the label is legal.
unfoldable pub weak_after : Weak → Label → Option Weak
weak_after w (Label.Activate i) = if holds_nothing w then option_map (moved w) (after w.state (Label.Activate i)) else None
weak_after w (Label.Step kind) = option_and_then (λ i. held_step kind i w) w.state.active
weak_after w Label.Leave = option_map (λ s. with_held_released (moved w s)) (after w.state Label.Leave)
weak_after w Label.End = option_map (λ s. with_held_released (moved w s)) (after w.state Label.End)
weak_after w (Label.Free i kind) =
    if is_resting w.state.active i && may_free w.state.active kind then option_map (moved w) (reduce Side.Unprotected kind i w.state) else None
weak_after w (Label.Close i) = if is_resting w.state.active i then option_map (moved w) (closed i w.state) else None

-- the weak state after a list of labels, each legal in the state that those before it give
abbrev pub weak_run : Weak → List Label → Option Weak
weak_run w [] = Some w
weak_run w (label ∷ labels) = option_and_then (λ v. weak_run v labels) (weak_after w label)

-- a weak run of a program
abbrev pub IsWeakRun : Tree → List Label → Weak → Type 0
IsWeakRun program labels w = weak_run (weak_start program) labels ≡ Some w

-- the calls of device k along labels, in order
abbrev pub weak_calls : ℕ → Weak → List Label → List (ℤ × ℤ)
weak_calls k w [] = []
weak_calls k w (label ∷ labels) = label_call k w.state label ++ of_next (λ v. weak_calls k v labels) (weak_after w label)
