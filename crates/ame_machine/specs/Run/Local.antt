-- A fragment's run by itself. What it takes from a store or from a device are its inputs, and what it
-- hands out is held. On both sides of `unprotected` it is the same function; in unprotected code
-- prints, new members and calls take effect at once, so each of these takes an input too.
use Rattle.std.specs.Prelude.{ℕ, zero, suc, ℤ, List, [], ◌∷◌, ◌++◌, Option, Some, None, option_map, option_and_then, is_none, if◌then◌else◌}
use Rattle.ame_term.specs.Tree.{Val, Tree, unit_tree}
use Rattle.ame_term.specs.Frame.{Side, same_side}
use Rattle.ame_term.specs.Context.{Focus, focus, fill}
use Rattle.ame_term.specs.Act.{Act, act_of}
use Rattle.ame_term.specs.Maps.{at, put}
use Rattle.ame_journal.specs.Replay.{or_else}

-- The place of a run: its term; the inputs that it hasn't used; what it printed, its new members and its
-- new locations, each in order; the answer of the device that it called. And its footprint, newest first:
-- each location that it hadn't set and the value taken there (`seen`); each value taken at one that it had set,
-- and that value (`own`); each new location, and what was set there before (`made`). `sets` has what
-- it set last at each location.
pub record LocalState : Type 0 where
  pub term : Tree
  pub inputs : List Val
  pub prints : List ℤ
  pub spawns : List Tree
  pub fresh : List ℕ
  pub answer : Option ℤ
  pub seen : List (ℕ × Val)
  pub own : List (Val × Val)
  pub made : List (ℕ × Option Val)
  pub sets : List (ℕ × Val)

-- the beginning of a run
abbrev pub begun_with : Tree → List Val → LocalState
begun_with term inputs =
    record { term = term; inputs = inputs; prints = []; spawns = []; fresh = []; answer = None; seen = []; own = []; made = []; sets = [] }

-- Effects

-- a value is taken at a location after this was set
abbrev pub taken_where : Option Val → ℕ → Val → LocalState → LocalState
taken_where None l v p = record p { seen = (l, v) ∷ p.seen }
taken_where (Some w) l v p = record p { own = (v, w) ∷ p.own }

-- a value is taken from a location
abbrev pub took : ℕ → Val → LocalState → LocalState
took l v p = taken_where (at p.sets l) l v p

-- a value is set at a location
abbrev pub set_at : ℕ → Val → LocalState → LocalState
set_at l v p = record p { sets = put p.sets l v }

-- a value is set at a new location
abbrev pub made_at : ℕ → Val → LocalState → LocalState
made_at l v p = record p { fresh = p.fresh ++ l ∷ []; made = (l, at p.sets l) ∷ p.made; sets = put p.sets l v }

-- a new member is held
abbrev pub spawned : Tree → LocalState → LocalState
spawned body p = record p { spawns = p.spawns ++ body ∷ [] }

-- an integer is held that was printed
abbrev pub printed : ℤ → LocalState → LocalState
printed n p = record p { prints = p.prints ++ n ∷ [] }

-- Steps

-- an act that takes no input
abbrev pub acts_alone : Act → Side → LocalState → Option (Tree × LocalState)
acts_alone (Act.Becomes term) side p = Some (term, p)
acts_alone (Act.Spawns body) Side.Protected p = Some (unit_tree, spawned body p)
acts_alone (Act.Prints n) Side.Protected p = Some (unit_tree, printed n p)
acts_alone Act.Passes Side.Protected p = Some (unit_tree, p)
acts_alone _ _ p = None

-- An act with its input: a value that is taken, a new location, an answer, or the unit, which says
-- that a write, a print or a new member was accepted.
abbrev pub fed : Act → Side → Val → LocalState → Option (Tree × LocalState)
fed (Act.Allocates sort number v) side (Val.Loc l) p = Some (Tree.Held (Val.Loc l), made_at l v p)
fed (Act.Reads l) side v p = Some (Tree.Held v, took l v p)
fed (Act.Peeks l) Side.Unprotected v p = Some (Tree.Held v, took l v p)
fed (Act.Writes l v) side Val.Unit p = Some (unit_tree, set_at l v p)
fed (Act.Spawns body) Side.Unprotected Val.Unit p = Some (unit_tree, spawned body p)
fed (Act.Prints n) Side.Unprotected Val.Unit p = Some (unit_tree, printed n p)
fed (Act.Calls device n) Side.Unprotected (Val.Int answer) p = Some (Tree.Held (Val.Int answer), record p { answer = Some answer })
fed _ _ _ p = None

-- an act with the next input
abbrev pub fed_next : Act → Side → List Val → LocalState → Option (Tree × LocalState)
fed_next act side [] p = None
fed_next act side (v ∷ inputs) p = fed act side v (record p { inputs = inputs })

-- the result of an act, and the place of the run then
abbrev pub acted : Act → Side → LocalState → Option (Tree × LocalState)
acted act side p = or_else (acts_alone act side p) (fed_next act side p.inputs p)

-- the same of the redex of a term; it must stand on the given side
abbrev pub acted_at : Side → Focus → LocalState → Option (Tree × LocalState)
acted_at side (Focus.AtValue v) p = None
acted_at side (Focus.AtRedex under redex) p = if same_side side under then acted (act_of redex) side p else None

-- with the redex of a term rewritten
abbrev pub refilled_in : Tree → Tree × LocalState → LocalState
refilled_in term made = record made.1 { term = fill term made.0 }

-- One step, if there is one: a redex on the side, with its input if it takes one. With the answer of a
-- device the run is over, since a call is the last step of an entry.
unfoldable pub one_step : Side → LocalState → Option LocalState
one_step side p = if is_none p.answer then option_map (refilled_in p.term) (acted_at side (focus p.term) p) else None

-- where n steps lead
abbrev pub goes : Side → LocalState → ℕ → Option LocalState
goes side p zero = Some p
goes side p (suc n) = option_and_then (one_step side) (goes side p n)

-- where n steps of a term lead that is given these inputs
abbrev pub local : Side → Tree → List Val → ℕ → Option LocalState
local side term inputs n = goes side (begun_with term inputs) n

-- the same place of a run that has these inputs left
abbrev pub with_inputs : List Val → LocalState → LocalState
with_inputs inputs p = record p { inputs = inputs }

-- the same place of a run that has more inputs
abbrev pub given_more : List Val → LocalState → LocalState
given_more more p = record p { inputs = p.inputs ++ more }
