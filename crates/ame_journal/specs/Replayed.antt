-- The state of a replay, and the facts about a member in it.
use Rattle.std.specs.Prelude.{ℕ, ◌+◌, ◌==◌, Bool, true, false, not, List, [], ◌∷◌, filter, Option, Some, None, if◌then◌else◌}
use Rattle.std.specs.List.{list_any}
use Rattle.ame_term.specs.Tree.{Val, Tree}
use Rattle.ame_term.specs.Height.{height, max_height}
use Rattle.ame_term.specs.Frame.{Side, same_side, side_told}
use Rattle.ame_term.specs.Context.{Focus, focus}
use Rattle.ame_term.specs.Maps.{at}
use Rattle.ame_term.specs.State.{State, start, at_unprotected}
use Rattle.ame_term.specs.declared.types.Unary.TheVariants as unary
use Rattle.ame_term.specs.declared.types.Binary.TheVariants as binary

-- The state, and the members that are inside: each from the `Ran` entry by which it came to
-- `unprotected` until it closes.
pub record Replayed : Type 0 where
  pub state : State
  pub inside : List ℕ

-- nothing is inside
abbrev pub resting : State → Replayed
resting s = record { state = s; inside = [] }

-- the state in which a program begins
abbrev pub begun_at : Tree → Replayed
begun_at program = resting (start program)

-- whether a member is inside
abbrev pub is_inside : Replayed → ℕ → Bool
is_inside r i = list_any (λ j. j == i) r.inside

-- with another state, and with the member inside, or no longer inside
abbrev pub entering : Replayed → ℕ → State → Replayed
entering r i s = record { state = s; inside = i ∷ r.inside }

abbrev pub staying : Replayed → State → Replayed
staying r s = record { state = s; inside = r.inside }

abbrev pub leaving : Replayed → ℕ → State → Replayed
leaving r i s = record { state = s; inside = filter (λ j. not (j == i)) r.inside }

-- Members

-- whether there is one that passes a test
abbrev pub has_such : {X : Type 0} → (X → Bool) → Option X → Bool
has_such test None = false
has_such test (Some x) = test x

-- whether a member stands at `unprotected` or under it
abbrev pub is_at_unprotected : ℕ → State → Bool
is_at_unprotected i s = has_such (λ term. at_unprotected (focus term)) (at s.members i)

-- the side on which a member makes its next steps
abbrev pub side_at : ℕ → State → Side
side_at i s = side_told (is_at_unprotected i s)

-- whether a term stands, outside of `unprotected`, at a condition that is false
abbrev pub is_false_condition : Focus → Bool
is_false_condition (Focus.AtRedex Side.Protected (Tree.One unary.Block (Tree.Held (Val.Bool false)))) = true
is_false_condition _ = false

-- whether a member has come to such a condition
abbrev pub is_failing : ℕ → State → Bool
is_failing i s = has_such (λ term. is_false_condition (focus term)) (at s.members i)

-- the height of the value that a function form or a pair of values is about to become
abbrev pub value_height : Tree → ℕ
value_height (Tree.Lambda head body) = height (Val.Fun head body)
value_height (Tree.Two binary.Pair (Tree.Held first) (Tree.Held second)) = height (Val.Pair first second)
value_height _ = 0

-- the same of the redex of a term, if it stands on this side
abbrev pub coming_height : Side → Focus → ℕ
coming_height side (Focus.AtValue v) = 0
coming_height side (Focus.AtRedex under redex) = if same_side side under then value_height redex else 0

-- whether a member is about to become a value that is higher by one than any may be, on this side
abbrev pub is_tall : Side → ℕ → State → Bool
is_tall side i s = has_such (λ term. coming_height side (focus term) == max_height + 1) (at s.members i)
