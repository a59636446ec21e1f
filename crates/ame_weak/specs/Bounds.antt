-- The bounds within which a step is made.
use Rattle.std.specs.Prelude.{◌≡◌, ℕ, zero, suc, ◌+◌, min, Bool, false, ◌||◌, nat_lt, List, [], ◌∷◌, Option, Some, None, is_some, if◌then◌else◌, ⊤}
use Rattle.ame_term.specs.Tree.{Tree, Trees, is_held}
use Rattle.ame_term.specs.Frame.{Side}
use Rattle.ame_term.specs.Context.{Focus, focus}
use Rattle.ame_term.specs.Height.{max_height, height}
use Rattle.ame_term.specs.Maps.{at}
use Rattle.ame_term.specs.declared.semantics.Label.{Label}
use Rattle.ame_journal.specs.Replayed.{value_height, coming_height, has_such}
use Rattle.ame_strong.specs.Pool.{pool, active_tree}
use Rattle.ame_weak.specs.Weak.{Weak, weak_after}

-- the greatest number of frames around a redex that is reduced
abbrev pub max_frames : ℕ
max_frames = 1000

abbrev pub unheld_part : Tree → Option Tree
unheld_part part = if is_held part then None else Some part

-- the part of a form that is evaluated next, if it is no redex
abbrev pub next_part : Tree → Option Tree
next_part (Tree.Let x bound body) = unheld_part bound
next_part (Tree.Do Trees.None) = None
next_part (Tree.Do (Trees.More part rest)) = unheld_part part
next_part (Tree.If test then_part else_part) = unheld_part test
next_part (Tree.Unprotected part) = unheld_part part
next_part (Tree.One op part) = unheld_part part
next_part (Tree.Two op left right) = if is_held left then unheld_part right else Some left
next_part _ = None

-- says if the redex of a term has more than n frames around it
unfoldable pub is_deeper : ℕ → Tree → Bool
is_deeper zero t = is_some (next_part t)
is_deeper (suc n) t = elim (next_part t) [ None ↦ false | Some part ↦ is_deeper n part ]

-- the height of a term that is a value, up to the first that is nested too deeply
abbrev pub capped_height : Tree → Option ℕ
capped_height (Tree.Held v) = Some (min (height v) (max_height + 1))
capped_height _ = None

-- says if a redex would become a value nested too deeply
abbrev pub is_tall_at : Focus → Bool
is_tall_at (Focus.AtValue v) = false
is_tall_at (Focus.AtRedex side redex) = nat_lt max_height (value_height redex)

-- says if a term is out of the bounds
abbrev pub is_beyond : Tree → Bool
is_beyond term = is_deeper max_frames term || is_tall_at (focus term)

abbrev pub IsTermWithinBounds : Option Tree → Type 0
IsTermWithinBounds None = ⊤
IsTermWithinBounds (Some term) = is_beyond term ≡ false

-- the term whose step a label makes is within the bounds
abbrev pub IsWithinBounds : Weak → Label → Type 0
IsWithinBounds w (Label.Step kind) = IsTermWithinBounds (active_tree w.state)
IsWithinBounds w (Label.Free i kind) = IsTermWithinBounds (at (pool w.state) i)
IsWithinBounds w _ = ⊤

-- each term whose step a label makes is within the bounds
abbrev pub AreWithinBounds : Weak → List Label → Type 0
AreWithinBounds w [] = ⊤
AreWithinBounds w (label ∷ labels) = IsWithinBounds w label × ((v : Weak) → weak_after w label ≡ Some v → AreWithinBounds v labels)

-- Heights without depths

-- says if a term is about to become a value nested too deeply, on a side
abbrev pub grows_tall : Side → Tree → Bool
grows_tall side term = nat_lt max_height (coming_height side (focus term))

-- says so for the active member in protected code, or for a member of the pool under `unprotected`
abbrev pub is_growing_tall : Weak → Option ℕ → Bool
is_growing_tall w None = has_such (grows_tall Side.Protected) (active_tree w.state)
is_growing_tall w (Some i) = has_such (grows_tall Side.Unprotected) (at (pool w.state) i)
