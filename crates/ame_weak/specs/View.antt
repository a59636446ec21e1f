-- The weak state that a `WeakState` holds.
use Rattle.std.specs.Prelude.{map}
use Rattle.ame_term.specs.View.{tree_of}
use Rattle.ame_strong.specs.View.{state_of}
use Rattle.ame_weak.specs.Weak.{Weak}
use Rattle.ame_weak.specs.declared.state.WeakState.{WeakState}

-- the strong state, and the prints and the new members that are held
abbrev pub weak_of : WeakState → Weak
weak_of w = record { state = state_of w.strong; prints = w.prints.items; spawns = map tree_of w.spawns.items }
