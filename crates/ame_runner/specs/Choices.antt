-- The members that may go on.
use Rattle.std.specs.Prelude.{ℕ, zero, suc, ◌==◌, Bool, true, false, not, ◌&&◌, ◌||◌, List, [], ◌∷◌, ◌++◌, Option, Some, None, is_some, is_none, if◌then◌else◌}
use Rattle.ame_term.specs.Tree.{Tree}
use Rattle.ame_term.specs.Context.{focus}
use Rattle.ame_term.specs.Maps.{at}
use Rattle.ame_strong.specs.Pool.{pool}
use Rattle.ame_strong.specs.Next.{next_of}
use Rattle.ame_strong.specs.Told.{stands_inside}
use Rattle.ame_strong.specs.declared.next_label.Next.{Next}
use Rattle.ame_strong.specs.declared.next_label.Next.TheVariants as next
use Rattle.ame_weak.specs.Weak.{Weak}

-- whether a term stands under `unprotected`
abbrev pub is_term_inside : Option Tree → Bool
is_term_inside None = false
is_term_inside (Some term) = stands_inside (focus term)

-- A resting member may make its next label without becoming active: it closes, or steps under `unprotected`. No member
-- peeks there while a fragment is active.
abbrev pub is_free_next : Option ℕ → Bool → Next → Bool
is_free_next active inside next.Close = true
is_free_next active inside next.Nothing = false
is_free_next active inside next.Value = false
is_free_next active inside next.Leave = false
is_free_next active inside next.Stuck = false
is_free_next active inside next.Peek = inside && is_none active
is_free_next active inside _ = inside

abbrev pub goes_free : Weak → ℕ → Bool
goes_free w i = is_free_next w.state.active (is_term_inside (at (pool w.state) i)) (next_of w.state (Some i))

-- The active member is a candidate. If none is active, every member of the pool is one that isn't put aside. So is every
-- member that goes on without becoming active.
abbrev pub is_candidate_where : Option ℕ → Bool → Bool → Bool → ℕ → Bool
is_candidate_where (Some j) there free aside i = j == i || free
is_candidate_where None there free aside i = there && (free || not aside)

abbrev pub is_candidate : Weak → (ℕ → Bool) → ℕ → Bool
is_candidate w aside i = is_candidate_where w.state.active (is_some (at (pool w.state) i)) (goes_free w i) (aside i) i

-- the candidates with a number below n, by rising number
abbrev pub candidates_below : ℕ → Weak → (ℕ → Bool) → List ℕ
candidates_below zero w aside = []
candidates_below (suc n) w aside = candidates_below n w aside ++ (if is_candidate w aside n then n ∷ [] else [])

-- all of them
abbrev pub candidates : Weak → (ℕ → Bool) → List ℕ
candidates w aside = candidates_below w.state.next w aside
