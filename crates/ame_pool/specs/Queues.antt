-- The ready members in two lines: all of them, and those that stand inside.
use Rattle.std.specs.Prelude.{ℕ, ◌<◌, Bool, cond, List, [], ◌∷◌, ◌++◌, length, Option, Some, None}
use Rattle.ame_pool.specs.Calls.{skipping}

-- the numbers of the ready members from the oldest on, those of them that stand inside, and how many numbers fit
pub record Queues : Type 0 where
  pub order : List ℕ
  pub inside : List ℕ
  pub places : ℕ

-- one more number fits
pub record HasPlace (q : Queues) : Type 0 where
  pub order : length q.order < q.places
  pub inside : length q.inside < q.places

-- the first number
abbrev pub front : List ℕ → Option ℕ
front [] = None
front (n ∷ ns) = Some n

-- the youngest number
abbrev pub pushed : ℕ → Bool → Queues → Queues
pushed n is_inside q = record q { order = q.order ++ n ∷ []; inside = cond is_inside (q.inside ++ n ∷ []) q.inside }

-- a number leaves
abbrev pub taken : ℕ → Bool → Queues → Queues
taken n is_inside q = record q { order = skipping n q.order; inside = cond is_inside (skipping n q.inside) q.inside }
