-- A queue of numbers, in which one that leaves makes a gap.
use Rattle.std.specs.Prelude.{◌≡◌, ℕ, ◌<◌, ◌==◌, Bool, true, false, List, [], ◌∷◌, length, Some, None, is_none}
use Rattle.std.specs.List.{filter_map, HoldsAt}
use Rattle.ame_pool.specs.declared.queue.QueueEntry.{QueueEntry}

-- what contracts see of a queue: its numbers from the oldest on, and how many fit
pub record QueueView : Type 0 where
  pub list : List ℕ
  pub places : ℕ

-- the numbers of the entries that are no gaps
abbrev pub numbers_in : List QueueEntry → List ℕ
numbers_in es = filter_map (λ e. e.number) es

abbrev pub is_gap : QueueEntry → Bool
is_gap e = is_none e.number

-- the entry is the number's
abbrev pub is_of : ℕ → QueueEntry → Bool
is_of number e = elim e.number [ None ↦ false | Some n ↦ n == number ]

-- the number's entry stands at this place
abbrev pub IsPlaceOf : ℕ → List QueueEntry → ℕ → Type 0
IsPlaceOf number es i = (i < length es) × HoldsAt (λ e. is_of number e ≡ true) es i

abbrev pub starts_with_gap : List QueueEntry → Bool
starts_with_gap [] = false
starts_with_gap (e ∷ es) = is_gap e

-- the first entry is no gap
abbrev pub StartsFull : List QueueEntry → Type 0
StartsFull es = starts_with_gap es ≡ false

-- no gap stands first, and the numbers are counted
pub record IsQueue (es : List QueueEntry) (len : ℕ) : Type 0 where
  pub starts : StartsFull es
  pub counted : len ≡ length (numbers_in es)
