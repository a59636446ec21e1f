-- The picks of choosers. A strategy says what would be picked, were these questions asked one after the other. A question is the
-- list of the seats that may be picked.
use Rattle.std.specs.Prelude.{◌≡◌, ℕ, List, ◌++◌}

-- Asked these questions, the strategy picks these seats, a seat a question, and goes on as `later`.
abbrev pub PicksSeats : (List (List ℕ) → List ℕ) → List (List ℕ) → List ℕ → (List (List ℕ) → List ℕ) → Type 0
PicksSeats strategy asked picked later = (rest : List (List ℕ)) → strategy (asked ++ rest) ≡ picked ++ later rest
