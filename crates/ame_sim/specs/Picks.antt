-- Picks by their outcomes, as far as these decide which seats may be picked.
use Rattle.std.specs.Prelude.{ℕ, Bool, true, false, List, map}
use Rattle.ame_sim.specs.Questions.{questions, seats_of}
use Rattle.ame_sim.specs.Strategy.{PicksSeats}
use Rattle.ame_shell.specs.declared.work.Outcome.{Outcome}
use Rattle.ame_sim.specs.declared.made.Made.{Made}
use Rattle.ame_sim.specs.declared.picked.Picked.{Picked}

-- whether the seat of a pick has to wait, by its outcome
abbrev pub is_waited : Outcome → Bool
is_waited Outcome.Waited = true
is_waited _ = false

-- a pick, by its outcome
abbrev pub picked_by : Made → Picked
picked_by made = record { seat = made.seat; waited = is_waited made.outcome }

abbrev pub picks_of : List Made → List Picked
picks_of mades = map picked_by mades

-- If a strategy has picked the seats of these picks, asked the questions that they lead to, and goes on as the one before, then it has
-- picked those of the others too, and goes on as the one after.
abbrev pub HasAnswered : ℕ → (List (List ℕ) → List ℕ) → List Made → (List (List ℕ) → List ℕ) → List Made → Type 0
HasAnswered seats before mades after more =
    (strategy : List (List ℕ) → List ℕ) → PicksSeats strategy (questions seats (picks_of mades)) (seats_of (picks_of mades)) before
    → PicksSeats strategy (questions seats (picks_of more)) (seats_of (picks_of more)) after
