-- Runs that are made again.
use Rattle.std.specs.Prelude.{◌≡◌, ℕ, false, List, None}
use Rattle.ame_machine.specs.Meaning.{Meaning}
use Rattle.ame_engine.specs.Ending.{End}
use Rattle.ame_shell.specs.Shell.{Opening, ShellView}
use Rattle.ame_sim.specs.declared.made.Made.{Made}
use Rattle.ame_sim.specs.Picks.{picks_of}
use Rattle.ame_sim.specs.Played.{HasPlayed, Plays}
use Rattle.ame_sim.specs.Questions.{questions, seats_of}
use Rattle.ame_sim.specs.Strategy.{PicksSeats}
use Rattle.ame_sim.specs.Run.{IsPlayed}
use Rattle.ame_repeats.specs.Answers.{is_fault}

module _ {C V M : Type 0} (meaning : Meaning C V M) where
  -- A pick while no stop is kept, and that no fault from outside stopped.
  pub record IsUnfailedPick (made : Made) (old new : ShellView C V M) : Type 0 where
    pub going : old.core.stop ≡ None
    pub played : HasPlayed meaning made old new
    pub fine : is_fault new.core.stop ≡ false

  -- Picks of one shell, up to a shell that no fault from outside stopped.
  pub record AreUnfailed (mades : List Made) (first last : ShellView C V M) : Type 0 where
    pub plays : Plays meaning mades first last
    pub fine : is_fault last.core.stop ≡ false

  -- A run by picks to its end, which no fault from outside stopped.
  pub record IsUnfailed (opening : Opening C) (mades : List Made) (end : End V) : Type 0 where
    pub played : IsPlayed meaning opening mades end
    pub fine : is_fault end.stop ≡ false

  -- Two openings are of one program with its signature, and have the same limits.
  pub record AreOfOneProgram (opening other : Opening C) : Type 0 where
    pub program : meaning.program other.code ≡ meaning.program opening.code
    pub signature : meaning.signature other.code ≡ meaning.signature opening.code
    pub limits : other.limits ≡ opening.limits

-- Two lists of picks are of the same seats, in the same order.
abbrev pub AreOfTheSameSeats : List Made → List Made → Type 0
AreOfTheSameSeats mades others = seats_of (picks_of others) ≡ seats_of (picks_of mades)

-- Two ends have the same entries, output, turns and stop.
pub record EndsAlike {V : Type 0} (end other : End V) : Type 0 where
  pub entries : other.entries ≡ end.entries
  pub output : other.output ≡ end.output
  pub turns : other.turns ≡ end.turns
  pub stop : other.stop ≡ end.stop

-- The picks of a run are those of a strategy, asked the questions that they lead to.
pub record ArePicksOf (strategy : List (List ℕ) → List ℕ) (seats : ℕ) (mades : List Made) : Type 0 where
  pub later : List (List ℕ) → List ℕ
  pub answers : PicksSeats strategy (questions seats (picks_of mades)) (seats_of (picks_of mades)) later
