-- The lead of a seat.
use Rattle.std.specs.Prelude.{◌≡◌, ℕ, ◌||◌, ◌&&◌, Bool, true, false, List, [], ◌∷◌, nat_le, nat_lt, IsSome}
use Rattle.ame_machine.specs.Meaning.{Meaning}
use Rattle.ame_protocol.specs.declared.types.Task.{Task}
use Rattle.ame_protocol.specs.Engine.Parts.{task_at}
use Rattle.ame_engine.specs.Core.{Core}
use Rattle.ame_shell.specs.declared.work.Outcome.{Outcome}
use Rattle.ame_shell.specs.declared.work.Work.{Work}
use Rattle.ame_shell.specs.declared.work.Work.TheVariants as work
use Rattle.ame_shell.specs.Shell.{ShellView}
use Rattle.ame_worker.specs.Turns.{TurnView, HasHadTurns}

-- a fragment of this number of steps is work enough for others to help
abbrev pub heavy : ℕ
heavy = 100

-- whether a commit came of a turn, so that there may be more members
abbrev pub commits : Outcome → Bool
commits Outcome.Ended = true
commits Outcome.Left = true
commits Outcome.CameHome = true
commits _ = false

-- whether there is nothing to lead: no ready member may begin, or a stop is kept and the seat has nothing at work
abbrev pub rests : Outcome → Bool
rests Outcome.Waited = true
rests Outcome.Stopped = true
rests _ = false

-- the seat has nothing at work, and a stop is kept
pub record RestsAtStop {C V M : Type 0} (core : Core C V M) (seat : ℕ) : Type 0 where
  pub idle : task_at core.tasks seat ≡ Task.Idle
  pub stop : IsSome core.stop

module _ {C V M : Type 0} (meaning : Meaning C V M) where
  -- whether the fragment in flight made that many steps
  abbrev pub is_heavy : C → Work M → Bool
  is_heavy code (work.Running m) = nat_le heavy (meaning.stage code m).steps
  is_heavy code _ = false

  -- whether a seat that leads hands over after a turn, if there may be more members, or only one is there
  abbrev pub hands_over : C → ℕ → Bool → TurnView C V M → Bool
  hands_over code seats are_more t = rests t.outcome || (nat_lt 1 seats && are_more && is_heavy code t.hand)

  -- A seat leads on until it hands over: after the last of these turns, and after none before.
  abbrev pub LeadsUntilHandover : C → ℕ → Bool → List (TurnView C V M) → Type 0
  LeadsUntilHandover code seats are_more [] = ⊥
  LeadsUntilHandover code seats are_more (t ∷ []) = hands_over code seats are_more t ≡ true
  LeadsUntilHandover code seats are_more (t ∷ more ∷ ts) =
      (hands_over code seats are_more t ≡ false) × LeadsUntilHandover code seats (are_more || commits t.outcome) (more ∷ ts)

  -- A seat had turns on a shell until it handed over. They joined the turns of the shell, which the seat left to others, and this is
  -- whether the last one met a kept stop with nothing at work.
  pub record HasLedOn (code : C) (seat : ℕ) (are_more : Bool) (old : ShellView C V M) (turns : List (TurnView C V M)) (hand : Work M)
      (new : ShellView C V M) (now : List (TurnView C V M)) (left : Work M) (is_over : Bool) : Type 0 where
    pub led : List (TurnView C V M)
    pub had : HasHadTurns meaning code seat hand old turns new now left led
    pub until : LeadsUntilHandover code old.core.limits.seats are_more led
    pub over : is_over ≡ true → RestsAtStop new.core seat
