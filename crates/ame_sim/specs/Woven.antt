-- Picks with their outcomes, if only the seats are kept of those that found nothing to do.
use Rattle.std.specs.Prelude.{◌≡◌, ℕ, Bool, true, if◌then◌else◌, List, [], ◌∷◌, length, None}
use Rattle.ame_shell.specs.declared.work.Outcome.{Outcome}
use Rattle.ame_sim.specs.declared.made.Made.{Made}
use Rattle.ame_sim.specs.declared.picked.Picked.{Picked}
use Rattle.ame_sim.specs.Questions.{turns_of}
use Rattle.ame_sim.specs.Picks.{is_waited, picks_of}

-- a pick that found nothing to do
abbrev pub waited_at : ℕ → Made
waited_at seat = record { seat = seat; member = None; outcome = Outcome.Waited; place = None }

-- All of these picks with their outcomes: the mades are those of the picks that did something, in order.
abbrev pub woven : List Picked → List Made → List Made
woven [] mades = []
woven (pick ∷ picks) [] = if pick.waited then waited_at pick.seat ∷ woven picks [] else []
woven (pick ∷ picks) (made ∷ mades) = if pick.waited then waited_at pick.seat ∷ woven picks (made ∷ mades) else made ∷ woven picks mades

-- The mades are exactly those of the picks that did something.
pub record AreOfPicks (picks : List Picked) (mades : List Made) : Type 0 where
  pub told : picks_of (woven picks mades) ≡ picks
  pub all : turns_of picks ≡ length mades

-- a pick that found nothing to do did nothing else
abbrev pub WaitsPlainly : Made → Type 0
WaitsPlainly made = is_waited made.outcome ≡ true → made ≡ waited_at made.seat

-- a list of mades, and whether there is room for one more, whatever it is
pub record MadesView : Type 0 where
  pub items : List Made
  pub has_room : Bool
