-- `sim`: a source that is the text of a program, run on one thread under the choices of a seed.
use Rattle.std.specs.Prelude.{◌≡◌, ℕ, List, [], Some}
use Rattle.ame_code.specs.FlatCode.{FlatCode}
use Rattle.ame_protocol.specs.declared.types.Limits.{Limits}
use Rattle.ame_shell.specs.Ends.{Ends}
use Rattle.ame_shell.specs.Shell.{Opening}
use Rattle.ame_sim.specs.Strategy.{PicksSeats}
use Rattle.ame_sim.specs.Questions.{questions, seats_of}
use Rattle.ame_sim.specs.Schedule.{schedule_line}
use Rattle.ame_sim.specs.declared.made.Made.{Made}
use Rattle.ame_sim.specs.Picks.{picks_of}
use Rattle.ame_sim.specs.Run.{AreTold, IsPlayed}
use Rattle.ame_app.specs.declared.run_result.Extra.{Extra}
use Rattle.ame_app.specs.declared.run_result.RunResult.{RunResult}
use Rattle.ame_app.specs.declared.status.Status.{Status}
use Rattle.ame_app.specs.Fragments.{fragments}
use Rattle.ame_app.specs.RunResult.{end_in, extra_in}

-- the opening of a run of code from its beginning, with these limits, when its ends show this
abbrev pub opening_of : FlatCode → Limits → Ends → Opening FlatCode
opening_of code limits before = record { code = code; limits = limits; base = []; ends = before }

-- An engine makes the run, and the report has what each pick did. The picks lead from the run's beginning to its end, each with the member, the
-- outcome and the location of its turn, and they fit turns and entries of the run. They are those of a strategy that was asked, before each, who
-- may be picked after the picks before it.
pub record IsPicked (strategy : List (List ℕ) → List ℕ) (code : FlatCode) (limits : Limits) (before : Ends) (left : RunResult) : Type 0 where
  pub mades : List Made
  pub extra_is : extra_in left ≡ Some (Extra.Picked mades)
  pub played : IsPlayed fragments (opening_of code limits before) mades (end_in left)
  pub told : AreTold limits.seats (end_in left).turns mades (end_in left).entries
  pub later : List (List ℕ) → List ℕ
  pub answers : PicksSeats strategy (questions limits.seats (picks_of mades)) (seats_of (picks_of mades)) later

-- what picks did, if the report has it
abbrev pub mades_in : RunResult → List Made
mades_in (RunResult.Engine end (Extra.Picked mades)) = mades
mades_in _ = []

-- the seats that were picked
abbrev pub seats_picked : RunResult → List ℕ
seats_picked left = seats_of (picks_of (mades_in left))

-- the schedule of a run is written after its verdict line, unless memory ran out or the sink failed
abbrev pub schedule_behind : RunResult → Status → List ℕ
schedule_behind left Status.NoMemory = []
schedule_behind left Status.WriteFault = []
schedule_behind left told = schedule_line (seats_picked left)
