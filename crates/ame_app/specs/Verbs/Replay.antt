-- `replay`: a source that is a schedule, and the text of the program that it is for. Its run is that of `sim`, with the picks that are listed.
use Rattle.std.specs.Prelude.{◌≡◌, ℕ, List}
use Rattle.ame_lex.specs.Bytes.{Text}
use Rattle.ame_code.specs.FlatCode.{FlatCode}
use Rattle.ame_protocol.specs.declared.types.Limits.{Limits}
use Rattle.ame_shell.specs.Ends.{Ends}
use Rattle.ame_sim.specs.Listed.{picked_as_listed}
use Rattle.ame_sim.specs.Schedule.{IsScheduled}
use Rattle.ame_app.specs.declared.run_result.RunResult.{RunResult}
use Rattle.ame_app.specs.declared.parts.Front.{Front}
use Rattle.ame_app.specs.declared.status.Status.{Status}
use Rattle.ame_app.specs.Verbs.Sim.{IsPicked}

-- the bytes are the line of a schedule, the line `program`, and the text
pub record TakesScheduled (bytes : List ℕ) (front : Front) (text : Text) : Type 0 where
  pub picks : List ℕ
  pub front_is : front ≡ Front.Schedule picks
  pub scheduled : IsScheduled bytes picks text

-- the bytes don't begin with two such lines
pub record HasNoSchedule (bytes : List ℕ) (told : Status) : Type 0 where
  pub told_is : told ≡ Status.BadSchedule
  pub none : (picks text : List ℕ) → ¬ IsScheduled bytes picks text

-- the picks are those of the schedule, as far as they could be made
pub record IsPickedAsListed (front : Front) (code : FlatCode) (limits : Limits) (before : Ends) (left : RunResult) : Type 0 where
  pub picks : List ℕ
  pub front_is : front ≡ Front.Schedule picks
  pub picked : IsPicked (picked_as_listed picks) code limits before left
