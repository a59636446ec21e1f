-- The events of a run that one chooser made.
use Rattle.std.specs.Prelude.{◌≡◌, ◌⊎◌, true, List, [], ◌∷◌, ◌++◌}
use Rattle.ame_machine.specs.Meaning.{Meaning}
use Rattle.ame_protocol.specs.declared.stop.Stop.{Stop}
use Rattle.ame_protocol.specs.Event.Causes.{is_from_outside}
use Rattle.ame_protocol.specs.Event.Event.{Event}
use Rattle.ame_protocol.specs.Event.Runs.{Follows}
use Rattle.ame_protocol.specs.Event.EngineState.{started_state}
use Rattle.ame_engine.specs.Makes.{state_of}
use Rattle.ame_shell.specs.Shell.{Opening, ShellView}
use Rattle.ame_shell.specs.Outcomes.{IsOutcomeOf}
use Rattle.ame_sim.specs.declared.made.Made.{Made}
use Rattle.ame_sim.specs.Picks.{is_waited}
use Rattle.ame_sim.specs.Played.{HasPlayed, Plays}

-- the runtime stops for what comes from outside, or it doesn't
abbrev pub AreHalts : List Event → Type 0
AreHalts events = (events ≡ []) ⊎ ((why : Stop) × (is_from_outside why ≡ true) × (events ≡ Event.Halt why ∷ []))

module _ {C V M : Type 0} (meaning : Meaning C V M) where
  -- the event of a pick is the one that its outcome names
  abbrev pub IsEventOf : (made : Made) (old new : ShellView C V M) → HasPlayed meaning made old new → Event → Type 0
  IsEventOf made old new played e =
      IsOutcomeOf meaning made.seat played.hand old.core played.turned.core old.ends.told new.ends.told made.outcome e

  -- a pick makes that one, or none if its seat waits
  abbrev pub AreEventsOfPick : (made : Made) (old new : ShellView C V M) → HasPlayed meaning made old new → List Event → Type 0
  AreEventsOfPick made old new played events =
      ((is_waited made.outcome ≡ true) × (events ≡ [])) ⊎ ((e : Event) × (events ≡ e ∷ []) × IsEventOf made old new played e)

  -- events of picks, one pick after the other
  abbrev pub AreEventsOfPicks : (mades : List Made) (old new : ShellView C V M) → Plays meaning mades old new → List Event → Type 0
  AreEventsOfPicks [] old new plays events = events ≡ []
  AreEventsOfPicks (made ∷ mades) old new plays events =
      (its : List Event) × (rest : List Event) × (events ≡ its ++ rest) × AreEventsOfPick made old plays.0 plays.2 its
      × AreEventsOfPicks mades plays.0 new plays.3 rest

  -- The events of a run follow one another from the start of the program: those of its picks, in order, and at the end a halt if
  -- the sink failed or the run is out of memory.
  pub record IsRunOfPicks (opening : Opening C) (mades : List Made) (first last now : ShellView C V M) (plays : Plays meaning mades first last) : Type 0 where
    pub events : List Event
    pub its : AreEventsOfPicks mades first last plays events
    pub halts : List Event
    pub outside : AreHalts halts
    pub follows : Follows (started_state (meaning.program opening.code) (meaning.signature opening.code) opening.limits) (events ++ halts)
        (state_of meaning now.core)
