-- An engine makes the events of its protocol.
use Rattle.std.specs.Prelude.{◌≡◌, ℤ, Option}
use Rattle.ame_machine.specs.Run.Local.{LocalState}
use Rattle.ame_machine.specs.MachineView.{MachineView, place_shown, without_footprint, with_answer}
use Rattle.ame_machine.specs.Meaning.{Meaning}
use Rattle.ame_protocol.specs.Event.EngineState.{EngineState}
use Rattle.ame_protocol.specs.Event.Event.{Event}
use Rattle.ame_protocol.specs.Event.After.{after}
use Rattle.ame_protocol.specs.Event.May.{May}
use Rattle.ame_engine.specs.Core.{Core}
use Rattle.ame_engine.specs.Seen.{parts_of}

module _ {C V M : Type 0} (meaning : Meaning C V M) where
  -- Returns the state of an engine: all that events change.
  abbrev pub state_of : Core C V M → EngineState
  state_of core = record { parts = parts_of meaning core; counters = core.counters; stop = core.stop; certificates = core.certificates }

  -- An engine makes an event of its protocol: it may be, code stays, and the state becomes what the event makes of it.
  pub record Makes (e : Event) (old new : Core C V M) : Type 0 where
    pub code : new.code ≡ old.code
    pub may : May e (state_of old)
    pub state : state_of new ≡ after e (state_of old)

  -- So it is of an event that names the place to which a run has come. There a machine stands that has this stage, and that was
  -- given this answer, if one.
  pub record MakesAt (s : MachineView) (answer : Option ℤ) (e : LocalState → Event) (old new : Core C V M) : Type 0 where
    pub place : LocalState
    pub shows : without_footprint place ≡ with_answer answer (place_shown s)
    pub makes : Makes (e place) old new
