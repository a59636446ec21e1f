-- The event that decides how a run ends.
use Rattle.std.specs.Prelude.{◌≡◌, Bool, true, false, List, ◌∷◌, ◌++◌, All, Some, None}
use Rattle.ame_protocol.specs.declared.stop.Stop.{Stop}
use Rattle.ame_protocol.specs.Event.After.{stop_after}
use Rattle.ame_protocol.specs.Event.Event.{Event}

-- Returns whether an event undoes the work of a seat.
abbrev pub is_undo : Event → Bool
is_undo (Event.Undo seat attempt) = true
is_undo (Event.Home seat attempt) = true
is_undo _ = false

-- The first event that keeps a stop keeps this one. After it seats undo their unfinished work, and do nothing else.
pub record IsStoppedBy (why : Stop) (events : List Event) : Type 0 where
  pub before : List Event
  pub first : Event
  pub behind : List Event
  pub is : events ≡ before ++ first ∷ behind
  pub going : All (λ e. stop_after e None ≡ None) before
  pub keeps : stop_after first None ≡ Some why
  pub undoes : All (λ e. is_undo e ≡ true) behind
