-- Runs: events one after another.
use Rattle.std.specs.Prelude.{◌≡◌, Bool, true, false, List, [], ◌∷◌, ◌++◌}
use Rattle.ame_journal.specs.declared.entry.Entry.{Entry}
use Rattle.ame_journal.specs.declared.entry.EntryKind.{EntryKind}
use Rattle.ame_protocol.specs.Engine.Events.{ran_entry}
use Rattle.ame_protocol.specs.Waits.Noted.{stuck_entry}
use Rattle.ame_protocol.specs.Visits.Visit.{free_entry}
use Rattle.ame_protocol.specs.Visits.Stops.{note_entry}
use Rattle.ame_protocol.specs.Event.EngineState.{EngineState}
use Rattle.ame_protocol.specs.Event.Event.{Event}
use Rattle.ame_protocol.specs.Event.After.{after}
use Rattle.ame_protocol.specs.Event.May.{May}

-- A run of events leads from one state to another, and each event may happen in the state to which the earlier ones lead.
abbrev pub Follows : EngineState → List Event → EngineState → Type 0
Follows s [] end = end ≡ s
Follows s (e ∷ es) end = May e s × Follows (after e s) es end

-- Returns the entry that an event adds to the journal, if any.
abbrev pub entries_told : Event → List Entry
entries_told (Event.End seat attempt steps place woken) = ran_entry seat attempt.tried.number steps place ∷ []
entries_told (Event.Leave seat attempt steps place woken) = ran_entry seat attempt.tried.number steps place ∷ []
entries_told (Event.Note seat attempt steps place) = stuck_entry seat attempt.tried.number steps place ∷ []
entries_told (Event.Visit seat attempt steps place inside memory) = free_entry seat attempt.tried.number steps place ∷ []
entries_told (Event.Cut seat attempt steps place) = note_entry EntryKind.Cut seat attempt.tried.number steps place ∷ []
entries_told (Event.Tall seat attempt steps place) = note_entry EntryKind.Tall seat attempt.tried.number steps place ∷ []
entries_told _ = []

-- Returns the entries of a run, in order.
abbrev pub entries_along : List Event → List Entry
entries_along [] = []
entries_along (e ∷ es) = entries_told e ++ entries_along es

-- Returns whether a seat turns back.
abbrev pub is_back : Event → Bool
is_back (Event.TurnBack seat attempt why) = true
is_back _ = false
