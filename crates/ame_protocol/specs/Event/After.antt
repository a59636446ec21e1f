-- The state after each event.
use Rattle.std.specs.Prelude.{List, Option, Some}
use Rattle.ame_protocol.specs.Engine.Parts.{Parts, task_at}
use Rattle.ame_protocol.specs.Engine.Events.{has_begun, has_read, has_written, has_allocated, has_checked, has_turned_back}
use Rattle.ame_protocol.specs.Engine.Events.{has_ended, has_left, has_undone, has_gone_home, has_stopped}
use Rattle.ame_protocol.specs.Waits.Noted.{has_noted}
use Rattle.ame_protocol.specs.Visits.Visit.{has_visited, has_been_refused}
use Rattle.ame_protocol.specs.Visits.Stops.{has_been_cut, has_grown_tall}
use Rattle.ame_journal.specs.declared.certificate.Certificate.{Certificate}
use Rattle.ame_protocol.specs.declared.counters.Counters.{Counters}
use Rattle.ame_protocol.specs.declared.stop.Stop.{Stop}
use Rattle.ame_protocol.specs.Event.Causes.{certificates_for}
use Rattle.ame_protocol.specs.Event.Counting.{Counted, one_counted, one_invalid, one_undone}
use Rattle.ame_protocol.specs.Event.Undoing.{reason_to_undo}
use Rattle.ame_protocol.specs.Event.EngineState.{EngineState}
use Rattle.ame_protocol.specs.Event.Event.{Event, Find, Reverse}

-- Returns the parts after an event.
abbrev pub after_parts : Event → Parts → Parts
after_parts (Event.Begin seat number) parts = has_begun seat number parts
after_parts (Event.Read seat l) parts = has_read seat l parts
after_parts (Event.Write seat l v) parts = has_written seat l v parts
after_parts (Event.Alloc seat sort ty v) parts = has_allocated seat sort ty v parts
after_parts (Event.Check seat attempt steps) parts = has_checked seat steps attempt parts
after_parts (Event.TurnBack seat attempt why) parts = has_turned_back seat attempt parts
after_parts (Event.End seat attempt steps place woken) parts = has_ended seat attempt.tried.number steps place woken parts
after_parts (Event.Leave seat attempt steps place woken) parts = has_left seat attempt.tried.number steps place woken parts
after_parts (Event.Note seat attempt steps place) parts = has_noted seat attempt steps place parts
after_parts (Event.Visit seat attempt steps place inside memory) parts = has_visited seat attempt.tried.number steps place inside memory parts
after_parts (Event.Refuse seat attempt device) parts = has_been_refused seat attempt.tried.number parts
after_parts (Event.Undo seat attempt) parts = has_undone seat attempt (reason_to_undo (task_at parts.tasks seat)) parts
after_parts (Event.Home seat attempt) parts = has_gone_home seat attempt (reason_to_undo (task_at parts.tasks seat)) parts
after_parts (Event.Cut seat attempt steps place) parts = has_been_cut seat attempt.tried.number steps place (task_at parts.tasks seat) parts
after_parts (Event.Tall seat attempt steps place) parts = has_grown_tall seat attempt.tried.number steps place (task_at parts.tasks seat) parts
after_parts (Event.Halt why) parts = has_stopped parts

-- Returns the question that was asked, as a kind of event.
abbrev pub counted_find : Find → Counted
counted_find Find.Check = Counted.Check
counted_find Find.Commit = Counted.Commit
counted_find Find.Block = Counted.Block
counted_find Find.Tall = Counted.Tall

-- Returns the counters after an event. Each event is one more of its kind, but a note of a row that is cut off and a halt are none.
abbrev pub counted_by : Event → EngineState → Counters
counted_by (Event.Begin seat number) s = one_counted Counted.Begin s.counters
counted_by (Event.Read seat l) s = one_counted Counted.Read s.counters
counted_by (Event.Write seat l v) s = one_counted Counted.Write s.counters
counted_by (Event.Alloc seat sort ty v) s = one_counted Counted.Alloc s.counters
counted_by (Event.Check seat attempt steps) s = one_counted Counted.Check s.counters
counted_by (Event.TurnBack seat attempt (Reverse.Met l owner)) s = one_counted Counted.Conflict s.counters
counted_by (Event.TurnBack seat attempt (Reverse.Stale find)) s = one_invalid (counted_find find) s.counters
counted_by (Event.End seat attempt steps place woken) s = one_counted Counted.Commit s.counters
counted_by (Event.Leave seat attempt steps place woken) s = one_counted Counted.Commit s.counters
counted_by (Event.Note seat attempt steps place) s = one_counted Counted.Block s.counters
counted_by (Event.Visit seat attempt steps place inside memory) s = one_counted Counted.Free s.counters
counted_by (Event.Refuse seat attempt device) s = one_counted Counted.Free s.counters
counted_by (Event.Undo seat attempt) s = one_undone s.parts.stopped s.counters
counted_by (Event.Home seat attempt) s = one_undone s.parts.stopped s.counters
counted_by (Event.Cut seat attempt steps place) s = s.counters
counted_by (Event.Tall seat attempt steps place) s = one_counted Counted.Tall s.counters
counted_by (Event.Halt why) s = s.counters

-- Returns the stop after an event. Four events keep one.
abbrev pub stop_after : Event → Option Stop → Option Stop
stop_after (Event.Refuse seat attempt device) stop = Some (Stop.DeviceFault device)
stop_after (Event.Cut seat attempt steps place) stop = Some Stop.Spent
stop_after (Event.Tall seat attempt steps place) stop = Some (Stop.Tall attempt.tried.number)
stop_after (Event.Halt why) stop = Some why
stop_after _ stop = stop

-- Returns the certificates after an event. They are reported if all members are blocked.
abbrev pub certificates_after : Event → EngineState → List Certificate
certificates_after (Event.Halt why) s = certificates_for (Some why) s.parts
certificates_after _ s = s.certificates

-- Returns the state after an event.
abbrev pub after : Event → EngineState → EngineState
after e s = record { parts = after_parts e s.parts; counters = counted_by e s; stop = stop_after e s.stop; certificates = certificates_after e s }
