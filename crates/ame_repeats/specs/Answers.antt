-- The answers of devices that a run was given.
use Rattle.std.specs.Prelude.{◌≡◌, ℤ, Bool, true, false, List, [], ◌∷◌, ◌++◌, Option, Some, None}
use Rattle.ame_journal.specs.declared.entry.Entry.{Entry}
use Rattle.ame_protocol.specs.declared.stop.Stop.{Stop}
use Rattle.ame_protocol.specs.Event.Event.{Event}

-- the answer that an event was given
abbrev pub answer_of : Event → Option ℤ
answer_of (Event.Visit seat attempt steps place inside memory) = place.answer
answer_of _ = None

-- an answer, if there is one
abbrev pub one_answer : Option ℤ → List ℤ
one_answer None = []
one_answer (Some answer) = answer ∷ []

-- the answers in entries, in order
abbrev pub answers_in : List Entry → List ℤ
answers_in [] = []
answers_in (entry ∷ entries) = one_answer entry.answer ++ answers_in entries

-- Devices answered two runs alike: the answers of both, in order, are the first ones of one list.
pub record AreAnsweredAlike (entries others : List Entry) : Type 0 where
  pub more : List ℤ
  pub rest : List ℤ
  pub alike : answers_in entries ++ more ≡ answers_in others ++ rest

-- whether a run was stopped from outside: it ran out of memory, or its sink or a device failed
abbrev pub is_fault : Option Stop → Bool
is_fault (Some Stop.NoMemory) = true
is_fault (Some Stop.WriteFault) = true
is_fault (Some (Stop.DeviceFault device)) = true
is_fault _ = false
