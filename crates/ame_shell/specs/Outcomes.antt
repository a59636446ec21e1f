-- The outcome of a seat's turn, as an event of the engine.
use Rattle.std.specs.Prelude.{◌≡◌, ℕ, ℤ, Bool, true, false, List, Option, Some, None, is_some, Err}
use Rattle.ame_term.specs.Tree.{Val}
use Rattle.ame_term.specs.declared.types.Loc.{Loc}
use Rattle.ame_term.specs.declared.types.Sort.{Sort}
use Rattle.ame_term.specs.declared.types.TyNo.{TyNo}
use Rattle.ame_rows.specs.declared.notes.Bad.{Bad}
use Rattle.ame_rows.specs.Valid.{IsFirstBad}
use Rattle.ame_rows.specs.MemoryView.{MemoryView, row_at}
use Rattle.ame_device.specs.declared.told.Told.{Told}
use Rattle.ame_device.specs.declared.fault.DeviceFail.{DeviceFail}
use Rattle.ame_device.specs.Calls.{CallsOne}
use Rattle.ame_machine.specs.declared.wants.Wants.TheVariants as wants
use Rattle.ame_machine.specs.MachineView.{MachineView, place_shown, without_footprint, with_answer}
use Rattle.ame_machine.specs.Input.{value_to_set}
use Rattle.ame_machine.specs.Meaning.{Meaning}
use Rattle.ame_machine.specs.Run.Local.{LocalState}
use Rattle.ame_journal.specs.declared.certificate.Certificate.{Certificate}
use Rattle.ame_protocol.specs.declared.stop.Stop.{Stop}
use Rattle.ame_protocol.specs.declared.types.Attempt.{Attempt}
use Rattle.ame_protocol.specs.declared.types.Task.{Task}
use Rattle.ame_protocol.specs.Engine.Parts.{task_at, attempt_of}
use Rattle.ame_protocol.specs.Event.Causes.{certificates_in}
use Rattle.ame_protocol.specs.Event.Event.{Event, Find, Reverse}
use Rattle.ame_engine.specs.declared.pick.Pick.{Pick}
use Rattle.ame_engine.specs.Begins.{pick_of, stop_met}
use Rattle.ame_engine.specs.Committing.{owned_places}
use Rattle.ame_engine.specs.Core.{Core}
use Rattle.ame_engine.specs.Makes.{Makes}
use Rattle.ame_engine.specs.Seen.{parts_of}
use Rattle.ame_engine.specs.Stops.{stopped_by, blocked_by}
use Rattle.ame_engine.specs.Visiting.{VisitsTo}
use Rattle.ame_shell.specs.declared.work.Outcome.{Outcome}
use Rattle.ame_shell.specs.Asked.{AsksFor, AsksAsProtected, Accesses, IsToCheck, IsToCommit, IsToVisit, HasNoTurnsLeft, AreAllValid}

module _ {C V M : Type 0} where
  -- what a seat makes of the engine that meets a stop, with the certificates if all members are parked
  abbrev pub StopsBy : List Certificate → Pick → Core C V M → Core C V M → Type 0
  StopsBy certificates Pick.Stopped old new = new ≡ old
  StopsBy certificates Pick.Finished old new = new ≡ stopped_by Stop.Finished old
  StopsBy certificates Pick.Blocked old new = new ≡ blocked_by certificates old
  StopsBy certificates Pick.Spent old new = new ≡ stopped_by Stop.Spent old
  StopsBy certificates _ old new = ⊥

-- whether a seat visited a member that is inside
abbrev pub is_visit : Outcome → Bool
is_visit Outcome.CameHome = true
is_visit (Outcome.DeviceFailed device) = true
is_visit _ = false

-- whether a seat turned back or is noted, so that it undoes
abbrev pub is_back : Outcome → Bool
is_back (Outcome.Met owner) = true
is_back (Outcome.FoundInvalid bad) = true
is_back Outcome.Noted = true
is_back (Outcome.NotNoted bad) = true
is_back Outcome.GrewTall = true
is_back (Outcome.NotTall bad) = true
is_back Outcome.Spent = true
is_back _ = false

-- whether the member of a seat that was committed or visited is home again
abbrev pub is_home : Outcome → Bool
is_home Outcome.Ended = true
is_home Outcome.Left = true
is_home Outcome.CameHome = true
is_home (Outcome.DeviceFailed device) = true
is_home _ = false

-- a run has come to this place, at which a machine stands that was given this answer, if one
abbrev pub IsShownAt : MachineView → Option ℤ → LocalState → Type 0
IsShownAt s answer place = without_footprint place ≡ with_answer answer (place_shown s)

module _ {C V M : Type 0} (meaning : Meaning C V M) (seat : ℕ)
    (hand : Option MachineView) (old new : Core C V M) (before after : List Told) where
  -- the seat is idle, and meets this
  pub record Meets (pick : Pick) : Type 0 where
    pub idle : task_at old.tasks seat ≡ Task.Idle
    pub meets : pick_of old ≡ pick

  -- this read of the seat is the first that isn't valid
  abbrev pub IsReadInvalid : Bad → Type 0
  IsReadInvalid bad = IsFirstBad old.memory.cells seat (row_at old.memory.rows seat).reads bad

  -- The outcome of an event, to which the seat comes with its machine, if it has one. What the engine's own state says of
  -- it stands in `May`.
  pub data IsOutcomeOf : Outcome → Event → Type 0 where
    began : (number : ℕ) → Meets (Pick.Member number) → IsOutcomeOf Outcome.Began (Event.Begin seat number)
    stopped : (pick : Pick) (why : Stop) → Meets pick → stop_met pick ≡ Some why → StopsBy (certificates_in (parts_of meaning old)) pick old new
        → IsOutcomeOf Outcome.Stopped (Event.Halt why)
    read : (s : MachineView) (l : Loc) → Accesses old hand s (wants.Read l) → IsOutcomeOf Outcome.Read (Event.Read seat l)
    wrote : (s : MachineView) (l : Loc) (v : Val) → Accesses old hand s (wants.Write l) → value_to_set s ≡ Some v → IsOutcomeOf Outcome.Wrote (Event.Write seat l v)
    met : (s : MachineView) (l : Loc) (attempt : Attempt) (owner : ℕ) → Accesses old hand s (wants.Write l)
        → IsOutcomeOf (Outcome.Met owner) (Event.TurnBack seat attempt (Reverse.Met l owner))
    allocated : (s : MachineView) (sort : Sort) (ty : TyNo) (v : Val) → Accesses old hand s (wants.Alloc sort ty) → value_to_set s ≡ Some v
        → IsOutcomeOf Outcome.Allocated (Event.Alloc seat sort ty v)
    checked : (s : MachineView) (attempt : Attempt) → IsToCheck old hand s → IsOutcomeOf Outcome.Checked (Event.Check seat attempt s.steps)
    found_invalid : (s : MachineView) (attempt : Attempt) (bad : Bad) → IsToCheck old hand s → IsReadInvalid bad
        → IsOutcomeOf (Outcome.FoundInvalid bad) (Event.TurnBack seat attempt (Reverse.Stale Find.Check))
    ended : (s : MachineView) (attempt : Attempt) (place : LocalState) → AsksAsProtected old hand s wants.Done → IsShownAt s None place
        → IsOutcomeOf Outcome.Ended (Event.End seat attempt s.steps place (owned_places seat (parts_of meaning old).memory.cells))
    left : (s : MachineView) (attempt : Attempt) (place : LocalState) → AsksAsProtected old hand s wants.Leave → IsShownAt s None place
        → IsOutcomeOf Outcome.Left (Event.Leave seat attempt s.steps place (owned_places seat (parts_of meaning old).memory.cells))
    refused : (s : MachineView) (attempt : Attempt) (bad : Bad) → IsToCommit old hand s → IsReadInvalid bad
        → IsOutcomeOf (Outcome.Refused bad) (Event.TurnBack seat attempt (Reverse.Stale Find.Commit))
    noted : (s : MachineView) (attempt : Attempt) (place : LocalState) → AsksAsProtected old hand s wants.Block → IsShownAt s None place
        → IsOutcomeOf Outcome.Noted (Event.Note seat attempt s.steps place)
    not_noted : (s : MachineView) (attempt : Attempt) (bad : Bad) → AsksAsProtected old hand s wants.Block → IsReadInvalid bad
        → IsOutcomeOf (Outcome.NotNoted bad) (Event.TurnBack seat attempt (Reverse.Stale Find.Block))
    grew_tall : (s : MachineView) (attempt : Attempt) (place : LocalState) → AsksFor old hand s wants.Tall → AreAllValid old seat → IsShownAt s None place
        → IsOutcomeOf Outcome.GrewTall (Event.Tall seat attempt s.steps place)
    not_tall : (s : MachineView) (attempt : Attempt) (bad : Bad) → AsksAsProtected old hand s wants.Tall → IsReadInvalid bad
        → IsOutcomeOf (Outcome.NotTall bad) (Event.TurnBack seat attempt (Reverse.Stale Find.Tall))
    came_home : (s comes : MachineView) (answer : Option ℤ) (memory : MemoryView Val) (attempt : Attempt) (place : LocalState) → IsToVisit old hand s
        → VisitsTo s (parts_of meaning old).memory before answer comes memory after → IsShownAt comes answer place
        → IsOutcomeOf Outcome.CameHome (Event.Visit seat attempt comes.steps place comes.inside memory)
    device_failed : (s : MachineView) (device : ℕ) (argument : ℤ) (attempt : Attempt) → IsToVisit old hand s
        → s.want ≡ Some (wants.Device device argument) → CallsOne before device argument (Err DeviceFail.Failed) after
        → IsOutcomeOf (Outcome.DeviceFailed device) (Event.Refuse seat attempt device)
    cut : (s : MachineView) (attempt : Attempt) (place : LocalState) → HasNoTurnsLeft old → hand ≡ Some s → AreAllValid old seat → IsShownAt s None place
        → IsOutcomeOf Outcome.Spent (Event.Cut seat attempt s.steps place)
    spent : HasNoTurnsLeft old → is_some (attempt_of (task_at old.tasks seat)) ≡ true
        → ((s : MachineView) → hand ≡ Some s → AreAllValid old seat → ⊥) → new ≡ stopped_by Stop.Spent old → IsOutcomeOf Outcome.Spent (Event.Halt Stop.Spent)
    undid : (attempt : Attempt) → IsOutcomeOf Outcome.Undid (Event.Undo seat attempt)
    went_home : (attempt : Attempt) → IsOutcomeOf Outcome.WentHome (Event.Home seat attempt)
    lacked : new ≡ stopped_by Stop.NoMemory old → IsOutcomeOf Outcome.Lacked (Event.Halt Stop.NoMemory)

  -- A seat made one event, which its outcome names; or none, if it waits for others or a stop was kept before.
  pub data IsMade : Outcome → Type 0 where
    makes : (outcome : Outcome) (e : Event) → IsOutcomeOf outcome e → Makes meaning e old new → IsMade outcome
    waits : Meets Pick.Idle → new ≡ old → IsMade Outcome.Waited
    rests : Meets Pick.Stopped → new ≡ old → IsMade Outcome.Stopped

  -- So it was, and devices were called by visits alone.
  pub record IsDone (outcome : Outcome) : Type 0 where
    pub event : IsMade outcome
    pub quiet : is_visit outcome ≡ false → after ≡ before
