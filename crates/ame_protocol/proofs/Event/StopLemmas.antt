-- A row is noted as the runtime stops, or a stop is kept, and the state stays sound.
use Rattle.std.proofs.Common.{List, None, Option, Some, [], ap, false, inl, inr, length, option_map}
use Rattle.std.proofs.Common.{refl, subst, sym, true, ℕ, ◌++◌, ◌+◌, ◌<◌, ◌∙◌, ◌∷◌, ◌≡◌, ◌≤◌}
use Rattle.ame_term.specs.Frame.{Side}
use Rattle.ame_journal.specs.declared.entry.Entry.{Entry}
use Rattle.ame_journal.specs.declared.entry.EntryKind.{EntryKind}
use Rattle.ame_pool.specs.Calls.{IsAt}
use Rattle.ame_machine.specs.Run.Local.{LocalState}
use Rattle.ame_machine.specs.Run.Told.{IsTooHigh}
use Rattle.ame_protocol.specs.Engine.Events.{has_stopped}
use Rattle.ame_protocol.specs.Engine.Parts.{Parts, attempt_of, member_of, task_at, working}
use Rattle.ame_protocol.specs.Engine.Tasks.{MeetsTask, RunsProtected, Visits, is_busy_as}
use Rattle.ame_protocol.specs.Visits.Stops.{has_been_cut, has_grown_tall, note_entry, told_task}
use Rattle.ame_protocol.specs.declared.types.Attempt.{Attempt}
use Rattle.ame_protocol.specs.declared.types.Task.{Task}
use Rattle.ame_protocol.proofs.Engine.AloneEvents.{stop-alone}
use Rattle.ame_protocol.proofs.Engine.StepLemmas.{seat_within, working-has}
use Rattle.ame_protocol.proofs.Engine.ToldLemmas.{stopped_stands}
use Rattle.ame_protocol.proofs.Visits.NoteLemmas.{cut-alone, cut-stands, tall-alone, tall-stands}
use Rattle.ame_protocol.proofs.Waits.OnceEvents.{stop-once}
use Rattle.ame_protocol.proofs.Waits.TaskLemmas.{stop-waiting}
use Rattle.ame_protocol.proofs.Waits.VisitLemmas.{told-once, told-waiting}
use Rattle.ame_protocol.specs.Event.Causes.{AreOrdinary, EndsWith, IsCause, NotesStop, certificates_for, only_seats_keep}
use Rattle.ame_protocol.specs.Event.Counting.{Counted, one_counted}
use Rattle.ame_protocol.specs.declared.stop.Stop.{Stop}
use Rattle.ame_protocol.proofs.Event.BoundLemmas.{cut-bounded, stop-bounded, tall-bounded}
use Rattle.ame_protocol.proofs.Event.CauseLemmas.{going-ordinary, going-untold, task-more}
use Rattle.ame_protocol.proofs.Event.CountLemmas.{one-counts}
use Rattle.ame_protocol.proofs.Event.LoneLemmas.{lone-on, told-ran}
use Rattle.ame_protocol.specs.Event.After.{after}
use Rattle.ame_protocol.specs.Event.Event.{Event}
use Rattle.ame_protocol.specs.Event.May.{MayHalt, MayNote}
use Rattle.ame_protocol.specs.Event.Sound.{Sound}
use Rattle.ame_protocol.specs.Event.EngineState.{EngineState}
use Rattle.ame_protocol.proofs.Event.ActLemmas.{not-stopped}
use Rattle.ame_protocol.proofs.Event.SeatedLemmas.{seated-on, seated-still}

module _ (s : EngineState) (h : Sound s) (going : s.stop ≡ None) where
  abbrev parts : Parts
  parts = s.parts

  still : parts.stopped ≡ false
  still = not-stopped s h going

  module _ (seat : ℕ) (attempt : Attempt) (side : Side) (steps : ℕ) (place : LocalState) (m : MayNote s seat attempt side steps place) where
    abbrev task : Task
    task = task_at parts.tasks seat

    has : attempt_of task ≡ Some attempt
    has = working-has task attempt m.works

    within : seat < length parts.tasks
    within = seat_within parts.tasks seat attempt has

    had : member_of task ≡ Some attempt.tried.number
    had = ap (λ (o : Option Attempt). option_map (λ (x : Attempt). x.tried.number) o) has

    busy : IsAt (is_busy_as false) attempt.tried.number parts.pool
    busy = by task m.works (h.stands.seats seat)
      where
        by : (t : Task) → working t ≡ Some attempt → MeetsTask parts h.stands.types seat t → IsAt (is_busy_as false) attempt.tried.number parts.pool
        by Task.Idle e meets = absurd (let clash : ◌≡◌ {A = Option Attempt} None (Some attempt) = e in cc)
        by (Task.Running a) e meets =
            let same : a ≡ attempt = cc in
            let runs : RunsProtected parts h.stands.types seat a = meets in
            subst (λ (x : Attempt). IsAt (is_busy_as false) x.tried.number parts.pool) same runs.work.busy
        by (Task.Free a) e meets =
            let same : a ≡ attempt = cc in
            let visits : Visits parts h.stands.types seat a = meets in
            subst (λ (x : Attempt). IsAt (is_busy_as false) x.tried.number parts.pool) same visits.work.busy
        by (Task.Undoing a reason) e meets = absurd (let clash : ◌≡◌ {A = Option Attempt} None (Some attempt) = e in cc)

    -- it has made no fewer steps than at its last valid check
    low : (a : Attempt) → attempt_of task ≡ Some a → a.tried.steps ≤ steps
    low a e =
        let same : attempt ≡ a = (let both : Some attempt ≡ Some a = sym has ∙ e in cc) in
        subst (λ (x : Attempt). x.tried.steps ≤ steps) same m.more

    told-member : (t : Task) → member_of (told_task t) ≡ member_of t
    told-member Task.Idle = refl
    told-member (Task.Running a) = refl
    told-member (Task.Free a) = refl
    told-member (Task.Undoing a reason) = refl

    ends : (kind : EntryKind) → EndsWith kind (parts.entries ++ note_entry kind seat attempt.tried.number steps place ∷ [])
    ends kind = record {
      earlier = parts.entries;
      note = note_entry kind seat attempt.tried.number steps place;
      is = refl;
      its = refl;
      others = going-ordinary parts parts s.stop going s.certificates h.caused;
    }

    pub sound-cut : parts.turns ≡ parts.limits.turns → Sound (after (Event.Cut seat attempt steps place) s)
    sound-cut used_up =
        let new = has_been_cut seat attempt.tried.number steps place task parts in record {
          stopped = refl;
          stands = cut-stands parts seat task side attempt.tried.number steps place refl m.may h.stands;
          pool = h.pool;
          alone = cut-alone parts seat task side attempt.tried.number steps place refl m.may h.alone;
          lone = lone-on parts new h.stands s.counters s.counters h.lone seat within refl refl refl (told_task task) refl refl (told-ran task);
          bounds = cut-bounded parts h.stands s.stop going still s.counters s.counters h.bounds refl seat task side attempt.tried.number steps place
              refl m.may low;
          waiting = told-waiting parts seat attempt.tried.number had busy (note_entry EntryKind.Cut seat attempt.tried.number steps place) refl
              (told_task task)
              parts.turns true h.waiting;
          once = told-once parts seat attempt.tried.number had busy (note_entry EntryKind.Cut seat attempt.tried.number steps place) refl (told_task task)
              parts.turns true h.once;
          caused = record {
            cause = record { turns = used_up; left = (task-more parts h.stands seat attempt has).empty };
            told = going-untold parts parts s.stop going s.certificates h.caused;
            ends = inr (ends EntryKind.Cut);
          };
          counters = h.counters;
          seated = seated-on parts new seat (told_task task) refl within h.seated (told-member task) (λ i b. b);
        }

    pub sound-tall : parts.turns < parts.limits.turns → IsTooHigh side place → Sound (after (Event.Tall seat attempt steps place) s)
    unfolding ends
    sound-tall left high =
        let new = has_grown_tall seat attempt.tried.number steps place task parts in
        let counted = one_counted Counted.Tall s.counters in record {
          stopped = refl;
          stands = tall-stands parts seat task side attempt.tried.number steps place refl m.may h.stands left high;
          pool = h.pool;
          alone = tall-alone parts seat task side attempt.tried.number steps place refl m.may h.alone;
          lone = lone-on parts new h.stands s.counters counted h.lone seat within refl refl refl (told_task task) refl refl (told-ran task);
          bounds = tall-bounded parts h.stands s.stop going still s.counters counted h.bounds refl seat task side attempt.tried.number steps place
              refl m.may low
              attempt.tried.number;
          waiting = told-waiting parts seat attempt.tried.number had busy (note_entry EntryKind.Tall seat attempt.tried.number steps place) refl
              (told_task task)
              (parts.turns + 1) true h.waiting;
          once = told-once parts seat attempt.tried.number had busy (note_entry EntryKind.Tall seat attempt.tried.number steps place) refl (told_task task)
              (parts.turns + 1) true h.once;
          caused = record {
            cause = tt;
            told = going-untold parts parts s.stop going s.certificates h.caused;
            ends = record { ends = ends EntryKind.Tall; its = refl };
          };
          counters = one-counts parts.turns s.counters h.counters Counted.Tall;
          seated = seated-on parts new seat (told_task task) refl within h.seated (told-member task) (λ i b. b);
        }

-- A stop that no seat's event makes

cause-stopped : (why : Stop) (parts : Parts) → IsCause (Some why) parts → IsCause (Some why) (has_stopped parts)
cause-stopped Stop.Finished x e = e
cause-stopped Stop.Blocked x e = e
cause-stopped Stop.Spent x e = record { turns = e.turns; left = e.left }
cause-stopped (Stop.Tall number) x e = tt
cause-stopped Stop.NoMemory x e = tt
cause-stopped Stop.WriteFault x e = tt
cause-stopped (Stop.DeviceFault device) x e = e

notes-none : (why : Stop) (entries : List Entry) → only_seats_keep why ≡ false → AreOrdinary entries → NotesStop (Some why) entries
notes-none Stop.Finished entries apart all = all
notes-none Stop.Blocked entries apart all = all
notes-none Stop.Spent entries apart all = inl all
notes-none (Stop.Tall number) entries apart all = absurd (let clash : true ≡ false = apart in cc)
notes-none Stop.NoMemory entries apart all = all
notes-none Stop.WriteFault entries apart all = all
notes-none (Stop.DeviceFault device) entries apart all = all

certificates-stopped : (why : Stop) (parts : Parts) → certificates_for (Some why) parts ≡ certificates_for (Some why) (has_stopped parts)
certificates-stopped Stop.Finished x = refl
certificates-stopped Stop.Blocked x = refl
certificates-stopped Stop.Spent x = refl
certificates-stopped (Stop.Tall number) x = refl
certificates-stopped Stop.NoMemory x = refl
certificates-stopped Stop.WriteFault x = refl
certificates-stopped (Stop.DeviceFault device) x = refl

pub sound-halted : (s : EngineState) → Sound s → (why : Stop) → MayHalt s why → Sound (after (Event.Halt why) s)
sound-halted s h why m = record {
  stopped = refl;
  stands = stopped_stands s.parts h.stands;
  pool = h.pool;
  alone = stop-alone s.parts h.alone;
  lone = record { counts = h.lone.counts; valid = h.lone.valid };
  bounds = stop-bounded s.parts h.stands s.stop m.none (not-stopped s h m.none) s.counters s.counters h.bounds refl why m.leaves;
  waiting = stop-waiting s.parts h.waiting;
  once = stop-once s.parts h.once;
  caused = record {
    cause = cause-stopped why s.parts m.cause;
    told = certificates-stopped why s.parts;
    ends = notes-none why s.parts.entries m.apart (going-ordinary s.parts s.parts s.stop m.none s.certificates h.caused);
  };
  counters = h.counters;
  seated = seated-still s.parts (has_stopped s.parts) refl (λ i b. b) h.seated;
}
