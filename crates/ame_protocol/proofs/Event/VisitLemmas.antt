-- Unprotected code is visited, or its device fails, and the state stays sound.
use Rattle.std.proofs.Common.{Bool, None, Option, Some, ap, false, length, refl, subst, true, ℕ, ◌++◌, ◌+◌, ◌<◌, ◌≡◌}
use Rattle.ame_term.specs.Tree.{Tree, Val}
use Rattle.ame_rows.specs.MemoryView.{MemoryView}
use Rattle.ame_pool.specs.Calls.{IsAt, exchanged}
use Rattle.ame_pool.specs.Roster.{Roster}
use Rattle.ame_machine.specs.Run.Local.{LocalState}
use Rattle.ame_protocol.specs.Engine.Events.{with_newcomers}
use Rattle.ame_protocol.specs.Engine.Parts.{Parts, attempt_of, member_of, task_at}
use Rattle.ame_protocol.specs.Engine.Tasks.{MeetsTask, Visits, is_busy_as}
use Rattle.ame_protocol.specs.Visits.Visit.{free_entry, has_been_refused, has_visited}
use Rattle.ame_protocol.specs.declared.types.Attempt.{Attempt}
use Rattle.ame_protocol.specs.declared.types.Task.{Task}
use Rattle.ame_protocol.proofs.Engine.StepLemmas.{seat_within}
use Rattle.ame_protocol.proofs.Engine.ToldLemmas.{next-free}
use Rattle.ame_protocol.proofs.Visits.AloneLemmas.{visit-alone}
use Rattle.ame_protocol.proofs.Visits.RefuseLemmas.{refused-alone, refused-stands}
use Rattle.ame_protocol.proofs.Visits.StandLemmas.{visit-stands}
use Rattle.ame_protocol.proofs.Visits.VisitLemmas.{Visited, visited}
use Rattle.ame_protocol.proofs.Waits.VisitLemmas.{refused-once, refused-waiting, visit-once, visit-waiting}
use Rattle.ame_protocol.specs.Event.Causes.{HasCause}
use Rattle.ame_protocol.specs.Event.Counting.{Counted, one_counted}
use Rattle.ame_protocol.specs.Event.Faults.{LeadsToCall}
use Rattle.ame_protocol.specs.declared.counters.Counters.{Counters}
use Rattle.ame_protocol.specs.declared.stop.Stop.{Stop}
use Rattle.ame_protocol.proofs.Event.BoundLemmas.{refused-bounded, visited-bounded}
use Rattle.ame_protocol.proofs.Event.CauseLemmas.{going-cause, refused-cause}
use Rattle.ame_protocol.proofs.Event.CountLemmas.{one-counts}
use Rattle.ame_protocol.proofs.Event.LoneLemmas.{lone-left}
use Rattle.ame_protocol.proofs.Event.RollbackLemmas.{good-exchanged, good-home}
use Rattle.ame_protocol.specs.Event.After.{after}
use Rattle.ame_protocol.specs.Event.Event.{Event}
use Rattle.ame_protocol.specs.Event.May.{HasATurn, MayVisit}
use Rattle.ame_protocol.specs.Event.Sound.{Sound}
use Rattle.ame_protocol.specs.Event.EngineState.{EngineState}
use Rattle.ame_protocol.proofs.Event.ActLemmas.{not-stopped}
use Rattle.ame_protocol.proofs.Event.PoolLemmas.{LeavesBusy, busy-newcomers, good-newcomers, leaves-exchanged, leaves-home}
use Rattle.ame_protocol.proofs.Event.SeatedLemmas.{seated-home}

module _ (s : EngineState) (h : Sound s) (g : HasATurn s) (seat : ℕ) (attempt : Attempt) (task : task_at s.parts.tasks seat ≡ Task.Free attempt) where
  abbrev parts : Parts
  parts = s.parts

  still : parts.stopped ≡ false
  still = not-stopped s h g.going

  within : seat < length parts.tasks
  within = seat_within parts.tasks seat attempt (ap attempt_of task)

  had : member_of (task_at parts.tasks seat) ≡ Some attempt.tried.number
  had = ap member_of task

  busy : IsAt (is_busy_as false) attempt.tried.number parts.pool
  busy = let visits : Visits parts h.stands.types seat attempt = subst (MeetsTask parts h.stands.types seat) task (h.stands.seats seat) in visits.work.busy

  idle-now : (t : Attempt) → Task.Idle ≡ Task.Running t → ⊥
  idle-now t e = cc

  abbrev counted : Counters
  counted = one_counted Counted.Free s.counters

  module _ (steps : ℕ) (place : LocalState) (inside : Bool) (memory : MemoryView Val) (v : MayVisit s seat attempt steps place inside memory) where
    abbrev new : Parts
    new = has_visited seat attempt.tried.number steps place inside memory parts

    abbrev larger : Roster Tree
    larger = with_newcomers parts.next place.spawns parts.pool

    is-visited : Visited parts h.stands seat attempt.tried.number steps place inside memory
    is-visited = visited parts h.stands seat attempt task steps place inside memory v.visit

    leaves : LeavesBusy parts.pool (exchanged attempt.tried.number place.term inside larger) attempt.tried.number
    leaves =
        let gone = leaves-exchanged attempt.tried.number place.term inside larger in
        record {
          before = λ i b. busy-newcomers parts.next place.spawns parts.pool (next-free parts h.stands) i (gone.before i b);
          gone = gone.gone;
        }

    pub sound-visited : Sound (after (Event.Visit seat attempt steps place inside memory) s)
    sound-visited = record {
      stopped = h.stopped;
      stands = visit-stands parts h.stands seat attempt task steps place inside memory is-visited g.left;
      pool = good-exchanged attempt.tried.number place.term inside larger
          (good-newcomers parts.next place.spawns parts.pool (next-free parts h.stands) h.pool);
      alone = visit-alone parts h.stands h.alone seat attempt task steps place inside memory is-visited;
      lone = lone-left parts new h.stands s.counters counted h.lone seat within refl refl refl Task.Idle refl idle-now;
      bounds = visited-bounded parts h.stands s.stop g.going still s.counters counted h.bounds refl seat attempt task h.pool.few steps place inside
          memory v.visit v.more;
      waiting = visit-waiting parts seat attempt.tried.number had busy (free_entry seat attempt.tried.number steps place) refl h.stands memory
          place.term inside
          place.spawns (parts.output ++ place.prints) (parts.next + length place.spawns) (parts.turns + 1) (λ other apart. is-visited.settles.framed other)
          is-visited.settles.keeps h.waiting;
      once = visit-once parts seat attempt.tried.number had busy (free_entry seat attempt.tried.number steps place) refl h.stands memory place.term inside
          place.spawns (parts.output ++ place.prints) (parts.next + length place.spawns) (parts.turns + 1) h.once;
      caused = going-cause parts new s.stop g.going s.certificates h.caused (free_entry seat attempt.tried.number steps place) refl refl;
      counters = one-counts parts.turns s.counters h.counters Counted.Free;
      seated = seated-home parts new seat Task.Idle refl within h.seated attempt.tried.number had leaves;
    }

  module _ (device : ℕ) (leads : LeadsToCall parts device) where
    abbrev refused : Parts
    refused = has_been_refused seat attempt.tried.number parts

    none-caused : HasCause None s.certificates parts
    none-caused = subst (λ (o : Option Stop). HasCause o s.certificates parts) g.going h.caused

    pub sound-refused : Sound (after (Event.Refuse seat attempt device) s)
    sound-refused = record {
      stopped = refl;
      stands = refused-stands parts h.stands seat attempt task g.left;
      pool = good-home attempt.tried.number false parts.pool h.pool;
      alone = refused-alone parts h.stands seat attempt task h.alone;
      lone = lone-left parts refused h.stands s.counters counted h.lone seat within refl refl refl Task.Idle refl idle-now;
      bounds = refused-bounded parts h.stands s.stop g.going still s.counters counted h.bounds refl seat attempt task device;
      waiting = refused-waiting parts seat attempt.tried.number had busy (parts.turns + 1) true h.waiting;
      once = refused-once parts seat attempt.tried.number had busy (parts.turns + 1) true h.once;
      caused = refused-cause device parts refused s.certificates none-caused (record { program = refl; base = refl; entries = refl }) leads;
      counters = one-counts parts.turns s.counters h.counters Counted.Free;
      seated = seated-home parts refused seat Task.Idle refl within h.seated attempt.tried.number had (leaves-home attempt.tried.number false parts.pool);
    }
