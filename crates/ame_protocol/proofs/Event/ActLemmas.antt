-- A seat begins a member, reads, writes or makes a cell, and the state stays sound.
use Rattle.std.proofs.Common.{Bool, None, Option, Some, ap, arith, false, inl, inr, is_some, length, refl, true, ℕ, ◌+◌, ◌<◌, ◌∙◌, ◌≡◌, ◌⊎◌}
use Rattle.ame_term.specs.Act.{Act}
use Rattle.ame_term.specs.Tree.{Val}
use Rattle.ame_term.specs.declared.types.Loc.{Loc}
use Rattle.ame_term.specs.declared.types.Sort.{Sort}
use Rattle.ame_term.specs.declared.types.TyNo.{TyNo}
use Rattle.ame_store.specs.Cells.{HasItsParity, IsFree, IsOwnedBy}
use Rattle.ame_rows.specs.MemoryView.{MemoryView}
use Rattle.ame_pool.specs.Keeps.{is_inside_at}
use Rattle.ame_protocol.specs.Engine.Events.{begun_task, fresh_attempt, has_allocated, has_begun, has_read, has_written}
use Rattle.ame_protocol.specs.Engine.Parts.{Parts, attempt_of, member_of}
use Rattle.ame_protocol.specs.Waits.Once.{AreNotedOnce}
use Rattle.ame_protocol.specs.declared.types.Attempt.{Attempt}
use Rattle.ame_protocol.specs.declared.types.Task.{Task}
use Rattle.ame_protocol.proofs.Engine.AccessLemmas.{allocation-stands, read-stands, write-first_stands, write-later_stands}
use Rattle.ame_protocol.proofs.Engine.AloneEvents.{begun-alone}
use Rattle.ame_protocol.proofs.Engine.AloneLemmas.{allocation-alone, read-alone, write-first_alone, write-later_alone}
use Rattle.ame_protocol.proofs.Engine.HomeLemmas.{begun_stands}
use Rattle.ame_protocol.proofs.Waits.OnceEvents.{begin-once}
use Rattle.ame_protocol.proofs.Waits.OnceLemmas.{once-on}
use Rattle.ame_protocol.proofs.Waits.TaskLemmas.{allocation-waiting, begin-waiting, first-waiting, later-waiting, read-waiting}
use Rattle.ame_protocol.specs.Event.Causes.{HasCause}
use Rattle.ame_protocol.specs.Event.Counting.{Counted, one_counted}
use Rattle.ame_protocol.specs.declared.counters.Counters.{Counters}
use Rattle.ame_protocol.specs.declared.stop.Stop.{Stop}
use Rattle.ame_protocol.proofs.Event.BoundLemmas.{allocation-bounded, begun-bounded, first-bounded, later-bounded, read-bounded}
use Rattle.ame_protocol.proofs.Event.CauseLemmas.{begins-more, task-more, working-cause}
use Rattle.ame_protocol.proofs.Event.CountLemmas.{one-counts}
use Rattle.ame_protocol.proofs.Event.LoneLemmas.{allocation-lone, lone-begun, read-lone, write-first_lone, write-later_lone}
use Rattle.ame_protocol.proofs.Event.RollbackLemmas.{good-held}
use Rattle.ame_protocol.specs.Event.After.{after}
use Rattle.ame_protocol.specs.Event.Event.{Event}
use Rattle.ame_protocol.specs.Event.May.{ComesToAct, HasATurn, MayBegin}
use Rattle.ame_protocol.specs.Event.Seated.{AreSeated}
use Rattle.ame_protocol.specs.Event.Sound.{Sound}
use Rattle.ame_protocol.specs.Event.EngineState.{EngineState, cell}
use Rattle.ame_protocol.proofs.Event.PoolLemmas.{busy-held}
use Rattle.ame_protocol.proofs.Event.SeatedLemmas.{seated-begun, seated-still}

-- while no stop is kept
pub not-stopped : (s : EngineState) → Sound s → s.stop ≡ None → s.parts.stopped ≡ false
not-stopped s h going = h.stopped ∙ ap (λ (o : Option Stop). is_some o) going

module _ (s : EngineState) (h : Sound s) (g : HasATurn s) where
  abbrev parts : Parts
  parts = s.parts

  still : parts.stopped ≡ false
  still = not-stopped s h g.going

  -- Begin

  module _ (seat number : ℕ) (m : MayBegin s seat number) where
    abbrev begun_by : Task
    begun_by = begun_task (is_inside_at parts.pool.members number) (fresh_attempt number parts)

    within : seat < length parts.tasks
    within = let tasks = h.stands.bounded.tasks in let there = m.there in omega arith

    its-member : (inside : Bool) → member_of (begun_task inside (fresh_attempt number parts)) ≡ Some number
    its-member true = refl
    its-member false = refl

    pub sound-begun : Sound (after (Event.Begin seat number) s)
    sound-begun = record {
      stopped = h.stopped;
      stands = begun_stands parts h.stands seat number m.idle m.there m.ready g.left;
      pool = good-held number parts.pool h.pool;
      alone = begun-alone parts h.stands h.alone seat number m.idle m.there m.first m.ready;
      lone = lone-begun parts (has_begun seat number parts) h.stands s.counters (one_counted Counted.Begin s.counters) h.lone seat within refl refl refl
          (is_inside_at parts.pool.members number) (fresh_attempt number parts) refl m.idle refl;
      bounds = begun-bounded parts h.stands s.stop g.going still s.counters (one_counted Counted.Begin s.counters) h.bounds refl seat number m.idle m.there;
      waiting = begin-waiting parts h.waiting seat number m.idle;
      once = begin-once parts seat number m.ready h.once;
      caused = working-cause parts (has_begun seat number parts) (begins-more parts number m.first)
          (record { program = refl; base = refl; entries = refl }) g.left
          s.stop s.certificates h.caused;
      counters = one-counts parts.turns s.counters h.counters Counted.Begin;
      seated = seated-begun parts (has_begun seat number parts) seat begun_by refl within h.seated number m.idle
          (its-member (is_inside_at parts.pool.members number)) (λ i apart busy. busy-held number parts.pool i apart busy);
    }

  -- Protected code has come to an act

  module _ (seat : ℕ) (act : Act) (c : ComesToAct s seat act) where
    abbrev attempt : Attempt
    attempt = c.attempt

    -- what is kept whatever the act does to the memory
    act-caused : (memory : MemoryView Val) → HasCause s.stop s.certificates (record parts { memory = memory; turns = parts.turns + 1 })
    act-caused memory =
        working-cause parts (record parts { memory = memory; turns = parts.turns + 1 }) (task-more parts h.stands seat attempt (ap attempt_of c.task))
        (record { program = refl; base = refl; entries = refl }) g.left s.stop s.certificates h.caused

    act-once : (memory : MemoryView Val) → AreNotedOnce (record parts { memory = memory; turns = parts.turns + 1 })
    act-once memory = once-on parts (record parts { memory = memory; turns = parts.turns + 1 }) refl (λ i some. some) h.once

    act-seated : (memory : MemoryView Val) → AreSeated (record parts { memory = memory; turns = parts.turns + 1 })
    act-seated memory = seated-still parts (record parts { memory = memory; turns = parts.turns + 1 }) refl (λ i busy. busy) h.seated

  module _ (seat : ℕ) (l : Loc) (c : ComesToAct s seat (Act.Reads l.0)) (parity : HasItsParity (cell s l.0)) where
    abbrev counted-read : Counters
    counted-read = one_counted Counted.Read s.counters

    pub sound-read : Sound (after (Event.Read seat l) s)
    sound-read = record {
      stopped = h.stopped;
      stands = read-stands parts h.stands seat c.attempt c.task c.steps c.place g.left l c.comes;
      pool = h.pool;
      alone = read-alone parts h.stands h.alone seat c.attempt c.task c.steps c.place l c.comes parity;
      lone = read-lone parts h.stands s.counters counted-read h.lone refl refl seat c.attempt c.task c.steps c.place l c.comes parity;
      bounds = read-bounded parts h.stands s.stop g.going still s.counters counted-read h.bounds refl seat c.attempt c.task c.steps c.place c.early l c.comes;
      waiting = read-waiting parts h.stands seat c.attempt c.task h.waiting l;
      once = act-once seat (Act.Reads l.0) c (has_read seat l parts).memory;
      caused = act-caused seat (Act.Reads l.0) c (has_read seat l parts).memory;
      counters = one-counts parts.turns s.counters h.counters Counted.Read;
      seated = act-seated seat (Act.Reads l.0) c (has_read seat l parts).memory;
    }

  module _ (seat : ℕ) (l : Loc) (v : Val) (c : ComesToAct s seat (Act.Writes l.0 v)) where
    abbrev counted-write : Counters
    counted-write = one_counted Counted.Write s.counters

    -- the first write takes the cell, a later one finds it as the seat's own
    pub sound-written : IsFree (cell s l.0) ⊎ IsOwnedBy seat (cell s l.0) → Sound (after (Event.Write seat l v) s)
    sound-written (inl free) = record {
      stopped = h.stopped;
      stands = write-first_stands parts h.stands seat c.attempt c.task c.steps c.place g.left l v c.comes free;
      pool = h.pool;
      alone = write-first_alone parts h.stands h.alone seat c.attempt c.task c.steps c.place l v c.comes free;
      lone = write-first_lone parts h.stands s.counters counted-write h.lone refl refl seat c.attempt c.task c.steps c.place l v c.comes free;
      bounds = first-bounded parts h.stands s.stop g.going still s.counters counted-write h.bounds refl seat c.attempt c.task c.steps c.place c.early
          l v c.comes free;
      waiting = first-waiting parts h.stands seat c.attempt c.task h.waiting c.steps c.place l v c.comes free;
      once = act-once seat (Act.Writes l.0 v) c (has_written seat l v parts).memory;
      caused = act-caused seat (Act.Writes l.0 v) c (has_written seat l v parts).memory;
      counters = one-counts parts.turns s.counters h.counters Counted.Write;
      seated = act-seated seat (Act.Writes l.0 v) c (has_written seat l v parts).memory;
    }
    sound-written (inr own) = record {
      stopped = h.stopped;
      stands = write-later_stands parts h.stands seat c.attempt c.task c.steps c.place g.left l v c.comes own;
      pool = h.pool;
      alone = write-later_alone parts h.stands h.alone seat c.attempt c.task c.steps c.place l v c.comes own;
      lone = write-later_lone parts h.stands s.counters counted-write h.lone refl refl seat c.attempt c.task c.steps c.place l v c.comes own;
      bounds = later-bounded parts h.stands s.stop g.going still s.counters counted-write h.bounds refl seat c.attempt c.task c.steps c.place c.early
          l v c.comes own;
      waiting = later-waiting parts h.stands seat c.attempt c.task h.waiting c.steps c.place l v c.comes own;
      once = act-once seat (Act.Writes l.0 v) c (has_written seat l v parts).memory;
      caused = act-caused seat (Act.Writes l.0 v) c (has_written seat l v parts).memory;
      counters = one-counts parts.turns s.counters h.counters Counted.Write;
      seated = act-seated seat (Act.Writes l.0 v) c (has_written seat l v parts).memory;
    }

  module _ (seat : ℕ) (sort : Sort) (ty : TyNo) (v : Val) (c : ComesToAct s seat (Act.Allocates sort ty v)) where
    abbrev counted-alloc : Counters
    counted-alloc = one_counted Counted.Alloc s.counters

    pub sound-allocated : Sound (after (Event.Alloc seat sort ty v) s)
    sound-allocated = record {
      stopped = h.stopped;
      stands = allocation-stands parts h.stands seat c.attempt c.task c.steps c.place g.left sort ty v c.comes;
      pool = h.pool;
      alone = allocation-alone parts h.stands h.alone seat c.attempt c.task c.steps c.place sort ty v c.comes;
      lone = allocation-lone parts h.stands s.counters counted-alloc h.lone refl refl seat c.attempt c.task c.steps c.place sort ty v c.comes;
      bounds = allocation-bounded parts h.stands s.stop g.going still s.counters counted-alloc h.bounds refl seat c.attempt c.task c.steps c.place c.early
          sort ty v c.comes;
      waiting = allocation-waiting parts h.stands seat c.attempt c.task h.waiting sort ty v;
      once = act-once seat (Act.Allocates sort ty v) c (has_allocated seat sort ty v parts).memory;
      caused = act-caused seat (Act.Allocates sort ty v) c (has_allocated seat sort ty v parts).memory;
      counters = one-counts parts.turns s.counters h.counters Counted.Alloc;
      seated = act-seated seat (Act.Allocates sort ty v) c (has_allocated seat sort ty v parts).memory;
    }
