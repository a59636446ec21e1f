-- A row is checked, turns back, is committed or noted, and the state stays sound.
use Rattle.std.proofs.Common.{List, None, Option, Some, [], ap, arith, false, length, refl, subst, sym, true, ℕ, ◌++◌, ◌+◌, ◌<◌, ◌∷◌, ◌≡◌, ◌≤◌}
use Rattle.ame_term.specs.Context.{focus}
use Rattle.ame_term.specs.State.{at_unprotected, at_value}
use Rattle.ame_term.specs.Tree.{Tree}
use Rattle.ame_journal.specs.Replayed.{is_false_condition}
use Rattle.ame_journal.specs.declared.entry.Entry.{Entry}
use Rattle.ame_rows.specs.MemoryView.{row_at}
use Rattle.ame_pool.specs.Begin.{is_exhausted}
use Rattle.ame_pool.specs.Calls.{IsAt, exchanged, removed}
use Rattle.ame_pool.specs.Members.{is_busy}
use Rattle.ame_pool.specs.Roster.{Roster}
use Rattle.ame_machine.specs.Run.Local.{LocalState}
use Rattle.ame_protocol.specs.Bounds.Rollbacks.{MayTurnBack}
use Rattle.ame_protocol.specs.Bounds.Spent.{HasPaidTurns}
use Rattle.ame_protocol.specs.Engine.Alone.{IsExhausted, is_of_protected}
use Rattle.ame_protocol.specs.Engine.Events.{checked_attempt, has_checked, has_ended, has_left, has_turned_back, ran_entry, with_newcomers, woken_for}
use Rattle.ame_protocol.specs.Engine.Parts.{Parts, attempt_of, member_of, task_at}
use Rattle.ame_protocol.specs.Engine.Tasks.{MeetsTask, RunsProtected, is_busy_as}
use Rattle.ame_protocol.specs.Row.Waiting.{read_places}
use Rattle.ame_protocol.specs.Waits.Noted.{has_noted, stuck_entry}
use Rattle.ame_protocol.specs.declared.types.Attempt.{Attempt}
use Rattle.ame_protocol.specs.declared.types.UndoReason.{UndoReason}
use Rattle.ame_protocol.specs.declared.types.Task.{Task}
use Rattle.ame_protocol.proofs.Engine.AloneEvents.{checked_alone, ended-alone, left-alone}
use Rattle.ame_protocol.proofs.Engine.AloneLemmas.{no-other-owner}
use Rattle.ame_protocol.proofs.Engine.CommitLemmas.{ended_stands, left_stands}
use Rattle.ame_protocol.proofs.Engine.GrowthLemmas.{IsFreeFrom, woken-free}
use Rattle.ame_protocol.proofs.Engine.PoolLemmas.{found-at}
use Rattle.ame_protocol.proofs.Engine.StepLemmas.{seat_within}
use Rattle.ame_protocol.proofs.Engine.ToldLemmas.{next-free}
use Rattle.ame_protocol.proofs.Engine.TurnLemmas.{checked_stands, turned_back}
use Rattle.ame_protocol.proofs.Waits.CommitLemmas.{ended-waiting, left-waiting}
use Rattle.ame_protocol.proofs.Waits.NotedLemmas.{noted-alone, noted_stands}
use Rattle.ame_protocol.proofs.Waits.OnceEvents.{ended-once, left-once, note-once}
use Rattle.ame_protocol.proofs.Waits.OnceLemmas.{once-on}
use Rattle.ame_protocol.proofs.Waits.TaskLemmas.{note-waiting, retask-waiting}
use Rattle.ame_protocol.specs.Event.Bounds.{KeepsBounds, refusals}
use Rattle.ame_protocol.specs.Event.Causes.{HasCause, is_ordinary}
use Rattle.ame_protocol.specs.Event.Counting.{Counted, CountsTurns, one_counted}
use Rattle.ame_protocol.specs.Event.Rollbacks.{IsGoodPool}
use Rattle.ame_protocol.specs.declared.counters.Counters.{Counters}
use Rattle.ame_protocol.specs.declared.stop.Stop.{Stop}
use Rattle.ame_protocol.proofs.Event.AloneLemmas.{turned_alone}
use Rattle.ame_protocol.proofs.Event.BoundLemmas.{back-bounded, check-bounded, ended-bounded, left-bounded, noted-bounded}
use Rattle.ame_protocol.proofs.Event.CauseLemmas.{SameJournal, going-cause, task-more, working-cause}
use Rattle.ame_protocol.proofs.Event.CountLemmas.{conflict-refused, invalid-counts, invalid-refused, one-counts}
use Rattle.ame_protocol.proofs.Event.RollbackLemmas.{woken-good, good-exchanged, good-noted, good-removed, rolls-on}
use Rattle.ame_protocol.proofs.Event.LoneLemmas.{lone-left, lone-never, lone-on, no-other}
use Rattle.ame_protocol.specs.Event.After.{after, counted_by, counted_find}
use Rattle.ame_protocol.specs.Event.Event.{Event, Find, Reverse}
use Rattle.ame_protocol.specs.Event.May.{HasRunTo, HasATurn, IsReversed, ReadsAreValid, WakesWatchers}
use Rattle.ame_protocol.specs.Event.Sound.{Sound}
use Rattle.ame_protocol.specs.Event.EngineState.{EngineState}
use Rattle.ame_protocol.proofs.Event.ActLemmas.{not-stopped}
use Rattle.ame_protocol.proofs.Event.PoolLemmas.{LeavesBusy, busy-newcomers, busy-noted, busy-woken, good-newcomers, leaves-exchanged, leaves-removed, running-busy}
use Rattle.ame_protocol.proofs.Event.SeatedLemmas.{seated-home, seated-on}

module _ (s : EngineState) (h : Sound s) (g : HasATurn s) where
  abbrev parts : Parts
  parts = s.parts

  still : parts.stopped ≡ false
  still = not-stopped s h g.going

  -- a slice has some step
  some-slice : 1 ≤ parts.limits.slice
  some-slice =
      let bounds : KeepsBounds None s.counters parts = subst (λ (o : Option Stop). KeepsBounds o s.counters parts) g.going h.bounds in
      let paid : HasPaidTurns parts = bounds.paid in paid.some_slice

  module _ (seat : ℕ) (attempt : Attempt) (task : task_at parts.tasks seat ≡ Task.Running attempt) where
    within : seat < length parts.tasks
    within = seat_within parts.tasks seat attempt (ap attempt_of task)

    number : ℕ
    number = attempt.tried.number

    had : member_of (task_at parts.tasks seat) ≡ Some attempt.tried.number
    had = ap member_of task

    busy : IsAt (is_busy_as false) attempt.tried.number parts.pool
    busy = let runs : RunsProtected parts h.stands.types seat attempt = subst (MeetsTask parts h.stands.types seat) task (h.stands.seats seat) in
        runs.work.busy

    goes-on : (new : Parts) → SameJournal parts new → HasCause s.stop s.certificates new
    goes-on new same =
        working-cause parts new (task-more parts h.stands seat attempt (ap attempt_of task)) same g.left s.stop s.certificates h.caused

    -- Check

    module _ (steps : ℕ) (place : LocalState) (r : HasRunTo s seat attempt steps place) (valid : ReadsAreValid s seat)
        (full : steps ≡ attempt.tried.steps + parts.limits.slice) where
      abbrev checked : Task
      checked = Task.Running (checked_attempt steps attempt parts)

      pub sound-checked : Sound (after (Event.Check seat attempt steps) s)
      sound-checked = record {
        stopped = h.stopped;
        stands = checked_stands parts h.stands seat attempt task g.left steps place r.used (let some = some-slice in omega (arith, full, some))
            (omega (arith, full))
            valid;
        pool = h.pool;
        alone = checked_alone parts h.alone seat steps attempt task valid;
        lone = lone-on parts (has_checked seat steps attempt parts) h.stands s.counters (one_counted Counted.Check s.counters) h.lone seat within
            refl refl refl
            checked refl refl (λ t e. (attempt, task));
        bounds = check-bounded parts h.stands s.stop g.going still s.counters (one_counted Counted.Check s.counters) h.bounds refl seat attempt task
            steps full;
        waiting = retask-waiting parts h.stands seat attempt task h.waiting checked;
        once = once-on parts (has_checked seat steps attempt parts) refl (λ i some. some) h.once;
        caused = goes-on (has_checked seat steps attempt parts) (record { program = refl; base = refl; entries = refl });
        counters = one-counts parts.turns s.counters h.counters Counted.Check;
        seated = seated-on parts (has_checked seat steps attempt parts) seat checked refl within h.seated (sym had) (λ i b. b);
      }

    -- Turn back

    exhausted-here : IsAt is_exhausted attempt.tried.number parts.pool → IsExhausted parts seat attempt
    exhausted-here exhausted = record { task = ap is_of_protected task; has = ap attempt_of task; exhausted = exhausted }

    -- so its member isn't exhausted, and the seat isn't the only one
    unexhausted : (why : Reverse) → IsReversed s seat why → IsAt is_exhausted attempt.tried.number parts.pool → ⊥
    unexhausted (Reverse.Met l owner) why exhausted =
        why.1 (no-other-owner parts h.stands h.alone seat attempt (exhausted-here exhausted) l.0 owner why.0)
    unexhausted (Reverse.Stale find) why exhausted = why (h.alone.valid still seat attempt (exhausted-here exhausted))

    crowded : (why : Reverse) → IsReversed s seat why → parts.limits.seats ≡ 1 → ⊥
    crowded (Reverse.Met l owner) why one = why.1 (no-other parts h.stands one seat attempt (ap attempt_of task) l.0 owner why.0)
    crowded (Reverse.Stale find) why one = why (h.lone.valid one seat attempt task)

    -- so it may be rolled back once more
    pub may-turn : (why : Reverse) → IsReversed s seat why → MayTurnBack attempt.tried.number parts.pool
    may-turn why reversed =
        let m = found-at parts.pool attempt.tried.number (is_busy_as false) busy in
        rolls-on attempt.tried.number parts.pool h.pool m.0 m.1 (unexhausted why reversed)

    one-refused : (why : Reverse) → refusals (counted_by (Event.TurnBack seat attempt why) s) ≡ refusals s.counters + 1
    one-refused (Reverse.Met l owner) = conflict-refused s.counters
    one-refused (Reverse.Stale Find.Check) = invalid-refused Counted.Check s.counters refl
    one-refused (Reverse.Stale Find.Commit) = invalid-refused Counted.Commit s.counters refl
    one-refused (Reverse.Stale Find.Block) = invalid-refused Counted.Block s.counters refl
    one-refused (Reverse.Stale Find.Tall) = invalid-refused Counted.Tall s.counters refl

    one-turned : (why : Reverse) → CountsTurns (parts.turns + 1) (counted_by (Event.TurnBack seat attempt why) s)
    one-turned (Reverse.Met l owner) = one-counts parts.turns s.counters h.counters Counted.Conflict
    one-turned (Reverse.Stale find) = invalid-counts parts.turns s.counters h.counters (counted_find find)

    pub sound-turned : (why : Reverse) → IsReversed s seat why → Sound (after (Event.TurnBack seat attempt why) s)
    sound-turned why reversed = record {
      stopped = h.stopped;
      stands = turned_back parts h.stands seat attempt task g.left;
      pool = h.pool;
      alone = turned_alone parts h.alone seat attempt task (λ going. unexhausted why reversed);
      lone = lone-never (has_turned_back seat attempt parts) (counted_by (Event.TurnBack seat attempt why) s) (crowded why reversed);
      bounds = back-bounded parts h.stands s.stop g.going still s.counters (counted_by (Event.TurnBack seat attempt why) s) h.bounds
          (one-refused why) seat attempt
          task (may-turn why reversed) (crowded why reversed);
      waiting = retask-waiting parts h.stands seat attempt task h.waiting (Task.Undoing attempt UndoReason.RolledBack);
      once = once-on parts (has_turned_back seat attempt parts) refl (λ i some. some) h.once;
      caused = goes-on (has_turned_back seat attempt parts) (record { program = refl; base = refl; entries = refl });
      counters = one-turned why;
      seated = seated-on parts (has_turned_back seat attempt parts) seat (Task.Undoing attempt UndoReason.RolledBack) refl within h.seated (sym had) (λ i b. b);
    }

    -- Ends, leaves and notes

    module _ (steps : ℕ) (place : LocalState) (r : HasRunTo s seat attempt steps place) (valid : ReadsAreValid s seat) where
      adds : (new : Parts) (entry : Entry) → new.entries ≡ parts.entries ++ entry ∷ [] → is_ordinary entry.kind ≡ true → HasCause s.stop s.certificates new
      adds new entry is ordinary = going-cause parts new s.stop g.going s.certificates h.caused entry is ordinary

      free-next : IsFreeFrom parts.next parts.pool
      free-next = next-free parts h.stands

      module _ (woken : List ℕ) (wakes : WakesWatchers s seat woken) where
        abbrev later-pool : Roster Tree
        later-pool = with_newcomers parts.next place.spawns (woken_for woken parts.pool)

        good-later : IsGoodPool later-pool
        good-later =
            good-newcomers parts.next place.spawns (woken_for woken parts.pool) (woken-free parts.next woken parts.pool free-next)
            (woken-good woken parts.pool h.pool)

        busy-later : (i : ℕ) → IsAt is_busy i later-pool → IsAt is_busy i parts.pool
        busy-later i b =
            busy-woken woken parts.pool i
            (busy-newcomers parts.next place.spawns (woken_for woken parts.pool) (woken-free parts.next woken parts.pool free-next) i b)

        leaves-on : (pool : Roster Tree) → LeavesBusy later-pool pool attempt.tried.number → LeavesBusy parts.pool pool attempt.tried.number
        leaves-on pool leaves = record { before = λ i b. busy-later i (leaves.before i b); gone = leaves.gone }

        idle-now : (t : Attempt) → Task.Idle ≡ Task.Running t → ⊥
        idle-now t e = cc

        abbrev committed : Counters
        committed = one_counted Counted.Commit s.counters

        pub sound-ended : at_value (focus place.term) ≡ true → Sound (after (Event.End seat attempt steps place woken) s)
        sound-ended value =
            let new = has_ended seat attempt.tried.number steps place woken parts in record {
              stopped = h.stopped;
              stands = ended_stands parts h.stands seat attempt task g.left steps place r.used valid woken h.pool.rising value;
              pool = good-removed attempt.tried.number later-pool good-later;
              alone = ended-alone parts h.stands h.alone seat attempt task g.left steps place r.used valid woken h.pool.rising;
              lone = lone-left parts new h.stands s.counters committed h.lone seat within refl refl refl Task.Idle refl idle-now;
              bounds = ended-bounded parts h.stands s.stop g.going still s.counters committed h.bounds refl seat attempt task h.pool.few steps place
                  r.used r.more
                  h.pool.rising woken;
              waiting = ended-waiting parts h.stands h.waiting seat attempt task steps place r.used valid woken wakes h.pool.rising;
              once = ended-once parts h.once seat attempt.tried.number steps place woken;
              caused = adds new (ran_entry seat attempt.tried.number steps place) refl refl;
              counters = one-counts parts.turns s.counters h.counters Counted.Commit;
              seated = seated-home parts new seat Task.Idle refl within h.seated attempt.tried.number had
                  (leaves-on (removed attempt.tried.number later-pool) (leaves-removed attempt.tried.number later-pool good-later.rising));
            }

        pub sound-left : at_unprotected (focus place.term) ≡ true → Sound (after (Event.Leave seat attempt steps place woken) s)
        sound-left under =
            let new = has_left seat attempt.tried.number steps place woken parts in record {
              stopped = h.stopped;
              stands = left_stands parts h.stands seat attempt task g.left steps place r.used valid woken under;
              pool = good-exchanged attempt.tried.number place.term true later-pool good-later;
              alone = left-alone parts h.stands h.alone seat attempt task g.left steps place r.used valid woken;
              lone = lone-left parts new h.stands s.counters committed h.lone seat within refl refl refl Task.Idle refl idle-now;
              bounds = left-bounded parts h.stands s.stop g.going still s.counters committed h.bounds refl seat attempt task h.pool.few steps place
                  r.used r.more woken;
              waiting = left-waiting parts h.stands h.waiting seat attempt task steps place r.used valid woken wakes;
              once = left-once parts h.once seat attempt.tried.number steps place woken;
              caused = adds new (ran_entry seat attempt.tried.number steps place) refl refl;
              counters = one-counts parts.turns s.counters h.counters Counted.Commit;
              seated = seated-home parts new seat Task.Idle refl within h.seated attempt.tried.number had
                  (leaves-on (exchanged attempt.tried.number place.term true later-pool) (leaves-exchanged attempt.tried.number place.term true later-pool));
            }

      pub sound-noted : is_false_condition (focus place.term) ≡ true → Sound (after (Event.Note seat attempt steps place) s)
      sound-noted fails =
          let new = has_noted seat attempt steps place parts in
          let next : Task = Task.Undoing (record attempt { logged = true }) UndoReason.Noted in
          let watched = read_places (row_at parts.memory.rows seat).reads in record {
            stopped = h.stopped;
            stands = noted_stands parts h.stands seat attempt task g.left steps place r.used valid fails;
            pool = good-noted attempt.tried.number watched parts.pool h.pool;
            alone = noted-alone parts h.stands h.alone seat attempt task steps place;
            lone = lone-left parts new h.stands s.counters (one_counted Counted.Block s.counters) h.lone seat within refl refl refl next refl
                (λ t e. let clash : Task.Undoing (record attempt { logged = true }) UndoReason.Noted ≡ Task.Running t = e in cc);
            bounds = noted-bounded parts h.stands s.stop g.going still s.counters (one_counted Counted.Block s.counters) h.bounds refl seat attempt
                task h.pool.few
                steps place r.used r.more;
            waiting = note-waiting parts h.stands seat attempt task h.waiting steps place r.used valid fails;
            once = note-once parts h.stands h.once seat attempt steps place task;
            caused = adds new (stuck_entry seat attempt.tried.number steps place) refl refl;
            counters = one-counts parts.turns s.counters h.counters Counted.Block;
            seated = seated-on parts new seat next refl within h.seated (sym had)
                (λ i b. busy-noted attempt.tried.number watched parts.pool i (running-busy attempt.tried.number parts.pool busy) b);
          }
