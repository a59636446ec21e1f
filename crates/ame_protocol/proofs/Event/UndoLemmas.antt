-- A seat undoes its last entry, or its member goes home, and the state stays sound.
use Rattle.std.proofs.Common.{if◌then◌else◌, Bool, List, Option, Some, [], ap, arith, false, is_some, length}
use Rattle.std.proofs.Common.{option_map, refl, set, subst, sym, true, ℕ, ◌<◌, ◌∙◌, ◌≡◌, ◌≤◌}
use Rattle.ame_term.specs.Tree.{Tree, Val}
use Rattle.ame_rows.specs.LettingGo.{undone_last}
use Rattle.ame_rows.specs.MemoryView.{Log, row_at}
use Rattle.ame_rows.specs.declared.notes.Undo.{Undo}
use Rattle.ame_pool.specs.Roster.{Roster}
use Rattle.ame_protocol.specs.Engine.Alone.{RunsExclusively, is_of_protected}
use Rattle.ame_protocol.specs.Engine.Events.{brought_home, has_gone_home, has_undone, one_turn, undo_turn, with_memory, with_task, with_try}
use Rattle.ame_protocol.specs.Engine.Parts.{Parts, attempt_of, member_of, task_at}
use Rattle.ame_protocol.specs.Engine.Simulates.{Simulates}
use Rattle.ame_protocol.specs.Engine.Tasks.{MeetsTask, Undoes, Visits}
use Rattle.ame_protocol.specs.Waits.Once.{AreNotedOnce}
use Rattle.ame_protocol.specs.Waits.Waiting.{AreWaiting}
use Rattle.ame_protocol.specs.declared.types.Attempt.{Attempt}
use Rattle.ame_protocol.specs.declared.types.UndoReason.{UndoReason}
use Rattle.ame_protocol.specs.declared.types.Task.{Task}
use Rattle.ame_protocol.proofs.Engine.AloneEvents.{home-alone, more-alone}
use Rattle.ame_protocol.proofs.Engine.HomeLemmas.{free_home, running_home, running_more, undoing_home, undoing_more}
use Rattle.ame_protocol.proofs.Engine.StepLemmas.{seat_within}
use Rattle.ame_protocol.proofs.Waits.OnceEvents.{free-once, running-once, undoing-once, undone-once}
use Rattle.ame_protocol.proofs.Waits.UndoLemmas.{free-home, running-home, running-more, undoing-home, undoing-more}
use Rattle.ame_protocol.specs.Event.Causes.{HasCause}
use Rattle.ame_protocol.specs.Event.Counting.{Counted, CountsTurns, one_undone}
use Rattle.ame_protocol.specs.Event.Lone.{IsLone}
use Rattle.ame_protocol.specs.Event.Rollbacks.{IsGoodPool}
use Rattle.ame_protocol.specs.Event.Undoing.{is_undoing, reason_to_undo}
use Rattle.ame_protocol.specs.declared.counters.Counters.{Counters}
use Rattle.ame_protocol.proofs.Event.BoundLemmas.{home-bounded, undone-bounded}
use Rattle.ame_protocol.proofs.Event.CauseLemmas.{HasMore, SameJournal, home-some, task-more, undoing-cause}
use Rattle.ame_protocol.proofs.Event.CountLemmas.{one-counts, undone-refused, unwound-counts}
use Rattle.ame_protocol.proofs.Event.LoneLemmas.{lone-left, undone-conflicts, undone-invalids}
use Rattle.ame_protocol.specs.Event.After.{after}
use Rattle.ame_protocol.specs.Event.Event.{Event}
use Rattle.ame_protocol.specs.Event.May.{MayUndo}
use Rattle.ame_protocol.specs.Event.Seated.{AreSeated}
use Rattle.ame_protocol.specs.Event.Sound.{Sound}
use Rattle.ame_protocol.specs.Event.EngineState.{EngineState}
use Rattle.ame_protocol.proofs.Event.PoolLemmas.{LeavesBusy, good-brought, leaves-brought, leaves-home}
use Rattle.ame_protocol.proofs.Event.SeatedLemmas.{seated-home, seated-on}

-- an undo is a turn or none
by-turn : (P : Parts → Type 0) (parts : Parts) → P parts → P (one_turn parts) → P (undo_turn parts)
by-turn P parts stays turns = by parts.stopped
  where
    by : (b : Bool) → P (if b then parts else one_turn parts)
    by true = stays
    by false = turns

undo-counts : (s : EngineState) → Sound s → (next : Parts) → next.stopped ≡ s.parts.stopped → next.turns ≡ s.parts.turns
    → CountsTurns (undo_turn next).turns (one_undone s.parts.stopped s.counters)
undo-counts s h next same turns =
    subst (λ (b : Bool). CountsTurns (undo_turn next).turns (one_undone b s.counters)) same (by next.stopped)
  where
    before : CountsTurns next.turns s.counters
    before = subst (λ (n : ℕ). CountsTurns n s.counters) (sym turns) h.counters

    by : (b : Bool) → CountsTurns (if b then next else one_turn next).turns (one_undone b s.counters)
    by true = unwound-counts next.turns s.counters before
    by false = one-counts next.turns s.counters before Counted.Undo

-- once a stop is kept it is none
undo-rests : (next : Parts) → next.stopped ≡ true → (undo_turn next).turns ≡ next.turns
undo-rests next stopped = ap (λ (b : Bool). (if b then next else one_turn next).turns) stopped

module _ (s : EngineState) (h : Sound s) (seat : ℕ) (attempt : Attempt) (m : MayUndo s seat attempt) where
  abbrev parts : Parts
  parts = s.parts

  abbrev task : Task
  task = task_at parts.tasks seat

  abbrev reason : UndoReason
  reason = reason_to_undo task

  abbrev undos : List (Undo Val)
  undos = (row_at parts.memory.rows seat).undos

  abbrev counted : Counters
  counted = one_undone parts.stopped s.counters

  within : seat < length parts.tasks
  within = seat_within parts.tasks seat attempt m.has

  had : member_of task ≡ Some attempt.tried.number
  had = ap (λ (o : Option Attempt). option_map (λ (x : Attempt). x.tried.number) o) m.has

  more-there : HasMore parts
  more-there = task-more parts h.stands seat attempt m.has

  -- nothing is logged of unprotected code
  free-clear : (a : Attempt) → task ≡ Task.Free a → undos ≡ []
  free-clear a e =
      let visits : Visits parts h.stands.types seat a = subst (MeetsTask parts h.stands.types seat) e (h.stands.seats seat) in
      ap (λ (n : Log Val). n.undos) visits.clear

  free-none : (a : Attempt) → task ≡ Task.Free a → 1 < length undos → ⊥
  free-none a e more = let none = ap (λ (us : List (Undo Val)). length us) (free-clear a e) in omega (arith, none, more)

  undo-lone : (next : Parts) (later : Task) → next.limits ≡ parts.limits → next.tasks ≡ set parts.tasks seat later
      → ((t : Attempt) → later ≡ Task.Running t → ⊥) → IsLone (undo_turn next) counted
  undo-lone next later limits tasks apart =
      lone-left parts (undo_turn next) h.stands s.counters counted h.lone seat within (by-turn (λ (x : Parts). x.limits ≡ parts.limits) next limits limits)
      (undone-conflicts parts.stopped s.counters) (undone-invalids parts.stopped s.counters) later
      (by-turn (λ (x : Parts). x.tasks ≡ set parts.tasks seat later) next tasks tasks) apart

  undo-caused : (next : Parts) → SameJournal parts next → next.limits ≡ parts.limits → next.stopped ≡ parts.stopped → next.turns ≡ parts.turns
      → (next.pool.members ≡ [] → ⊥) → HasCause s.stop s.certificates (undo_turn next)
  undo-caused next same limits stopped turns some =
      undoing-cause parts (undo_turn next) more-there
      (by-turn (λ (x : Parts). SameJournal parts x) next same (record { program = same.program; base = same.base; entries = same.entries }))
      (by-turn (λ (x : Parts). x.limits ≡ parts.limits) next limits limits) (by-turn (λ (x : Parts). x.pool.members ≡ [] → ⊥) next some some) s.stop
      (λ kept. undo-rests next (stopped ∙ h.stopped ∙ kept) ∙ turns) s.certificates h.caused

  -- Other entries are left

  module _ (more : 1 < length undos) where
    abbrev next : Parts
    next = with_task seat (Task.Undoing attempt reason) (with_memory (undone_last seat parts.memory) parts)

    undone-stands : Simulates (has_undone seat attempt reason parts)
    undone-stands = by task refl m.has
      where
        by : (t : Task) → task ≡ t → attempt_of t ≡ Some attempt → Simulates (has_undone seat attempt (reason_to_undo t) parts)
        by Task.Idle e its = absurd (let clash : attempt_of Task.Idle ≡ Some attempt = its in cc)
        by (Task.Running a) e its = let same : a ≡ attempt = cc in running_more parts seat attempt h.stands (e ∙ ap Task.Running same) m.left more
        by (Task.Free a) e its = absurd (free-none a e more)
        by (Task.Undoing a r) e its =
            let same : a ≡ attempt = cc in undoing_more parts seat attempt r h.stands (e ∙ ap (λ (x : Attempt). Task.Undoing x r) same) m.left more

    undone-waiting : AreWaiting (has_undone seat attempt reason parts)
    undone-waiting = by task refl m.has
      where
        by : (t : Task) → task ≡ t → attempt_of t ≡ Some attempt → AreWaiting (has_undone seat attempt (reason_to_undo t) parts)
        by Task.Idle e its = absurd (let clash : attempt_of Task.Idle ≡ Some attempt = its in cc)
        by (Task.Running a) e its = let same : a ≡ attempt = cc in running-more parts h.stands h.waiting seat attempt (e ∙ ap Task.Running same)
        by (Task.Free a) e its = absurd (free-none a e more)
        by (Task.Undoing a r) e its =
            let same : a ≡ attempt = cc in undoing-more parts h.stands h.waiting seat attempt r (e ∙ ap (λ (x : Attempt). Task.Undoing x r) same)

    undone-alone : RunsExclusively (has_undone seat attempt reason parts)
    undone-alone = more-alone parts h.alone seat attempt reason m.has (protected task refl m.has) not-running
      where
        protected : (t : Task) → task ≡ t → attempt_of t ≡ Some attempt → is_of_protected t ≡ true
        protected Task.Idle e its = absurd (let clash : attempt_of Task.Idle ≡ Some attempt = its in cc)
        protected (Task.Running a) e its = refl
        protected (Task.Free a) e its = absurd (free-none a e more)
        protected (Task.Undoing a r) e its = refl

        not-running : parts.stopped ≡ false → task ≡ Task.Running attempt → ⊥
        not-running going e = let clash : false ≡ true = sym (ap is_undoing e) ∙ m.undoes going in cc

    pub sound-undone : Sound (after (Event.Undo seat attempt) s)
    sound-undone = record {
      stopped = by-turn (λ (x : Parts). x.stopped ≡ is_some s.stop) next h.stopped h.stopped;
      stands = undone-stands;
      pool = by-turn (λ (x : Parts). IsGoodPool x.pool) next h.pool h.pool;
      alone = undone-alone;
      lone = undo-lone next (Task.Undoing attempt reason) refl refl (λ t e. let clash : Task.Undoing attempt reason ≡ Task.Running t = e in cc);
      bounds = undone-bounded parts h.stands s.stop s.counters counted (undone-refused parts.stopped s.counters) h.bounds seat attempt task refl
          m.has m.undoes more;
      waiting = undone-waiting;
      once = undone-once parts h.once seat attempt reason;
      caused = undo-caused next (record { program = refl; base = refl; entries = refl }) refl refl refl more-there.empty;
      counters = undo-counts s h next refl refl;
      seated =
          let seated = seated-on parts next seat (Task.Undoing attempt reason) refl within h.seated (sym had) (λ i b. b) in
          by-turn (λ (x : Parts). AreSeated x) next seated seated;
    }

  -- None is left

  module _ (few : length undos ≤ 1) where
    abbrev home-pool : Roster Tree
    home-pool = brought_home reason attempt.tried.number parts.pool

    abbrev next-home : Parts
    next-home = with_task seat Task.Idle (record parts {
      memory = undone_last seat parts.memory;
      pool = home-pool;
      tried = with_try attempt parts.tried;
    })

    gone-stands : Simulates (has_gone_home seat attempt reason parts)
    gone-stands = by task refl m.has
      where
        by : (t : Task) → task ≡ t → attempt_of t ≡ Some attempt → Simulates (has_gone_home seat attempt (reason_to_undo t) parts)
        by Task.Idle e its = absurd (let clash : attempt_of Task.Idle ≡ Some attempt = its in cc)
        by (Task.Running a) e its = let same : a ≡ attempt = cc in running_home parts seat attempt h.stands (e ∙ ap Task.Running same) m.left few
        by (Task.Free a) e its = let same : a ≡ attempt = cc in free_home parts seat attempt h.stands (e ∙ ap Task.Free same) m.left
        by (Task.Undoing a r) e its =
            let same : a ≡ attempt = cc in undoing_home parts seat attempt r h.stands (e ∙ ap (λ (x : Attempt). Task.Undoing x r) same) m.left few

    gone-waiting : AreWaiting (has_gone_home seat attempt reason parts)
    gone-waiting = by task refl m.has
      where
        by : (t : Task) → task ≡ t → attempt_of t ≡ Some attempt → AreWaiting (has_gone_home seat attempt (reason_to_undo t) parts)
        by Task.Idle e its = absurd (let clash : attempt_of Task.Idle ≡ Some attempt = its in cc)
        by (Task.Running a) e its = let same : a ≡ attempt = cc in running-home parts h.stands h.waiting seat attempt (e ∙ ap Task.Running same) few
        by (Task.Free a) e its = let same : a ≡ attempt = cc in free-home parts h.stands h.waiting seat attempt (e ∙ ap Task.Free same)
        by (Task.Undoing a r) e its =
            let same : a ≡ attempt = cc in undoing-home parts h.stands h.waiting seat attempt r (e ∙ ap (λ (x : Attempt). Task.Undoing x r) same) few

    gone-once : AreNotedOnce (has_gone_home seat attempt reason parts)
    gone-once = by task refl m.has
      where
        by : (t : Task) → task ≡ t → attempt_of t ≡ Some attempt → AreNotedOnce (has_gone_home seat attempt (reason_to_undo t) parts)
        by Task.Idle e its = absurd (let clash : attempt_of Task.Idle ≡ Some attempt = its in cc)
        by (Task.Running a) e its = let same : a ≡ attempt = cc in running-once parts h.stands h.once seat attempt (e ∙ ap Task.Running same)
        by (Task.Free a) e its = let same : a ≡ attempt = cc in free-once parts h.stands h.once seat attempt (e ∙ ap Task.Free same)
        by (Task.Undoing a r) e its =
            let same : a ≡ attempt = cc in undoing-once parts h.stands h.once seat attempt r (e ∙ ap (λ (x : Attempt). Task.Undoing x r) same)

    gone-leaves : LeavesBusy parts.pool home-pool attempt.tried.number
    gone-leaves = by task refl m.has
      where
        by : (t : Task) → task ≡ t → attempt_of t ≡ Some attempt
            → LeavesBusy parts.pool (brought_home (reason_to_undo t) attempt.tried.number parts.pool) attempt.tried.number
        by Task.Idle e its = absurd (let clash : attempt_of Task.Idle ≡ Some attempt = its in cc)
        by (Task.Running a) e its = leaves-home attempt.tried.number false parts.pool
        by (Task.Free a) e its = leaves-home attempt.tried.number false parts.pool
        by (Task.Undoing a r) e its =
            let same : a ≡ attempt = cc in
            let undoes : Undoes parts h.stands.types seat attempt r =
            subst (MeetsTask parts h.stands.types seat) (e ∙ ap (λ (x : Attempt). Task.Undoing x r) same) (h.stands.seats seat) in
            leaves-brought r attempt.tried.number parts.pool undoes.work.busy

    gone-alone : RunsExclusively (has_gone_home seat attempt reason parts)
    gone-alone = home-alone parts h.stands h.alone seat attempt reason m.has (λ going. protected task (m.undoes going))
      where
        protected : (t : Task) → is_undoing t ≡ true → is_of_protected t ≡ true
        protected Task.Idle e = e
        protected (Task.Running a) e = refl
        protected (Task.Free a) e = e
        protected (Task.Undoing a r) e = refl

    good-gone : IsGoodPool home-pool
    good-gone = good-brought reason attempt.tried.number parts.pool h.pool

    pub sound-gone : Sound (after (Event.Home seat attempt) s)
    sound-gone = record {
      stopped = by-turn (λ (x : Parts). x.stopped ≡ is_some s.stop) next-home h.stopped h.stopped;
      stands = gone-stands;
      pool = by-turn (λ (x : Parts). IsGoodPool x.pool) next-home good-gone good-gone;
      alone = gone-alone;
      lone = undo-lone next-home Task.Idle refl refl (λ t e. let clash : Task.Idle ≡ Task.Running t = e in cc);
      bounds = home-bounded parts h.stands s.stop s.counters counted (undone-refused parts.stopped s.counters) h.bounds seat attempt task refl m.has
          m.undoes few;
      waiting = gone-waiting;
      once = gone-once;
      caused = undo-caused next-home (record { program = refl; base = refl; entries = refl }) refl refl refl
          (home-some reason attempt.tried.number parts.pool more-there.empty);
      counters = undo-counts s h next-home refl refl;
      seated =
          let seated = seated-home parts next-home seat Task.Idle refl within h.seated attempt.tried.number had gone-leaves in
          by-turn (λ (x : Parts). AreSeated x) next-home seated seated;
    }
