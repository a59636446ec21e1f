-- A seat's work in flight after its event.
use Rattle.std.proofs.Common.{◌≡◌, ℕ, ◌<◌, ◌≤◌, ◌⊎◌, inl, inr, Bool, true, false, List, Some, refl, sym, ap, ◌∙◌, subst, arith}
use Rattle.std.specs.Prelude.{is_some}
use Rattle.std.proofs.lemmas.Bool.{cases_lt}
use Rattle.ame_term.specs.Tree.{Val}
use Rattle.ame_term.specs.Act.{Act}
use Rattle.ame_term.specs.declared.types.Sort.{Sort}
use Rattle.ame_term.specs.declared.types.TyNo.{TyNo}
use Rattle.ame_journal.specs.Replay.{redex_act}
use Rattle.ame_machine.specs.Run.Local.{LocalState, begun_with}
use Rattle.ame_machine.specs.MachineView.{MachineView, running_side}
use Rattle.ame_machine.proofs.MoveLemmas.{low-none}
use Rattle.ame_machine.specs.Need.{Need, need_of}
use Rattle.ame_machine.specs.Input.{value_set, value_to_set}
use Rattle.ame_machine.specs.Comes.{HasNextAct}
use Rattle.ame_machine.proofs.NeedLemmas.{comes_as}
use Rattle.ame_protocol.specs.declared.types.Attempt.{Attempt}
use Rattle.ame_protocol.specs.declared.types.UndoReason.{UndoReason}
use Rattle.ame_protocol.specs.declared.types.Task.{Task}
use Rattle.ame_protocol.specs.Engine.Parts.{Parts, task_at, attempt_of, term_at, working}
use Rattle.ame_protocol.specs.Engine.Events.{has_turned_back, with_memory, with_task, with_try, brought_home, has_undone, has_gone_home}
use Rattle.ame_protocol.proofs.Engine.StepLemmas.{seat_within, task_here}
use Rattle.ame_rows.specs.LettingGo.{undone_last}
use Rattle.ame_protocol.specs.Waits.Noted.{has_noted}
use Rattle.ame_protocol.specs.Visits.Stops.{told_task, has_been_cut, has_grown_tall}
use Rattle.ame_protocol.specs.Visits.Visit.{has_visited, has_been_refused}
use Rattle.ame_rows.specs.MemoryView.{MemoryView, row_at}
use Rattle.ame_journal.specs.declared.certificate.Certificate.{Certificate}
use Rattle.ame_protocol.specs.declared.counters.Counters.{Counters}
use Rattle.ame_engine.specs.declared.pick.Pick.{Pick}
use Rattle.ame_protocol.specs.declared.stop.Stop.{Stop}
use Rattle.ame_engine.specs.declared.answer.Begin.TheVariants as answer
use Rattle.ame_engine.specs.AtWork.{IsOn}
use Rattle.ame_engine.specs.Core.{Core}
use Rattle.ame_engine.specs.Seen.{parts_of, MakesEvent, MakesLastEvent}
use Rattle.ame_engine.specs.Begins.{Answers}
use Rattle.ame_engine.specs.Stops.{stopped_by, blocked_by}
use Rattle.ame_engine.specs.Committing.{ended_at, left_at}
use Rattle.ame_engine.specs.Whole.{resting_at}
use Rattle.ame_protocol.specs.Event.Undoing.{is_undoing}
use Rattle.ame_engine.proofs.ReadLemmas.{runs-as}
use Rattle.ame_shell.specs.declared.work.Work.{Work}
use Rattle.ame_shell.specs.Low.{MachineGoesLow}
use Rattle.ame_shell.specs.Work.{CanUndo, IsAtWork, Fits}
use Rattle.ame_shell.specs.Outcomes.{StopsBy}
use Rattle.ame_shell.proofs.OutcomeRows.{working-busy}
use Rattle.ame_shell.proofs.EndsLemmas.{turn-tasks}
use Rattle.ame_shell.proofs.RestLemmas.{by-stop}
use Rattle.ame_machine.specs.Meaning.{Meaning}

working-attempt : (t : Task) (a : Attempt) → working t ≡ Some a → attempt_of t ≡ Some a
working-attempt Task.Idle a e = cc
working-attempt (Task.Running b) a e = e
working-attempt (Task.Free b) a e = e
working-attempt (Task.Undoing b reason) a e = cc

told-busy : (t : Task) → is_some (attempt_of (told_task t)) ≡ is_some (attempt_of t)
told-busy Task.Idle = refl
told-busy (Task.Running b) = refl
told-busy (Task.Free b) = refl
told-busy (Task.Undoing b reason) = refl

-- the value that a machine sets which wants a new cell, or to write
pub alloc-sets : (s : MachineView) (sort : Sort) (ty : TyNo) → Need.Alloc sort ty ≡ need_of s → (v : Val) × (value_to_set s ≡ Some v)
alloc-sets s sort ty need =
    let n : (v : Val) × HasNextAct s (Act.Allocates sort ty v) = comes_as s (Need.Alloc sort ty) need in
    let h : HasNextAct s (Act.Allocates sort ty n.0) = n.1 in (n.0, ap value_set (ap redex_act h.1 ∙ ap (λ (a : Act). Some a) h.2))

pub write-sets : (s : MachineView) (l : ℕ) → Need.Write l ≡ need_of s → (v : Val) × (value_to_set s ≡ Some v)
write-sets s l need =
    let n : (v : Val) × HasNextAct s (Act.Writes l v) = comes_as s (Need.Write l) need in
    let h : HasNextAct s (Act.Writes l n.0) = n.1 in (n.0, ap value_set (ap redex_act h.1 ∙ ap (λ (a : Act). Some a) h.2))

pub at-most-one : (n : ℕ) → (1 < n → ⊥) → n ≤ 1
at-most-one n few = by (cases_lt 1 n)
  where
    by : (1 < n) ⊎ (n ≤ 1) → n ≤ 1
    by (inl more) = absurd (few more)
    by (inr less) = less

-- an answer to a seat that begins, by what it meets
module _ {M : Type 0} (begins : ℕ → M → Type 0) (keeps : Stop → Type 0) (blocks stays : Type 0) where
  pub begun-met : (pick : Pick) (m : M) → Answers begins keeps blocks stays pick (answer.Begun m) → (number : ℕ) × (pick ≡ Pick.Member number) × begins number m
  begun-met (Pick.Member number) m h = (number, refl, h)
  begun-met Pick.Stopped m h = absurd h
  begun-met Pick.Finished m h = absurd h
  begun-met Pick.Blocked m h = absurd h
  begun-met Pick.Spent m h = absurd h
  begun-met Pick.Idle m h = absurd h

  pub idle-met : (pick : Pick) → Answers begins keeps blocks stays pick answer.Idle → (pick ≡ Pick.Idle) × stays
  idle-met (Pick.Member number) h = absurd h
  idle-met Pick.Stopped h = absurd h
  idle-met Pick.Finished h = absurd h
  idle-met Pick.Blocked h = absurd h
  idle-met Pick.Spent h = absurd h
  idle-met Pick.Idle h = (refl, h)

module _ {C V M : Type 0} (begins : ℕ → M → Type 0) (certificates : List Certificate) (old new : Core C V M) where
  pub stopped-met : (pick : Pick) → Answers begins (λ why. new ≡ stopped_by why old) (new ≡ blocked_by certificates old) (new ≡ old) pick answer.Stopped
      → StopsBy certificates pick old new
  stopped-met (Pick.Member number) h = absurd h
  stopped-met Pick.Stopped h = h
  stopped-met Pick.Finished h = h
  stopped-met Pick.Blocked h = h
  stopped-met Pick.Spent h = h
  stopped-met Pick.Idle h = absurd h

module _ {C V M : Type 0} (meaning : Meaning C V M)
    (old new : Core C V M) (seat : ℕ) where
  abbrev parts : Parts
  parts = parts_of meaning old

  abbrev Makes : (Counters → Counters) → (Parts → Parts) → Type 0
  Makes counts event = MakesEvent meaning counts event old new

  abbrev MakesLast : Stop → (Counters → Counters) → (Parts → Parts) → Type 0
  MakesLast why counts event = MakesLastEvent meaning why counts event old new

  -- the task of the seat afterwards
  after-task : (counts : Counters → Counters) (event : Parts → Parts) (task : Task) → Makes counts event → (event parts).tasks ≡ (with_task seat task parts).tasks
      → (a : Attempt) → attempt_of (task_at old.tasks seat) ≡ Some a → task_at new.tasks seat ≡ task
  after-task counts event task makes same a has =
      ap (λ (p : Parts). task_at p.tasks seat) makes.parts ∙ ap (λ (ts : List Task). task_at ts seat) same
      ∙ task_here old.tasks seat task (seat_within old.tasks seat a has)

  undoing-fits : (a : Attempt) (reason : UndoReason) → task_at new.tasks seat ≡ Task.Undoing a reason → CanUndo new seat
  undoing-fits a reason is = record { busy = ap (λ (t : Task). is_some (attempt_of t)) is; undoes = λ _. ap is_undoing is }

  -- it turned back
  pub back-fits : (counts : Counters → Counters) (a : Attempt) → task_at old.tasks seat ≡ Task.Running a → Makes counts (has_turned_back seat a) → CanUndo new seat
  back-fits counts a task makes =
      undoing-fits a UndoReason.RolledBack
      (after-task counts (has_turned_back seat a) (Task.Undoing a UndoReason.RolledBack) makes refl a (ap attempt_of task))

  -- its member was noted
  pub noted-fits : (counts : Counters → Counters) (a : Attempt) (steps : ℕ) (p : LocalState) → task_at old.tasks seat ≡ Task.Running a
      → Makes counts (has_noted seat a steps p) → CanUndo new seat
  noted-fits counts a steps p task makes =
      undoing-fits (record a { logged = true }) UndoReason.Noted
      (after-task counts (has_noted seat a steps p) (Task.Undoing (record a { logged = true }) UndoReason.Noted) makes refl a (ap attempt_of task))

  -- it undid an entry
  pub undid-fits : (counts : Counters → Counters) (a : Attempt) (reason : UndoReason) → attempt_of (task_at old.tasks seat) ≡ Some a
      → Makes counts (has_undone seat a reason) → CanUndo new seat
  undid-fits counts a reason has makes =
      undoing-fits a reason
      (after-task counts (has_undone seat a reason) (Task.Undoing a reason) makes
      (turn-tasks (with_task seat (Task.Undoing a reason) (with_memory (undone_last seat parts.memory) parts))) a has)

  -- its member went home
  pub home-fits : (counts : Counters → Counters) (a : Attempt) (reason : UndoReason) → attempt_of (task_at old.tasks seat) ≡ Some a
      → Makes counts (has_gone_home seat a reason) → task_at new.tasks seat ≡ Task.Idle
  home-fits counts a reason has makes =
      after-task counts (has_gone_home seat a reason) Task.Idle makes
      (turn-tasks
      (with_task seat Task.Idle (record parts {
        memory = undone_last seat parts.memory;
        pool = brought_home reason a.tried.number parts.pool;
        tried = with_try a parts.tried;
      }))) a has

  -- its member ended or left
  pub ended-fits : (counts : Counters → Counters) (a : Attempt) (s : MachineView) → task_at old.tasks seat ≡ Task.Running a
      → Makes counts (ended_at seat a.tried.number s) → task_at new.tasks seat ≡ Task.Idle
  ended-fits counts a s task makes = after-task counts (ended_at seat a.tried.number s) Task.Idle makes refl a (ap attempt_of task)

  pub left-fits : (counts : Counters → Counters) (a : Attempt) (s : MachineView) → task_at old.tasks seat ≡ Task.Running a
      → Makes counts (left_at seat a.tried.number s) → task_at new.tasks seat ≡ Task.Idle
  left-fits counts a s task makes = after-task counts (left_at seat a.tried.number s) Task.Idle makes refl a (ap attempt_of task)

  -- its visit ended
  pub visited-fits : (counts : Counters → Counters) (a : Attempt) (number steps : ℕ) (p : LocalState) (inside : Bool) (memory : MemoryView Val)
      → task_at old.tasks seat ≡ Task.Free a → Makes counts (has_visited seat number steps p inside memory) → task_at new.tasks seat ≡ Task.Idle
  visited-fits counts a number steps p inside memory task makes =
      after-task counts (has_visited seat number steps p inside memory) Task.Idle makes refl a (ap attempt_of task)

  pub refused-fits : (why : Stop) (counts : Counters → Counters) (a : Attempt) (number : ℕ) → task_at old.tasks seat ≡ Task.Free a
      → MakesLast why counts (has_been_refused seat number) → task_at new.tasks seat ≡ Task.Idle
  refused-fits why counts a number task makes =
      ap (λ (p : Parts). task_at p.tasks seat) makes.parts ∙ task_here old.tasks seat Task.Idle (seat_within old.tasks seat a (ap attempt_of task))

  -- a stop is kept, and it has what it had at work
  last-fits : (why : Stop) → new.stop ≡ Some why → is_some (attempt_of (task_at new.tasks seat)) ≡ true → CanUndo new seat
  last-fits why is busy = record { busy = busy; undoes = λ going. absurd (let stops : is_some new.stop ≡ true = ap is_some is in cc) }

  told-fits : (event : Parts → Parts) (why : Stop) (counts : Counters → Counters) (a : Attempt) → working (task_at old.tasks seat) ≡ Some a
      → MakesLast why counts event → (event parts).tasks ≡ (with_task seat (told_task (task_at old.tasks seat)) parts).tasks → CanUndo new seat
  told-fits event why counts a has makes same =
      let task = task_at old.tasks seat in
      last-fits why makes.stop
      (ap (λ (p : Parts). is_some (attempt_of (task_at p.tasks seat))) makes.parts ∙ ap (λ (ts : List Task). is_some (attempt_of (task_at ts seat))) same
      ∙ ap (λ (t : Task). is_some (attempt_of t)) (task_here old.tasks seat (told_task task) (seat_within old.tasks seat a (working-attempt task a has)))
      ∙ told-busy task ∙ working-busy task a has)

  pub tall-fits : (why : Stop) (counts : Counters → Counters) (a : Attempt) (steps : ℕ) (p : LocalState) → working (task_at old.tasks seat) ≡ Some a
      → MakesLast why counts (has_grown_tall seat a.tried.number steps p (task_at old.tasks seat)) → CanUndo new seat
  tall-fits why counts a steps p has makes = told-fits (has_grown_tall seat a.tried.number steps p (task_at old.tasks seat)) why counts a has makes refl

  pub cut-fits : (why : Stop) (counts : Counters → Counters) (a : Attempt) (steps : ℕ) (p : LocalState) → working (task_at old.tasks seat) ≡ Some a
      → MakesLast why counts (has_been_cut seat a.tried.number steps p (task_at old.tasks seat)) → CanUndo new seat
  cut-fits why counts a steps p has makes = told-fits (has_been_cut seat a.tried.number steps p (task_at old.tasks seat)) why counts a has makes refl

  pub stopped-undoes : (why : Stop) → is_some (attempt_of (task_at old.tasks seat)) ≡ true → new ≡ stopped_by why old → CanUndo new seat
  stopped-undoes why busy is = record {
    busy = ap (λ (c : Core C V M). is_some (attempt_of (task_at c.tasks seat))) is ∙ busy;
    undoes = λ going. absurd (let stops : is_some new.stop ≡ true = ap (λ (c : Core C V M). is_some c.stop) is in cc);
  }

  -- a machine at work has an attempt
  pub at-work-busy : (m : M) → IsAtWork meaning old seat m → is_some (attempt_of (task_at old.tasks seat)) ≡ true
  at-work-busy m at = working-busy (task_at old.tasks seat) at.on.stands.attempt at.on.stands.has

  -- memory ran out, and the engine is as before but for the stop
  module _ (mid : Core C V M) (same : mid ≡ old) (is : new ≡ stopped_by Stop.NoMemory mid) where
    pub lacked-done : new ≡ stopped_by Stop.NoMemory old
    lacked-done = is ∙ ap (stopped_by Stop.NoMemory) same

    pub lacked-fits : (w : Work M) → Fits meaning old seat w → Fits meaning new seat w
    lacked-fits w fits = by-stop meaning old new seat Stop.NoMemory lacked-done w fits

  -- it runs protected code
  pub running : (m : M) (at : IsAtWork meaning old seat m) → (meaning.stage old.code m).inside ≡ false
      → task_at old.tasks seat ≡ Task.Running at.on.stands.attempt
  running m at outside = runs-as parts seat (meaning.stage old.code m) at.on.stands outside

-- it has just begun
pub begun-fits : {C V M : Type 0} (meaning : Meaning C V M) (core : Core C V M) (seat : ℕ) (m : M) → IsOn meaning core seat m
    → meaning.stage core.code m ≡ resting_at (meaning.stage core.code m).term (meaning.stage core.code m).inside → IsAtWork meaning core seat m
begun-fits meaning core seat m on rests =
    let s = meaning.stage core.code m in
    let steps : s.steps ≡ 0 = ap (λ (x : MachineView). x.steps) rests in
    record {
      on = on;
      within = let since : s.since ≡ 0 = ap (λ (x : MachineView). x.since) rests in omega (arith, since);
      low = subst (MachineGoesLow (parts_of meaning core) seat on.stands.attempt s) (sym steps) (low-none (running_side s) (begun_with (term_at (parts_of meaning core).pool on.stands.attempt.tried.number) (row_at (parts_of meaning core).memory.rows seat).inputs));
    }
