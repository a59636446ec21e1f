-- The effect of undoing under a kept stop.
use Rattle.std.proofs.Common.{◌≡◌, ℕ, ◌+◌, ◌<◌, ◌≤◌, ◌⊎◌, inl, inr, Bool, true, false, List, length, set, Option, Some, None, refl, sym, ap, ◌∙◌, subst, arith}
use Rattle.std.specs.Prelude.{◌-◌, cond, is_some, if◌then◌else◌}
use Rattle.std.proofs.lemmas.Bool.{cases_lt, lt-ltb}
use Rattle.std.proofs.lemmas.List.{get_or_past, length-map, length-take-le}
use Rattle.ame_term.specs.Tree.{Val}
use Rattle.ame_device.specs.declared.told.Told.{Told}
use Rattle.ame_machine.specs.MachineView.{MachineView}
use Rattle.ame_machine.specs.Meaning.{Meaning}
use Rattle.ame_rows.specs.MemoryView.{Log, MemoryView, no_log, row_at}
use Rattle.ame_rows.specs.LettingGo.{but_last, notes_undone, undone_last}
use Rattle.ame_rows.proofs.LookupLemmas.{row_set_here}
use Rattle.ame_protocol.specs.declared.types.Attempt.{Attempt}
use Rattle.ame_protocol.specs.declared.types.Task.{Task}
use Rattle.ame_protocol.specs.Engine.Events.{one_turn, with_task, with_memory, with_try, brought_home}
use Rattle.ame_protocol.specs.Engine.Parts.{Parts, attempt_of, task_at}
use Rattle.ame_protocol.specs.Engine.Simulates.{Simulates}
use Rattle.ame_protocol.proofs.Engine.ShownMemoryLemmas.{row-shown}
use Rattle.ame_protocol.proofs.Engine.StepLemmas.{task_else, task_here}
use Rattle.ame_protocol.proofs.Row.CellLemmas.{which}
use Rattle.ame_engine.specs.declared.pick.Pick.{Pick}
use Rattle.ame_engine.specs.Begins.{pick_of}
use Rattle.ame_protocol.specs.Event.Causes.{certificates_in}
use Rattle.ame_engine.specs.Core.{Core}
use Rattle.ame_engine.specs.Seen.{parts_of}
use Rattle.ame_protocol.specs.Event.Undoing.{reason_to_undo}
use Rattle.ame_shell.specs.declared.work.Outcome.{Outcome}
use Rattle.ame_shell.specs.Outcomes.{StopsBy}
use Rattle.ame_shell.proofs.OutcomeRows.{HasRow, rowed}
use Rattle.ame_shell.specs.Shell.{ShellView}
use Rattle.ame_shell.specs.Turned.{is_to_flush, HasTurned}
use Rattle.ame_shell.proofs.OutcomeLemmas.{outcome-more}
use Rattle.ame_sim.specs.Crew.{IsUnwound, undos_to_make, left_to_undo}
use Rattle.ame_sim.proofs.TurnLemmas.{stop-met}

-- Logs

-- a log with entries gets shorter
notes-shorter : {V : Type 0} (notes : Log V) → 1 < length notes.undos → length (notes_undone notes).undos < length notes.undos
notes-shorter notes more =
    let n = length notes.undos in
    let test : notes_undone notes ≡ record notes { undos = but_last notes.undos } =
    ap (λ (b : Bool). cond b (record notes { undos = but_last notes.undos }) no_log) (lt-ltb 1 n more) in
    let short = length-take-le (n - 1) notes.undos (omega arith) in
    let same = ap (λ (x : Log _). length x.undos) test in
    omega (arith, short, same, more)

undone-shorter : {V : Type 0} (seat : ℕ) (memory : MemoryView V) → seat < length memory.rows → 1 < length (row_at memory.rows seat).undos
    → length (row_at (undone_last seat memory).rows seat).undos < length (row_at memory.rows seat).undos
undone-shorter seat memory within more =
    let notes = row_at memory.rows seat in
    let here = ap (λ (x : Log _). length x.undos) (row_set_here memory.rows seat (notes_undone notes) within) in
    let shorter = notes-shorter notes more in
    omega (arith, here, shorter)

-- who has an attempt at work has undos left
undos-of : (undos : ℕ) (task : Task) (attempt : Attempt) → attempt_of task ≡ Some attempt → undos_to_make undos task ≡ undos + 1
undos-of undos Task.Idle attempt e = cc
undos-of undos (Task.Running a) attempt e = refl
undos-of undos (Task.Free a) attempt e = refl
undos-of undos (Task.Undoing a reason) attempt e = refl

module _ {C V M : Type 0} (meaning : Meaning C V M) where
  abbrev parts : Core C V M → Parts
  parts core = parts_of meaning core

  undos-shown : (core : Core C V M) (seat : ℕ) → length (row_at (parts core).memory.rows seat).undos ≡ length (row_at core.memory.rows seat).undos
  undos-shown core seat =
      ap (λ (n : Log Val). length n.undos) (row-shown (meaning.value_of core.code) core.memory.rows seat)
      ∙ length-map (row_at core.memory.rows seat).undos _

  -- the engine undoes what a seat has at work, or finds it idle
  pub record Unwinds (seat : ℕ) (old new : Core C V M) : Type 0 where
    pub unwound : IsUnwound old new
    pub others : (other : ℕ) → task_at old.tasks other ≡ Task.Idle → task_at new.tasks other ≡ Task.Idle
    pub less : (task_at old.tasks seat ≡ Task.Idle → ⊥) → left_to_undo new seat < left_to_undo old seat

  module _ (seat : ℕ) (hand : Option MachineView) (old new : Core C V M) (before after : List Told) (stands : Simulates (parts old))
      (within : seat < old.limits.seats) (kept : is_some old.stop ≡ true) where
    in_rows : seat < length (parts old).memory.rows
    in_rows = let rows = stands.bounded.rows in omega (arith, rows, within)

    in_tasks : seat < length old.tasks
    in_tasks = let tasks = stands.bounded.tasks in omega (arith, tasks, within)

    -- a stop is kept
    pub clash : old.stop ≡ None → ⊥
    clash going = let same : false ≡ true = sym (ap is_some going) ∙ kept in cc

    met-clash : (pick : Pick) → pick_of old ≡ pick → Pick.Stopped ≡ pick
    met-clash pick met = sym (stop-met old kept) ∙ met

    -- what is undone: parts become those with another task of the seat, with no turn more
    module _ (next : Parts) (task : Task) (is : parts new ≡ (if is_some old.stop then next else one_turn next)) (stop : new.stop ≡ old.stop)
        (limits : next.limits ≡ old.limits) (turns : next.turns ≡ old.turns) (entries : next.entries ≡ old.entries) (output : next.output ≡ old.output)
        (tasks : next.tasks ≡ set old.tasks seat task) where
      becomes : parts new ≡ next
      becomes = is ∙ ap (λ (b : Bool). if b then next else one_turn next) kept

      undo-unwound : IsUnwound old new
      undo-unwound = record {
        limits = ap (λ (p : Parts). p.limits) becomes ∙ limits;
        stop = stop;
        turns = ap (λ (p : Parts). p.turns) becomes ∙ turns;
        entries = ap (λ (p : Parts). p.entries) becomes ∙ entries;
        output = ap (λ (p : Parts). p.output) becomes ∙ output;
      }

      new-tasks : new.tasks ≡ set old.tasks seat task
      new-tasks = ap (λ (p : Parts). p.tasks) becomes ∙ tasks

      task-now : task_at new.tasks seat ≡ task
      task-now = ap (λ (ts : List Task). task_at ts seat) new-tasks ∙ task_here old.tasks seat task in_tasks

      others-idle : (attempt : Attempt) → attempt_of (task_at old.tasks seat) ≡ Some attempt → (other : ℕ) → task_at old.tasks other ≡ Task.Idle
          → task_at new.tasks other ≡ Task.Idle
      others-idle attempt has other idle = by (which other seat)
        where
          by : (other ≡ seat) ⊎ ((other ≡ seat) → ⊥) → task_at new.tasks other ≡ Task.Idle
          by (inl same) =
              let none : ◌≡◌ {A = Option Attempt} None (Some attempt) =
              sym (ap attempt_of (ap (task_at old.tasks) (sym same) ∙ idle)) ∙ has in
              absurd (let contra : ◌≡◌ {A = Option Attempt} None (Some attempt) = none in cc)
          by (inr apart) = ap (λ (ts : List Task). task_at ts other) new-tasks ∙ task_else old.tasks seat task other apart ∙ idle

    outcome-undid : HasRow meaning seat hand old new before after Outcome.Undid → Unwinds seat old new
    outcome-undid h =
        let e = h.event in
        let reason = reason_to_undo (task_at old.tasks seat) in
        let task = Task.Undoing e.0 reason in
        let next = with_task seat task (with_memory (undone_last seat (parts old).memory) (parts old)) in
        let becoming = becomes next task e.2.event.parts e.2.event.stop refl refl refl refl refl in
        let now = task-now next task e.2.event.parts e.2.event.stop refl refl refl refl refl in
        let some = e.1 in
        let was = undos-shown old seat in
        let shorter = undone-shorter seat (parts old).memory in_rows (omega (arith, some, was)) in
        let rows = ap (λ (p : Parts). length (row_at p.memory.rows seat).undos) becoming in
        let left : left_to_undo new seat ≡ length (row_at new.memory.rows seat).undos + 1 =
        undos-of (length (row_at new.memory.rows seat).undos) (task_at new.tasks seat) e.0 (ap attempt_of now) in
        let had : left_to_undo old seat ≡ length (row_at old.memory.rows seat).undos + 1 =
        undos-of (length (row_at old.memory.rows seat).undos) (task_at old.tasks seat) e.0 e.2.has in
        let is = undos-shown new seat in
        record {
          unwound = undo-unwound next task e.2.event.parts e.2.event.stop refl refl refl refl refl;
          others = others-idle next task e.2.event.parts e.2.event.stop refl refl refl refl refl e.0 e.2.has;
          less = λ busy. omega (arith, shorter, rows, left, had, was, is);
        }

    outcome-gone : HasRow meaning seat hand old new before after Outcome.WentHome → Unwinds seat old new
    outcome-gone h =
        let e = h.event in
        let next = with_task seat Task.Idle (record (parts old) {
          memory = undone_last seat (parts old).memory;
          pool = brought_home (reason_to_undo (task_at old.tasks seat)) e.0.tried.number (parts old).pool;
          tried = with_try e.0 (parts old).tried;
        }) in
        let now = task-now next Task.Idle e.2.event.parts e.2.event.stop refl refl refl refl refl in
        let left : left_to_undo new seat ≡ 0 = ap (undos_to_make (length (row_at new.memory.rows seat).undos)) now in
        let had : left_to_undo old seat ≡ length (row_at old.memory.rows seat).undos + 1 =
        undos-of (length (row_at old.memory.rows seat).undos) (task_at old.tasks seat) e.0 e.2.has in
        record {
          unwound = undo-unwound next Task.Idle e.2.event.parts e.2.event.stop refl refl refl refl refl;
          others = others-idle next Task.Idle e.2.event.parts e.2.event.stop refl refl refl refl refl e.0 e.2.has;
          less = λ busy. omega (arith, left, had);
        }

    outcome-stopped : HasRow meaning seat hand old new before after Outcome.Stopped → Unwinds seat old new
    outcome-stopped h =
        let e = h.event in
        let same : new ≡ old = by e.0 (met-clash e.0 e.1.meets) e.2 in
        record {
          unwound = record {
            limits = ap (λ (c : Core C V M). c.limits) same;
            stop = ap (λ (c : Core C V M). c.stop) same;
            turns = ap (λ (c : Core C V M). c.turns) same;
            entries = ap (λ (c : Core C V M). c.entries) same;
            output = ap (λ (c : Core C V M). c.output) same;
          };
          others = λ other idle. ap (λ (c : Core C V M). task_at c.tasks other) same ∙ idle;
          less = λ busy. absurd (busy e.1.idle);
        }
      where
        by : (pick : Pick) → Pick.Stopped ≡ pick → StopsBy (certificates_in (parts old)) pick old new → new ≡ old
        by Pick.Stopped met is = is
        by Pick.Finished met is = absurd (let contra : Pick.Stopped ≡ Pick.Finished = met in cc)
        by Pick.Blocked met is = absurd (let contra : Pick.Stopped ≡ Pick.Blocked = met in cc)
        by Pick.Spent met is = absurd (let contra : Pick.Stopped ≡ Pick.Spent = met in cc)
        by Pick.Idle met is = absurd is
        by (Pick.Member number) met is = absurd is

    pub outcome-unwinds : (outcome : Outcome) → HasRow meaning seat hand old new before after outcome → Unwinds seat old new
    outcome-unwinds Outcome.Undid h = outcome-undid h
    outcome-unwinds Outcome.WentHome h = outcome-gone h
    outcome-unwinds Outcome.Stopped h = outcome-stopped h
    outcome-unwinds Outcome.Began h = absurd (let contra : Pick.Stopped ≡ Pick.Member h.event.0 = met-clash (Pick.Member h.event.0) h.event.1.meets in cc)
    outcome-unwinds Outcome.Waited h = absurd (let contra : Pick.Stopped ≡ Pick.Idle = met-clash Pick.Idle h.event.0.meets in cc)
    outcome-unwinds Outcome.Read h = absurd (clash h.event.2.runs.asks.goes.going)
    outcome-unwinds Outcome.Wrote h = absurd (clash h.event.3.runs.asks.goes.going)
    outcome-unwinds (Outcome.Met owner) h = absurd (clash h.event.3.runs.asks.goes.going)
    outcome-unwinds Outcome.Allocated h = absurd (clash h.event.4.runs.asks.goes.going)
    outcome-unwinds Outcome.Checked h = absurd (clash h.event.1.goes.going)
    outcome-unwinds (Outcome.FoundInvalid bad) h = absurd (clash h.event.1.goes.going)
    outcome-unwinds Outcome.Ended h = absurd (clash h.event.1.asks.goes.going)
    outcome-unwinds Outcome.Left h = absurd (clash h.event.1.asks.goes.going)
    outcome-unwinds (Outcome.Refused bad) h = absurd (clash h.event.1.goes.going)
    outcome-unwinds Outcome.Noted h = absurd (clash h.event.1.asks.goes.going)
    outcome-unwinds (Outcome.NotNoted bad) h = absurd (clash h.event.1.asks.goes.going)
    outcome-unwinds Outcome.GrewTall h = absurd (clash h.event.1.goes.going)
    outcome-unwinds (Outcome.NotTall bad) h = absurd (clash h.event.1.asks.goes.going)
    outcome-unwinds Outcome.CameHome h = absurd (clash h.event.1.goes.going)
    outcome-unwinds (Outcome.DeviceFailed device) h = absurd (clash h.event.1.goes.going)
    outcome-unwinds Outcome.Spent h = absurd (clash h.event.0.going)
    outcome-unwinds Outcome.Lacked h = absurd (clash h.event.0)

  -- A turn under a kept stop sends nothing.
  turn-unwinds : (seat : ℕ) (hand : Option MachineView) (old new : ShellView C V M) (outcome : Outcome) → Simulates (parts old.core)
      → seat < old.core.limits.seats → is_some old.core.stop ≡ true → HasTurned meaning seat hand old new outcome → Unwinds seat old.core new.core
  turn-unwinds seat hand old new outcome stands within kept turned = by (is_to_flush outcome) refl
    where
      by : (b : Bool) → is_to_flush outcome ≡ b → Unwinds seat old.core new.core
      by true e =
          absurd (clash seat hand old.core turned.core old.ends.told new.ends.told stands within kept
          (outcome-more meaning seat hand old.core turned.core old.ends.told new.ends.told outcome e
          (rowed meaning seat hand old.core turned.core old.ends.told new.ends.told outcome turned.done)).was)
      by false e =
          subst (Unwinds seat old.core) (sym (ap (λ (x : ShellView C V M). x.core) (turned.stays e)))
          (outcome-unwinds seat hand old.core turned.core old.ends.told new.ends.told stands within kept outcome
          (rowed meaning seat hand old.core turned.core old.ends.told new.ends.told outcome turned.done))

  -- so it is of a crew, which contracts see as its shell
  pub crew-unwinds : (seat : ℕ) (hand : Option MachineView) (old seen new : ShellView C V M) (outcome : Outcome) → seen ≡ old → Simulates (parts seen.core)
      → seat < old.core.limits.seats → is_some old.core.stop ≡ true → HasTurned meaning seat hand seen new outcome → Unwinds seat old.core new.core
  crew-unwinds seat hand old seen new outcome is stands within kept turned =
      subst (λ (v : ShellView C V M). Unwinds seat v.core new.core) is
      (turn-unwinds seat hand seen new outcome stands (subst (λ (v : ShellView C V M). seat < v.core.limits.seats) (sym is) within)
      (subst (λ (v : ShellView C V M). is_some v.core.stop ≡ true) (sym is) kept) turned)

  -- who is no seat has nothing at work
  pub all-idle : (core : Core C V M) (last : ℕ) → Simulates (parts core) → core.limits.seats ≡ last
      → ((seat : ℕ) → seat < last → task_at core.tasks seat ≡ Task.Idle) → (seat : ℕ) → task_at core.tasks seat ≡ Task.Idle
  all-idle core last stands seats idle seat = by (cases_lt seat last)
    where
      by : (seat < last) ⊎ (last ≤ seat) → task_at core.tasks seat ≡ Task.Idle
      by (inl within) = idle seat within
      by (inr beyond) =
          let long = stands.bounded.tasks in
          get_or_past core.tasks seat Task.Idle (let n = seats in omega (arith, long, n, beyond))
