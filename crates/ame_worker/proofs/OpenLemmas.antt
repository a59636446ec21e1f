-- A shell that was just opened.
use Rattle.std.proofs.Common.{◌≡◌, ℕ, true, false, List, [], refl, sym, ap, ◌∙◌, subst}
use Rattle.std.specs.Prelude.{None, Result, Ok, Err, IfOk, replicate}
use Rattle.std.proofs.lemmas.List.{length-replicate}
use Rattle.ame_term.specs.Tree.{Val}
use Rattle.ame_rows.specs.MemoryView.{Log, row_at}
use Rattle.ame_protocol.specs.declared.types.Limits.{Limits}
use Rattle.ame_protocol.specs.declared.types.Task.{Task}
use Rattle.ame_protocol.specs.declared.stop.Stop.{Stop}
use Rattle.ame_protocol.specs.Engine.Parts.{Parts, task_at}
use Rattle.ame_protocol.specs.Engine.Events.{started}
use Rattle.ame_protocol.specs.Event.EngineState.{EngineState, started_state}
use Rattle.ame_protocol.proofs.Engine.ShownMemoryLemmas.{row-shown}
use Rattle.ame_engine.specs.Core.{Core}
use Rattle.ame_engine.specs.Makes.{state_of}
use Rattle.ame_engine.specs.Resuming.{HasResumed}
use Rattle.ame_journal.specs.declared.entry.Entry.{Entry}
use Rattle.ame_engine.specs.Seen.{parts_of}
use Rattle.ame_engine.specs.Stops.{stopped_by}
use Rattle.ame_shell.specs.Work.{Fits}
use Rattle.ame_shell.specs.Ends.{Ends, IoView}
use Rattle.ame_shell.specs.Shell.{ShellView, Opening, shell_view, IsShell}
use Rattle.ame_shell.specs.Turned.{HasFlushed}
use Rattle.ame_shell.proofs.OverLemmas.{shell-starts, shell-resumes}
use Rattle.ame_worker.specs.Rows.{Kept, nothing_kept, empty_row, kept_at, row_of}
use Rattle.ame_worker.specs.declared.shared.Shared.{Shared}
use Rattle.ame_worker.specs.Opened.{IsAround, IsOpenedBy}
use Rattle.ame_worker.specs.Turns.{TurnView}
use Rattle.ame_worker.specs.Shared.{OpenedView, opened_from, opening_from, opening_of, IsShared}
use Rattle.ame_worker.specs.Slots.{Slot, slot_at, empty_slot}
use Rattle.ame_worker.proofs.IdleLemmas.{AreUnused, unused-slot, map-all-same, replicate-at}
use Rattle.ame_worker.proofs.HandLemmas.{row-same}
use Rattle.ame_machine.specs.Meaning.{Meaning}

-- what is so of a result by another fact of it
pub if-ok-by : {T E : Type 0} (r : Result T E) (A B : T → Type 0) → ((x : T) → A x → B x) → IfOk r A → IfOk r B
if-ok-by (Ok x) A B by a = by x a
if-ok-by (Err e) A B by a = tt

module _ {C V M : Type 0} (meaning : Meaning C V M) where
  -- a shell is to be shared whose engine did nothing for a seat
  module _ (opened : OpenedView C V M) (shell : ShellView C V M) (first : shell ≡ opened.first) (is : IsShell meaning (opening_of opened) shell)
      (unused : AreUnused (parts_of meaning shell.core)) where
    abbrev core : Core C V M
    core = shell.core

    abbrev places : List (Kept M)
    places = replicate core.limits.seats nothing_kept

    slot-here : (seat : ℕ) → slot_at (parts_of meaning core) seat ≡ empty_slot
    slot-here = unused-slot (parts_of meaning core) unused

    task-here : (seat : ℕ) → task_at core.tasks seat ≡ Task.Idle
    task-here seat = ap (λ (s : Slot). s.task) (slot-here seat)

    reads-here : (seat : ℕ) → (row_at core.memory.rows seat).reads ≡ []
    reads-here seat =
        ap (λ (n : Log Val). n.reads) (sym (row-shown (meaning.value_of core.code) core.memory.rows seat))
        ∙ ap (λ (s : Slot). s.notes.reads) (slot-here seat)

    kept-here : (seat : ℕ) → kept_at places seat ≡ nothing_kept
    kept-here seat = replicate-at core.limits.seats seat nothing_kept

    row-here : (seat : ℕ) → row_of core seat (kept_at places seat) ≡ empty_row
    row-here seat =
        row-same (row_of core seat (kept_at places seat)) empty_row (task-here seat) (reads-here seat) (ap (λ (k : Kept M). k.hand) (kept-here seat))
        (ap (λ (k : Kept M). k.marked) (kept-here seat))

    shared-opens : IsShared meaning opened shell places [] (replicate core.limits.seats empty_row) []
    shared-opens = record {
      shell = is;
      count = length-replicate core.limits.seats nothing_kept;
      fits = λ seat within. subst (λ (k : Kept M). Fits meaning core seat k.hand) (sym (kept-here seat)) (task-here seat);
      marks = λ seat marked. absurd (let clash : false ≡ true = sym (ap (λ (k : Kept M). k.marked) (kept-here seat)) ∙ marked in cc);
      rows = map-all-same (λ (seat : ℕ). row_of core seat (kept_at places seat)) empty_row row-here 0 core.limits.seats;
      led = first;
      recorded = refl;
    }

  -- if an engine has just started
  module _ (core : Core C V M) (code : C) (limits : Limits) (ends : Ends) (same : core.code ≡ code)
      (starts : parts_of meaning core ≡ started (meaning.program code) (meaning.signature code) limits 0)
      (fresh : state_of meaning core ≡ started_state (meaning.program code) (meaning.signature code) limits) where
    abbrev shell : ShellView C V M
    shell = record { core = core; sent = 0; ends = ends }

    unused-started : AreUnused (parts_of meaning core)
    unused-started = subst AreUnused (sym starts) (record { tasks = refl; rows = refl; entries = refl })

    pub opening-started : opening_from shell ≡ record { code = code; limits = limits; base = []; ends = ends }
    opening-started =
        ap (λ (c : C). let it : Opening C = record { code = c; limits = core.limits; base = core.base; ends = ends } in it) same
        ∙ ap (λ (l : Limits). let it : Opening C = record { code = code; limits = l; base = core.base; ends = ends } in it) (ap (λ (p : Parts). p.limits) starts)
        ∙ ap (λ (b : List Entry). let it : Opening C = record { code = code; limits = limits; base = b; ends = ends } in it) (ap (λ (p : Parts). p.base) starts)

    shared-starts : IsShared meaning (opened_from shell shell) shell (replicate core.limits.seats nothing_kept) [] (replicate core.limits.seats empty_row) []
    shared-starts =
        shared-opens (opened_from shell shell) shell refl
        (subst (λ (o : Opening C). IsShell meaning o shell) (sym opening-started) (shell-starts meaning core code limits ends same starts fresh))
        unused-started

  -- and workers are about to share it
  pub opened-started : {K D : Type 0} (core : Core C V M) (code : C) (limits : Limits) (io : IoView K D) → core.code ≡ code
      → parts_of meaning core ≡ started (meaning.program code) (meaning.signature code) limits 0
      → state_of meaning core ≡ started_state (meaning.program code) (meaning.signature code) limits
      → (shared : Shared M K D C V) → IsAround core io shared
      → IsOpenedBy meaning (record { code = code; limits = limits; base = []; ends = io.ends }) shared
  opened-started core code limits io same starts fresh shared around =
      let shell : ShellView C V M = record { core = core; sent = 0; ends = io.ends } in
      let is : shell_view shared.shell.value ≡ shell = ap shell_view around.shell in
      let made : shell_view shared.made.value ≡ shell = ap shell_view around.made ∙ is in
      record {
        opened = ap opening_from made ∙ opening-started core code limits io.ends same starts fresh;
        unused =
            subst (λ (x : ShellView C V M). IsShared meaning (opened_from x (shell_view shared.shell.value)) (shell_view shared.shell.value) shared.places.items shared.turns (replicate x.core.limits.seats empty_row) []) (sym made)
            (subst (λ (x : ShellView C V M). IsShared meaning (opened_from shell x) x shared.places.items shared.turns (replicate core.limits.seats empty_row) []) (sym is)
            (subst (λ (ps : List (Kept M)). IsShared meaning (opened_from shell shell) shell ps shared.turns (replicate core.limits.seats empty_row) []) (sym around.places)
            (subst (λ (ts : List (TurnView C V M)). IsShared meaning (opened_from shell shell) shell (replicate core.limits.seats nothing_kept) ts (replicate core.limits.seats empty_row) []) (sym around.turns)
            (shared-starts core code limits io.ends same starts fresh))));
      }

  -- if an engine was opened from a base, whose lines were sent then
  module _ (core : Core C V M) (ends : Ends) (resumed : HasResumed meaning core.limits core.base core) where
    going : core.stop ≡ None
    going = ap (λ (s : EngineState). s.stop) resumed.state

    unused-resumed : AreUnused (parts_of meaning core)
    unused-resumed = subst AreUnused (sym (ap (λ (s : EngineState). s.parts) resumed.state)) (record { tasks = refl; rows = refl; entries = refl })

    abbrev unsent : ShellView C V M
    unsent = record { core = core; sent = 0; ends = ends }

    -- a stop alone may be new
    data IsAsBefore (new : Core C V M) : Type 0 where
      same : new ≡ core → IsAsBefore new
      stopped : (why : Stop) → new ≡ stopped_by why core → IsAsBefore new

    flushed-as : (new : ShellView C V M) → HasFlushed unsent new → IsAsBefore new.core
    flushed-as new (HasFlushed.sends appended stays is sent) = IsAsBefore.same is
    flushed-as new (HasFlushed.fails gone first short risen is sent) = IsAsBefore.stopped Stop.WriteFault is

    still-unused : (new : Core C V M) → IsAsBefore new → AreUnused (parts_of meaning new) × (new.limits ≡ core.limits)
    still-unused new (IsAsBefore.same is) = subst (λ (c : Core C V M). AreUnused (parts_of meaning c) × (c.limits ≡ core.limits)) (sym is) (unused-resumed, refl)
    still-unused new (IsAsBefore.stopped why is) =
        let u = unused-resumed in
        subst (λ (c : Core C V M). AreUnused (parts_of meaning c) × (c.limits ≡ core.limits)) (sym is)
        (record { tasks = u.tasks; rows = u.rows; entries = u.entries }, refl)

    pub shared-resumes : (new : ShellView C V M) → new.ends.told ≡ ends.told → HasFlushed unsent new
        → IsShared meaning (opened_from unsent new) new (replicate core.limits.seats nothing_kept) [] (replicate core.limits.seats empty_row) []
    shared-resumes new told flushed =
        let still = still-unused new.core (flushed-as new flushed) in
        subst (λ (l : Limits). IsShared meaning (opened_from unsent new) new (replicate l.seats nothing_kept) [] (replicate l.seats empty_row) []) still.1
        (shared-opens (opened_from unsent new) new refl (shell-resumes meaning core ends unused-resumed.entries going resumed new told flushed) still.0)

    pub resumed-idle : (new : ShellView C V M) → HasFlushed unsent new → (seat : ℕ) → task_at new.core.tasks seat ≡ Task.Idle
    resumed-idle new flushed seat =
        ap (λ (s : Slot). s.task) (unused-slot (parts_of meaning new.core) (still-unused new.core (flushed-as new flushed)).0 seat)
