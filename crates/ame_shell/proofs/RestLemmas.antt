-- An event of a seat leaves code, limits, and the work in flight of the other seats.
use Rattle.std.proofs.Common.{◌≡◌, ◌≢◌, ℕ, ◌≤◌, inl, inr, true, false, List, Option, Some, None, refl, sym, ap, ◌∙◌, subst}
use Rattle.std.specs.Prelude.{is_some}
use Rattle.ame_pool.specs.Keeps.{is_inside_at}
use Rattle.ame_rows.specs.LettingGo.{undone_last}
use Rattle.ame_device.specs.declared.told.Told.{Told}
use Rattle.ame_rows.specs.declared.notes.Bad.{Bad}
use Rattle.ame_machine.specs.MachineView.{MachineView, place_shown, with_answer}
use Rattle.ame_protocol.specs.declared.types.Limits.{Limits}
use Rattle.ame_protocol.specs.declared.types.Attempt.{Attempt}
use Rattle.ame_protocol.specs.declared.types.UndoReason.{UndoReason}
use Rattle.ame_protocol.specs.declared.types.Task.{Task}
use Rattle.ame_protocol.specs.Engine.Parts.{Parts, task_at, attempt_of, member_of}
use Rattle.ame_protocol.specs.Engine.Simulates.{Simulates}
use Rattle.ame_protocol.specs.Engine.Events.{fresh_attempt, begun_task, has_begun, has_read, has_written, has_allocated, checked_attempt, has_checked, has_turned_back, with_memory, with_task, with_try, brought_home, has_undone, has_gone_home}
use Rattle.ame_protocol.proofs.Engine.StepLemmas.{task_else}
use Rattle.ame_protocol.specs.Waits.Noted.{has_noted}
use Rattle.ame_protocol.specs.Visits.Stops.{told_task, has_been_cut, has_grown_tall}
use Rattle.ame_protocol.specs.Visits.Visit.{has_been_refused}
use Rattle.ame_journal.specs.declared.certificate.Certificate.{Certificate}
use Rattle.ame_protocol.specs.declared.counters.Counters.{Counters}
use Rattle.ame_engine.specs.declared.pick.Pick.{Pick}
use Rattle.ame_protocol.specs.declared.stop.Stop.{Stop}
use Rattle.ame_protocol.specs.Event.Counting.{Counted, one_counted, one_invalid, one_undone}
use Rattle.ame_engine.specs.Core.{Core}
use Rattle.ame_engine.specs.Seen.{parts_of, MakesEvent, MakesLastEvent}
use Rattle.ame_engine.specs.Stops.{stopped_by, blocked_by}
use Rattle.ame_engine.specs.Committing.{ended_at, left_at, owned_places}
use Rattle.ame_protocol.specs.Event.Undoing.{is_undoing, reason_to_undo}
use Rattle.ame_engine.specs.Visiting.{visited_at, HasComeHome}
use Rattle.ame_shell.specs.declared.work.Outcome.{Outcome}
use Rattle.ame_shell.specs.declared.work.Work.{Work}
use Rattle.ame_shell.specs.declared.work.Work.TheVariants as work
use Rattle.ame_shell.specs.Low.{IsLowOnSeat}
use Rattle.ame_shell.specs.Work.{IsAtWork, Fits}
use Rattle.ame_shell.specs.Outcomes.{StopsBy, IsMade}
use Rattle.ame_shell.proofs.OutcomeRows.{TurnsBack, Spends, Row, row-made}
use Rattle.ame_shell.proofs.OthersLemmas.{begun-others, read-others, written-others, allocated-others, checked-others, back-others}
use Rattle.ame_shell.proofs.EndsLemmas.{turn-tasks, turn-limits, undone-others, gone-others, ended-others, left-others}
use Rattle.ame_shell.proofs.VisitedLemmas.{noted-others, cut-others, tall-others, refused-others, visit-rows, visited-others}
use Rattle.ame_machine.specs.Meaning.{Meaning}

module _ {C V M : Type 0} (meaning : Meaning C V M) where
  abbrev parts : Core C V M → Parts
  parts core = parts_of meaning core

  abbrev FitsIn : Core C V M → ℕ → Work M → Type 0
  FitsIn core seat work = Fits meaning core seat work

  -- a machine is at work, by its stage
  pub at-work : (core : Core C V M) (seat : ℕ) (m : M) → meaning.is_machine core.code m → IsLowOnSeat (parts core) seat (meaning.stage core.code m)
      → (meaning.stage core.code m).since ≤ core.limits.slice → IsAtWork meaning core seat m
  at-work core seat m machine there within = record { on = record { machine = machine; stands = there.on }; within = within; low = there.low }

  -- a seat's work in flight fits, if its task and the run of its member stay
  fits-on : (old new : Core C V M) (other : ℕ) → new.code ≡ old.code → new.limits ≡ old.limits → task_at new.tasks other ≡ task_at old.tasks other
      → (is_some new.stop ≡ false → is_some old.stop ≡ false) → ((s : MachineView) → IsLowOnSeat (parts old) other s → IsLowOnSeat (parts new) other s)
      → (rest : Work M) → FitsIn old other rest → FitsIn new other rest
  fits-on old new other code limits task stop on work.Idle h = task ∙ h
  fits-on old new other code limits task stop on (work.Running m) h =
      at-work new other m (subst (λ (c : C). meaning.is_machine c m) (sym code) h.on.machine)
      (subst (λ (c : C). IsLowOnSeat (parts new) other (meaning.stage c m)) (sym code) (on (meaning.stage old.code m) (record { on = h.on.stands; low = h.low })))
      (subst (λ (c : C). (meaning.stage c m).since ≤ new.limits.slice) (sym code)
      (subst (λ (l : Limits). (meaning.stage old.code m).since ≤ l.slice) (sym limits) h.within))
  fits-on old new other code limits task stop on work.Undoing h = record {
    busy = ap (λ (t : Task). is_some (attempt_of t)) task ∙ h.busy;
    undoes = λ going. ap is_undoing task ∙ h.undoes (stop going);
  }

  -- a stop is kept, and nothing else changes
  pub by-stop : (old new : Core C V M) (other : ℕ) (why : Stop) → new ≡ stopped_by why old → (rest : Work M) → FitsIn old other rest → FitsIn new other rest
  by-stop old new other why is rest h = subst (λ (c : Core C V M). FitsIn c other rest) (sym is) (stopped rest h)
    where
      stopped : (rest : Work M) → FitsIn old other rest → FitsIn (stopped_by why old) other rest
      stopped rest h =
          fits-on old (stopped_by why old) other refl refl refl (λ going. absurd (cc))
          (λ s x. record { on = record { attempt = x.on.attempt; has = x.on.has; side = x.on.side; run = x.on.run; since = x.on.since }; low = x.low }) rest h

  by-blocked : (old new : Core C V M) (other : ℕ) (certificates : List Certificate) → new ≡ blocked_by certificates old → (rest : Work M)
      → FitsIn old other rest → FitsIn new other rest
  by-blocked old new other certificates is rest h = subst (λ (c : Core C V M). FitsIn c other rest) (sym is) (blocked rest h)
    where
      blocked : (rest : Work M) → FitsIn old other rest → FitsIn (blocked_by certificates old) other rest
      blocked rest h =
          fits-on old (blocked_by certificates old) other refl refl refl (λ going. absurd (cc))
          (λ s x. record { on = record { attempt = x.on.attempt; has = x.on.has; side = x.on.side; run = x.on.run; since = x.on.since }; low = x.low }) rest h

  -- An event leaves code, limits and the other seats
  pub record Leaves (seat : ℕ) (old new : Core C V M) : Type 0 where
    pub code : new.code ≡ old.code
    pub limits : new.limits ≡ old.limits
    pub others : (other : ℕ) (rest : Work M) → other ≢ seat → FitsIn old other rest → FitsIn new other rest

  module _ (old new : Core C V M) (seat : ℕ) where
    -- an event leaves tasks of other seats, and their runs
    abbrev IsApart : (Parts → Parts) → Type 0
    IsApart event = (other : ℕ) → other ≢ seat
        → (task_at (event (parts old)).tasks other ≡ task_at old.tasks other) × ((s : MachineView) → IsLowOnSeat (parts old) other s → IsLowOnSeat (event (parts old)) other s)

    by-event : (counts : Counters → Counters) (event : Parts → Parts) → MakesEvent meaning counts event old new
        → (event (parts old)).limits ≡ old.limits → IsApart event → Leaves seat old new
    by-event counts event makes limits apart =
        let same : new.limits ≡ old.limits = ap (λ (p : Parts). p.limits) makes.parts ∙ limits in
        record {
          code = makes.code;
          limits = same;
          others = λ other rest else fits.
              fits-on old new other makes.code same (ap (λ (p : Parts). task_at p.tasks other) makes.parts ∙ (apart other else).0)
              (λ going. ap is_some (sym makes.stop) ∙ going)
              (λ s x. subst (λ (p : Parts). IsLowOnSeat p other s) (sym makes.parts) ((apart other else).1 s x)) rest fits;
        }

    by-last : (why : Stop) (counts : Counters → Counters) (event : Parts → Parts) → MakesLastEvent meaning why counts event old new
        → (event (parts old)).limits ≡ old.limits → IsApart event → Leaves seat old new
    by-last why counts event makes limits apart =
        let same : new.limits ≡ old.limits = ap (λ (p : Parts). p.limits) makes.parts ∙ limits in
        record {
          code = makes.code;
          limits = same;
          others = λ other rest else fits.
              fits-on old new other makes.code same (ap (λ (p : Parts). task_at p.tasks other) makes.parts ∙ (apart other else).0)
              (λ going. absurd (let stops : is_some new.stop ≡ true = ap is_some makes.stop in cc))
              (λ s x. subst (λ (p : Parts). IsLowOnSeat p other s) (sym makes.parts) ((apart other else).1 s x)) rest fits;
        }

    same-leaves : new ≡ old → Leaves seat old new
    same-leaves is = record {
      code = ap (λ (c : Core C V M). c.code) is;
      limits = ap (λ (c : Core C V M). c.limits) is;
      others = λ other rest else fits. subst (λ (c : Core C V M). FitsIn c other rest) (sym is) fits;
    }

    stop-leaves : (why : Stop) → new ≡ stopped_by why old → Leaves seat old new
    stop-leaves why is = record {
      code = ap (λ (c : Core C V M). c.code) is;
      limits = ap (λ (c : Core C V M). c.limits) is;
      others = λ other rest else fits. by-stop old new other why is rest fits;
    }

    blocked-leaves : (certificates : List Certificate) → new ≡ blocked_by certificates old → Leaves seat old new
    blocked-leaves certificates is = record {
      code = ap (λ (c : Core C V M). c.code) is;
      limits = ap (λ (c : Core C V M). c.limits) is;
      others = λ other rest else fits. by-blocked old new other certificates is rest fits;
    }

    pick-leaves : (certificates : List Certificate) (pick : Pick) → StopsBy certificates pick old new → Leaves seat old new
    pick-leaves certificates (Pick.Member number) h = absurd h
    pick-leaves certificates Pick.Stopped h = same-leaves h
    pick-leaves certificates Pick.Finished h = stop-leaves Stop.Finished h
    pick-leaves certificates Pick.Blocked h = blocked-leaves certificates h
    pick-leaves certificates Pick.Spent h = stop-leaves Stop.Spent h
    pick-leaves certificates Pick.Idle h = absurd h

    back-leaves : (counts : Counters → Counters) (a : Attempt) → MakesEvent meaning counts (has_turned_back seat a) old new → Leaves seat old new
    back-leaves counts a makes =
        by-event counts (has_turned_back seat a) makes refl (λ other else. (
          task_else old.tasks seat (Task.Undoing a UndoReason.RolledBack) other else,
          λ s on. back-others (parts old) seat other s else on a,
        ))

    turned-leaves : (hand : Option MachineView) (counts : Counters → Counters) (bad : Bad) → TurnsBack meaning seat hand old new counts bad
        → Leaves seat old new
    turned-leaves hand counts bad back = back-leaves counts back.attempt back.event

  module _ (old new : Core C V M) (seat : ℕ) (stands : Simulates (parts old)) where
    home-leaves : (number : ℕ) (a : Attempt) → task_at old.tasks seat ≡ Task.Free a → number ≡ a.tried.number → (s : MachineView) (before after : List Told)
        → HasComeHome meaning seat number s before after old new → Leaves seat old new
    home-leaves number a task is s before after h =
        let shown = with_answer h.answer (place_shown h.comes) in
        let rows = visit-rows (parts old) number h.comes.steps h.visit.place h.comes.inside h.memory h.visit.visit in
        let of : member_of (task_at old.tasks seat) ≡ Some number = ap member_of task ∙ ap (λ (n : ℕ). Some n) (sym is) in
        by-event old new seat (one_counted Counted.Free) (visited_at seat number h.answer h.comes h.memory) h.event refl (λ other else. (
          task_else old.tasks seat Task.Idle other else,
          λ x on. visited-others (parts old) stands seat other x else on number of h.comes.steps shown h.comes.inside h.memory rows,
        ))

    cut-leaves : (why : Stop) (counts : Counters → Counters) (number steps : ℕ) (s : MachineView)
        → MakesLastEvent meaning why counts (has_been_cut seat number steps (place_shown s) (task_at old.tasks seat)) old new → Leaves seat old new
    cut-leaves why counts number steps s makes =
        by-last old new seat why counts (has_been_cut seat number steps (place_shown s) (task_at old.tasks seat)) makes refl (λ other else. (
          task_else old.tasks seat (told_task (task_at old.tasks seat)) other else,
          λ x on. cut-others (parts old) seat other x else on number steps (place_shown s) (task_at old.tasks seat),
        ))

    spend-leaves : (hand it : Option MachineView) → Spends meaning seat hand old new it → Leaves seat old new
    spend-leaves hand None h = stop-leaves old new seat Stop.Spent h
    spend-leaves hand (Some s) (inl cuts) = cut-leaves Stop.Spent (λ counters. counters) cuts.attempt.tried.number s.steps s cuts.event
    spend-leaves hand (Some s) (inr stops) = stop-leaves old new seat Stop.Spent stops.1

    row-leaves : (hand : Option MachineView) (before after : List Told) (outcome : Outcome) → Row meaning seat hand old new before after outcome → Leaves seat old new
    row-leaves hand before after Outcome.Began d =
        by-event old new seat (one_counted Counted.Begin) (has_begun seat d.0) d.2 refl (λ other else. (
          task_else old.tasks seat (begun_task (is_inside_at (parts old).pool.members d.0) (fresh_attempt d.0 (parts old))) other else,
          λ s on. begun-others (parts old) seat other s else on d.0,
        ))
    row-leaves hand before after Outcome.Waited d = same-leaves old new seat d.1
    row-leaves hand before after Outcome.Stopped d = pick-leaves old new seat _ d.0 d.2
    row-leaves hand before after Outcome.Read d =
        by-event old new seat (one_counted Counted.Read) (has_read seat d.1) d.3 refl (λ other else. (
          refl,
          λ s on. read-others (parts old) seat other s else on d.1,
        ))
    row-leaves hand before after Outcome.Wrote d =
        by-event old new seat (one_counted Counted.Write) (has_written seat d.1 d.2) d.6 refl (λ other else. (
          refl,
          λ s on. written-others (parts old) seat other s else on d.1 d.2,
        ))
    row-leaves hand before after (Outcome.Met owner) d = back-leaves old new seat (one_counted Counted.Conflict) d.2 d.6
    row-leaves hand before after Outcome.Allocated d =
        by-event old new seat (one_counted Counted.Alloc) (has_allocated seat d.1 d.2 d.3) d.6 refl (λ other else. (
          refl,
          λ s on. allocated-others (parts old) seat other s else on d.1 d.2 d.3,
        ))
    row-leaves hand before after Outcome.Checked d =
        by-event old new seat (one_counted Counted.Check) (has_checked seat d.0.steps d.2) d.4 refl (λ other else. (
          task_else old.tasks seat (Task.Running (checked_attempt d.0.steps d.2 (parts old))) other else,
          λ s on. checked-others (parts old) seat other s else on d.0.steps d.2,
        ))
    row-leaves hand before after (Outcome.FoundInvalid bad) d = turned-leaves old new seat hand (one_invalid Counted.Check) bad d.2
    row-leaves hand before after Outcome.Ended d =
        by-event old new seat (one_counted Counted.Commit) (ended_at seat d.2.tried.number d.0) d.4 refl (λ other else. (
          task_else old.tasks seat Task.Idle other else,
          λ s on. ended-others (parts old) stands seat other s else on d.2 d.3.task d.0.steps (place_shown d.0) (owned_places seat (parts old).memory.cells),
        ))
    row-leaves hand before after Outcome.Left d =
        by-event old new seat (one_counted Counted.Commit) (left_at seat d.2.tried.number d.0) d.4 refl (λ other else. (
          task_else old.tasks seat Task.Idle other else,
          λ s on. left-others (parts old) stands seat other s else on d.2 d.3.task d.0.steps (place_shown d.0) (owned_places seat (parts old).memory.cells),
        ))
    row-leaves hand before after (Outcome.Refused bad) d = turned-leaves old new seat hand (one_invalid Counted.Commit) bad d.2
    row-leaves hand before after Outcome.Noted d =
        by-event old new seat (one_counted Counted.Block) (has_noted seat d.2 d.0.steps (place_shown d.0)) d.4 refl (λ other else. (
          task_else old.tasks seat (Task.Undoing (record d.2 { logged = true }) UndoReason.Noted) other else,
          λ s on. noted-others (parts old) seat other s else on d.2 d.0.steps (place_shown d.0),
        ))
    row-leaves hand before after (Outcome.NotNoted bad) d = turned-leaves old new seat hand (one_invalid Counted.Block) bad d.2
    row-leaves hand before after Outcome.GrewTall d =
        by-last old new seat (Stop.Tall d.2.tried.number) (one_counted Counted.Tall)
        (has_grown_tall seat d.2.tried.number d.0.steps (place_shown d.0) (task_at old.tasks seat)) d.5 refl (λ other else. (
          task_else old.tasks seat (told_task (task_at old.tasks seat)) other else,
          λ s on. tall-others (parts old) seat other s else on d.2.tried.number d.0.steps (place_shown d.0) (task_at old.tasks seat),
        ))
    row-leaves hand before after (Outcome.NotTall bad) d = turned-leaves old new seat hand (one_invalid Counted.Tall) bad d.2
    row-leaves hand before after Outcome.CameHome d = home-leaves d.2.tried.number d.2 d.3 refl d.0 before after d.4
    row-leaves hand before after (Outcome.DeviceFailed device) d =
        by-last old new seat (Stop.DeviceFault device) (one_counted Counted.Free) (has_been_refused seat d.2.tried.number) d.4.event refl (λ other else. (
          task_else old.tasks seat Task.Idle other else,
          λ s on. refused-others (parts old) seat other s else on d.2.tried.number,
        ))
    row-leaves hand before after Outcome.Spent d = spend-leaves hand hand d.1
    row-leaves hand before after Outcome.Undid d =
        by-event old new seat (one_undone (is_some old.stop)) (has_undone seat d.0 (reason_to_undo (task_at old.tasks seat))) d.2.event
        (turn-limits (with_task seat (Task.Undoing d.0 (reason_to_undo (task_at old.tasks seat))) (with_memory (undone_last seat (parts old).memory) (parts old))))
        (λ other else. (
          ap (λ (ts : List Task). task_at ts other)
              (turn-tasks (with_task seat (Task.Undoing d.0 (reason_to_undo (task_at old.tasks seat))) (with_memory (undone_last seat (parts old).memory) (parts old))))
              ∙ task_else old.tasks seat (Task.Undoing d.0 (reason_to_undo (task_at old.tasks seat))) other else,
          λ s on. undone-others (parts old) seat other s else on d.0 (reason_to_undo (task_at old.tasks seat)),
        ))
    row-leaves hand before after Outcome.WentHome d =
        let reason = reason_to_undo (task_at old.tasks seat) in
        let gone : Parts = with_task seat Task.Idle (record (parts old) {
          memory = undone_last seat (parts old).memory;
          pool = brought_home reason d.0.tried.number (parts old).pool;
          tried = with_try d.0 (parts old).tried;
        }) in
        by-event old new seat (one_undone (is_some old.stop)) (has_gone_home seat d.0 reason) d.2.event (turn-limits gone) (λ other else. (
          ap (λ (ts : List Task). task_at ts other) (turn-tasks gone) ∙ task_else old.tasks seat Task.Idle other else,
          λ s on. gone-others (parts old) seat other s else on d.0 reason,
        ))
    row-leaves hand before after Outcome.Lacked d = stop-leaves old new seat Stop.NoMemory d.1

    -- an event of a outcome leaves the rest
    pub made-leaves : (hand : Option MachineView) (before after : List Told) (outcome : Outcome)
        → IsMade meaning seat hand old new before after outcome → Leaves seat old new
    made-leaves hand before after outcome made = row-leaves hand before after outcome (row-made meaning seat hand old new before after outcome made)
