-- A seat's undo, by the contracts of the calls.
use Rattle.std.proofs.Common.{◌≡◌, ℕ, ◌+◌, ◌<◌, Bool, true, false, List, get_or, length, All, Option, Some, None, IsTrue, IsSome, IsSomeAnd, option_map, refl, sym, ap, ◌∙◌, subst, arith}
use Rattle.std.specs.Prelude.{slice_set, is_some, if◌then◌else◌}
use Rattle.std.proofs.lemmas.List.{length-map}
use Rattle.ame_term.specs.Tree.{Val, Tree}
use Rattle.ame_store.specs.Cells.{CanGrow}
use Rattle.ame_pool.specs.declared.member.Member.{Member}
use Rattle.ame_pool.specs.Members.{find}
use Rattle.ame_pool.specs.Roster.{Roster}
use Rattle.ame_pool.specs.Calls.{IsAt}
use Rattle.ame_rows.specs.MemoryView.{Log, MemoryView, row_at}
use Rattle.ame_rows.specs.LettingGo.{undone_last}
use Rattle.ame_protocol.specs.declared.types.Attempt.{Attempt}
use Rattle.ame_protocol.specs.declared.types.UndoReason.{UndoReason}
use Rattle.ame_protocol.specs.declared.types.Task.{Task}
use Rattle.ame_protocol.specs.declared.types.Tried.{Tried}
use Rattle.ame_protocol.specs.Engine.Parts.{task_at, attempt_of}
use Rattle.ame_protocol.specs.Engine.Shown.{shown_member, shown_pool}
use Rattle.ame_protocol.specs.Engine.Tasks.{is_busy_as, is_noted_for, MeetsTask}
use Rattle.ame_protocol.specs.Engine.Events.{with_try, has_undone, has_gone_home}
use Rattle.ame_protocol.proofs.Engine.StepLemmas.{seat_within}
use Rattle.ame_protocol.proofs.Engine.ToldLemmas.{cells-grow}
use Rattle.ame_protocol.proofs.Engine.ShownMemoryLemmas.{row-shown}
use Rattle.ame_protocol.proofs.Engine.ShownPoolLemmas.{found-shown}
use Rattle.ame_protocol.specs.Row.Shown.{shown_undo}
use Rattle.ame_protocol.specs.declared.counters.Counters.{Counters}
use Rattle.ame_engine.specs.Core.{Core}
use Rattle.ame_protocol.specs.Event.Counting.{one_undone}
use Rattle.ame_protocol.specs.Event.Event.{Event}
use Rattle.ame_protocol.specs.Event.May.{MayUndo}
use Rattle.ame_engine.specs.Seen.{parts_of, term_shown, MakesEvent}
use Rattle.ame_engine.specs.Makes.{state_of, Makes}
use Rattle.ame_engine.proofs.MakesLemmas.{made-event}
use Rattle.ame_engine.specs.Whole.{IsSound, IsGoodMemory, IsAtRest}
use Rattle.ame_protocol.specs.Event.Undoing.{is_undoing, reason_to_undo, is_busy_for, home_for}
use Rattle.ame_engine.proofs.CheckLemmas.{task-read}
use Rattle.ame_engine.proofs.UndoLemmas.{grow-shown, undone-makes, gone-makes, undo-memory, gone-rests}
use Rattle.ame_machine.specs.Meaning.{Meaning}
use Rattle.ame_machine.specs.RefSorts.{IsRefForm}
use Rattle.ame_engine.proofs.SoundLemmas.{sound-next}

-- an attempt that is there
pub attempt-in : (o : Option Attempt) → IsSome o → (a : Attempt) × (o ≡ Some a)
attempt-in None h = absurd (cc)
attempt-in (Some a) h = (a, refl)

-- who is busy by its term, is so
module _ {M : Type 0} (term : M → Tree) where
  busy-by : (reason : UndoReason) (o : Option (Member M)) → IsSomeAnd (option_map (shown_member term) o) (λ m. IsTrue (is_busy_as (is_noted_for reason) m))
      → IsSomeAnd o (λ m. IsTrue (is_busy_for reason m))
  busy-by reason None h = h
  busy-by UndoReason.RolledBack (Some m) h = h
  busy-by UndoReason.Noted (Some m) h = h
  busy-by UndoReason.Stopped (Some m) h = h

  pub busy-same : (reason : UndoReason) (n : ℕ) (pool : Roster M) → IsAt (is_busy_as (is_noted_for reason)) n (shown_pool term pool) → IsAt (is_busy_for reason) n pool
  busy-same reason n pool h =
      busy-by reason (find n pool.members)
      (subst (λ (o : Option (Member Tree)). IsSomeAnd o (λ m. IsTrue (is_busy_as (is_noted_for reason) m))) (found-shown term n pool.members) h)

module _ {C V M : Type 0} (meaning : Meaning C V M)
    (core now : Core C V M) (view : core ≡ now) (whole : IsSound meaning core) (seat : ℕ)
    (busy : IsSome (attempt_of (task_at now.tasks seat))) (undoes : is_some now.stop ≡ false → IsTrue (is_undoing (task_at now.tasks seat)))
    (left : is_some now.stop ≡ false → now.turns < now.limits.turns) where
  busy' : (a : Attempt) × (attempt_of (task_at core.tasks seat) ≡ Some a)
  busy' = subst (λ (x : Core C V M). (a : Attempt) × (attempt_of (task_at x.tasks seat) ≡ Some a)) (sym view) (attempt-in (attempt_of (task_at now.tasks seat)) busy)

  undoes' : is_some core.stop ≡ false → is_undoing (task_at core.tasks seat) ≡ true
  undoes' = subst (λ (x : Core C V M). is_some x.stop ≡ false → is_undoing (task_at x.tasks seat) ≡ true) (sym view) undoes

  left' : is_some core.stop ≡ false → core.turns < core.limits.turns
  left' = subst (λ (x : Core C V M). is_some x.stop ≡ false → x.turns < x.limits.turns) (sym view) left

  pub undo-within : seat < length core.tasks
  undo-within = seat_within core.tasks seat busy'.0 busy'.1

  pub undo-grows : All CanGrow core.memory.cells
  undo-grows =
      grow-shown (meaning.value_of core.code) core.memory.cells
      (cells-grow (parts_of meaning core) whole.state.stands (let h = whole.limits.turns in omega arith))

  pub undo-few : is_some core.stop ≡ false → core.turns < 4000000
  undo-few going = let h = left' going in let limit = whole.limits.turns in omega arith

  module _ (t : Task) (read : t ≡ get_or core.tasks seat t) (attempt : Attempt) (its : attempt_of t ≡ Some attempt) (reason : UndoReason) (why : reason ≡ reason_to_undo t) where
    is : task_at core.tasks seat ≡ t
    is = task-read core.tasks seat t undo-within read

    pub has-it : attempt_of (task_at core.tasks seat) ≡ Some attempt
    has-it = ap attempt_of is ∙ its

    why-so : reason ≡ reason_to_undo (task_at core.tasks seat)
    why-so = why ∙ ap reason_to_undo (sym is)

    pub home-busy : IsAt (is_busy_for reason) attempt.tried.number core.pool
    home-busy =
        subst (λ (r : UndoReason). IsAt (is_busy_for r) attempt.tried.number core.pool) (sym why-so)
        (by (task_at core.tasks seat) (whole.state.stands.seats seat) has-it)
      where
        by : (task : Task) → MeetsTask (parts_of meaning core) whole.state.stands.types seat task → attempt_of task ≡ Some attempt
            → IsAt (is_busy_for (reason_to_undo task)) attempt.tried.number core.pool
        by Task.Idle h e = absurd (let clash : attempt_of Task.Idle ≡ Some attempt = e in cc)
        by (Task.Running a) h e =
            let same : a ≡ attempt = cc in
            subst (λ (x : Attempt). IsAt (is_busy_for UndoReason.Stopped) x.tried.number core.pool) same
            (busy-same (term_shown meaning.stage core.code) UndoReason.Stopped a.tried.number core.pool h.work.busy)
        by (Task.Free a) h e =
            let same : a ≡ attempt = cc in
            subst (λ (x : Attempt). IsAt (is_busy_for UndoReason.Stopped) x.tried.number core.pool) same
            (busy-same (term_shown meaning.stage core.code) UndoReason.Stopped a.tried.number core.pool h.work.busy)
        by (Task.Undoing a r) h e =
            let same : a ≡ attempt = cc in
            subst (λ (x : Attempt). IsAt (is_busy_for r) x.tried.number core.pool) same
            (busy-same (term_shown meaning.stage core.code) r a.tried.number core.pool h.work.busy)

    -- how many entries there are, by plain data
    many : length (row_at (parts_of meaning core).memory.rows seat).undos ≡ length (row_at core.memory.rows seat).undos
    many =
        ap (λ (n : Log Val). length n.undos) (row-shown (meaning.value_of core.code) core.memory.rows seat)
        ∙ length-map (row_at core.memory.rows seat).undos (shown_undo (meaning.value_of core.code))

    module _ (memory : MemoryView V) (memory-is : memory ≡ undone_last seat core.memory) (stopped : Bool) (stopped-is : stopped ≡ is_some core.stop)
        (turns : ℕ) (turns-is : turns ≡ (if stopped then core.turns else core.turns + 1))
        (counters : Counters) (counters-is : counters ≡ one_undone stopped core.counters) where
      turns-so : turns ≡ (if is_some core.stop then core.turns else core.turns + 1)
      turns-so = turns-is ∙ ap (λ (b : Bool). if b then core.turns else core.turns + 1) stopped-is

      counters-so : counters ≡ one_undone (is_some core.stop) core.counters
      counters-so = counters-is ∙ ap (λ (b : Bool). one_undone b core.counters) stopped-is

      -- other entries are left
      abbrev after-more : Core C V M
      after-more = record core { memory = memory; tasks = slice_set core.tasks seat (Task.Undoing attempt reason); turns = turns; counters = counters }

      after-undone : after-more ≡ record core {
        memory = undone_last seat core.memory;
        tasks = slice_set core.tasks seat (Task.Undoing attempt (reason_to_undo (task_at core.tasks seat)));
        turns = if is_some core.stop then core.turns else core.turns + 1;
        counters = one_undone (is_some core.stop) core.counters;
      }
      after-undone = λ i. record core {
        memory = memory-is i;
        tasks = slice_set core.tasks seat (Task.Undoing attempt (why-so i));
        turns = turns-so i;
        counters = counters-so i;
      }

      makes-core : MakesEvent meaning (one_undone (is_some core.stop)) (has_undone seat attempt (reason_to_undo (task_at core.tasks seat))) core after-more
      makes-core =
          subst (MakesEvent meaning (one_undone (is_some core.stop)) (has_undone seat attempt (reason_to_undo (task_at core.tasks seat))) core)
          (sym after-undone) (undone-makes meaning core whole seat attempt has-it)

      its-own : (a : Attempt) → attempt_of (task_at now.tasks seat) ≡ Some a → attempt ≡ a
      its-own a e =
          let both : Some attempt ≡ Some a = sym has-it ∙ subst (λ (x : Core C V M). attempt_of (task_at x.tasks seat) ≡ Some a) (sym view) e in cc

      may-undo : MayUndo (state_of meaning core) seat attempt
      may-undo = record { has = has-it; undoes = undoes'; left = left' }

      makes-more : 1 < length (row_at core.memory.rows seat).undos → Makes meaning (Event.Undo seat attempt) now after-more
      makes-more more =
          subst (λ (x : Core C V M). Makes meaning (Event.Undo seat attempt) x after-more) view
          (made-event meaning (one_undone (is_some core.stop)) (has_undone seat attempt (reason_to_undo (task_at core.tasks seat))) (Event.Undo seat attempt)
          core after-more refl refl (may-undo, (let e = many in omega arith)) makes-core)

      pub makes-undone : 1 < length (row_at core.memory.rows seat).undos → (a : Attempt) → attempt_of (task_at now.tasks seat) ≡ Some a
          → Makes meaning (Event.Undo seat a) now after-more
      makes-undone more a e = subst (λ (x : Attempt). Makes meaning (Event.Undo seat x) now after-more) (its-own a e) (makes-more more)

      memory-good : IsGoodMemory (meaning.is_value core.code) (IsRefForm (meaning.program core.code)) memory
      memory-good = subst (IsGoodMemory (meaning.is_value core.code) (IsRefForm (meaning.program core.code))) (sym memory-is) (undo-memory meaning core whole seat attempt has-it)

      pub whole-undone : 1 < length (row_at core.memory.rows seat).undos → IsSound meaning after-more
      whole-undone more =
          sound-next meaning core now after-more view whole (Event.Undo seat attempt) (makes-more more) memory-good whole.members whole.text

      -- none is left
      module _ (pool : Roster M) (pool-is : pool ≡ home_for reason attempt.tried.number core.pool) (tried : List Tried) (tried-is : tried ≡ with_try attempt core.tried) where
        pool-so : pool ≡ home_for (reason_to_undo (task_at core.tasks seat)) attempt.tried.number core.pool
        pool-so = pool-is ∙ ap (λ (r : UndoReason). home_for r attempt.tried.number core.pool) why-so

        abbrev after-gone : Core C V M
        after-gone = record core { memory = memory; tasks = slice_set core.tasks seat Task.Idle; pool = pool; turns = turns; counters = counters; tried = tried }

        after-home : after-gone ≡ record core {
          memory = undone_last seat core.memory;
          tasks = slice_set core.tasks seat Task.Idle;
          pool = home_for (reason_to_undo (task_at core.tasks seat)) attempt.tried.number core.pool;
          turns = if is_some core.stop then core.turns else core.turns + 1;
          counters = one_undone (is_some core.stop) core.counters;
          tried = with_try attempt core.tried;
        }
        after-home = λ i. record core {
          memory = memory-is i;
          tasks = slice_set core.tasks seat Task.Idle;
          pool = pool-so i;
          turns = turns-so i;
          counters = counters-so i;
          tried = tried-is i;
        }

        makes-home : (1 < length (row_at core.memory.rows seat).undos → ⊥) → Makes meaning (Event.Home seat attempt) now after-gone
        makes-home few =
            subst (λ (x : Core C V M). Makes meaning (Event.Home seat attempt) x after-gone) view
            (made-event meaning (one_undone (is_some core.stop)) (has_gone_home seat attempt (reason_to_undo (task_at core.tasks seat))) (Event.Home seat attempt)
            core after-gone refl refl (may-undo, (let e = many in omega (arith, e, few)))
            (subst (MakesEvent meaning (one_undone (is_some core.stop)) (has_gone_home seat attempt (reason_to_undo (task_at core.tasks seat))) core)
            (sym after-home) (gone-makes meaning core whole seat attempt has-it)))

        pub makes-gone : (1 < length (row_at core.memory.rows seat).undos → ⊥) → (a : Attempt) → attempt_of (task_at now.tasks seat) ≡ Some a
            → Makes meaning (Event.Home seat a) now after-gone
        makes-gone few a e = subst (λ (x : Attempt). Makes meaning (Event.Home seat x) now after-gone) (its-own a e) (makes-home few)

        pub whole-gone : (1 < length (row_at core.memory.rows seat).undos → ⊥) → IsSound meaning after-gone
        whole-gone few =
            sound-next meaning core now after-gone view whole (Event.Home seat attempt) (makes-home few) memory-good
            (subst (λ (p : Roster M). All (IsAtRest meaning.is_machine meaning.stage core.code) p.members) (sym pool-so)
            (gone-rests meaning core whole seat attempt has-it)) whole.text
