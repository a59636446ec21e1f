-- Reads, writes and allocations of a seat that runs protected code.
use Rattle.std.proofs.Common.{◌≡◌, ℕ, ◌+◌, ◌*◌, ◌<◌, ◌≤◌, ◌⊎◌, inl, inr, Option, Some, true, false, length, length-set, refl, sym, ap, ◌∙◌, subst, arith}
use Rattle.ame_term.specs.Tree.{Typ, Val, Tree, unit_tree}
use Rattle.ame_term.specs.Signature.{MayStore}
use Rattle.ame_term.specs.Act.{Act}
use Rattle.ame_term.specs.declared.types.Loc.{Loc}
use Rattle.ame_term.specs.declared.types.Sort.{Sort}
use Rattle.ame_term.specs.declared.types.TyNo.{TyNo}
use Rattle.ame_laws.specs.Typed.StoreTyping.{StoreTyping}
use Rattle.ame_laws.specs.Typed.Fragment.{IsValueOf}
use Rattle.ame_laws.specs.Typed.TypedState.{IsStored}
use Rattle.ame_store.specs.declared.cell.Cell.{Cell}
use Rattle.ame_store.specs.Cells.{IsFree, IsOwnedBy}
use Rattle.ame_store.specs.Changes.{made}
use Rattle.ame_store.specs.Writes.{taken_by}
use Rattle.ame_rows.specs.declared.notes.Undo.TheVariants.{Wrote, Made}
use Rattle.ame_machine.specs.Run.Local.{LocalState, took, set_at, made_at}
use Rattle.ame_rows.specs.MemoryView.{MemoryView, row_at}
use Rattle.ame_rows.specs.Access.{notes_read, notes_written, notes_allocated, written_by, next_place, allocated_by}
use Rattle.ame_rows.proofs.LookupLemmas.{row_set_else}
use Rattle.ame_protocol.specs.Row.Heap.{Heap, cell_at, IsCell}
use Rattle.ame_protocol.specs.Row.SeatRun.{SeatRun, IsSomewhere, ComesTo}
use Rattle.ame_protocol.specs.Row.Owes.{Owes}
use Rattle.ame_protocol.specs.Row.Changed.{BecomesAt}
use Rattle.ame_protocol.specs.Row.Framed.{IsFramedAt, IsFramed}
use Rattle.ame_protocol.specs.Row.Own.{given_one, given_outside, given_undo}
use Rattle.ame_protocol.specs.Row.TypedHeap.{types_with, IsTypedHeap, IsTypedRun}
use Rattle.ame_protocol.specs.Row.Scoped.{IsScoped}
use Rattle.ame_protocol.proofs.Row.OwnLemmas.{somewhere-on, outside, own_read, first_write, second_write, allocation}
use Rattle.ame_protocol.proofs.Row.EventLemmas.{taken-framed, again-framed, new-framed}
use Rattle.ame_protocol.proofs.Row.TypedRunLemmas.{read-typed, run-read, write-typed, run-first, run-write, heap-stays, allocated-typed, types-grow, new-fit, heap-grows, run-made}
use Rattle.ame_protocol.proofs.Row.ScopedLemmas.{scoped-outside, scoped-own, scoped-first, scoped-later, scoped-made}
use Rattle.ame_protocol.specs.declared.types.Attempt.{Attempt}
use Rattle.ame_protocol.specs.declared.types.Task.{Task}
use Rattle.ame_protocol.specs.Engine.Logged.{heap_of, logged_run, read_by}
use Rattle.ame_protocol.specs.Engine.Parts.{Parts, heap_in, task_at, attempt_of, term_at, run_in}
use Rattle.ame_protocol.specs.Engine.Tasks.{RunsProtected, MeetsTask}
use Rattle.ame_protocol.specs.Engine.Simulates.{HasFewChanges, Simulates}
use Rattle.ame_protocol.specs.Engine.Events.{has_read, has_written, has_allocated}
use Rattle.ame_protocol.proofs.Engine.MemoryLemmas.{memory-committed}
use Rattle.ame_protocol.proofs.Engine.MemoryEvents.{read-heap, read-outside, read-own, read-kept, write-first, write-later, write-count, write-committed, write-kept, first-run, later-run}
use Rattle.ame_protocol.proofs.Engine.MemoryEvents.{allocation-becomes, allocation-count, allocation-committed, allocation-kept, allocation-run}
use Rattle.ame_protocol.proofs.Engine.CarryLemmas.{work-on}
use Rattle.ame_protocol.proofs.Engine.StepLemmas.{seat_within, few-later, acted, goes_on, stays_busy, Acts, act, shared-one, numbers-one, few-taken, owned_or_not}

module _ (parts : Parts) (s : Simulates parts) (seat : ℕ) (attempt : Attempt) (task : task_at parts.tasks seat ≡ Task.Running attempt) where
  abbrev heap : Heap
  heap = heap_in parts

  abbrev run : SeatRun
  run = run_in parts seat attempt.tried.number

  pub runs : RunsProtected parts s.types seat attempt
  runs = subst (MeetsTask parts s.types seat) task (s.seats seat)

  pub within : seat < length parts.memory.rows
  within = let h = seat_within parts.tasks seat attempt (ap attempt_of task) in omega (arith, s.bounded.tasks, s.bounded.rows)

  -- the row after an event that leaves the task
  runs-acted : (memory : MemoryView Val) (turns : ℕ) (types : StoreTyping) (next : SeatRun) → parts.turns ≤ turns
      → logged_run (term_at parts.pool attempt.tried.number) (row_at memory.rows seat) ≡ next → IsSomewhere next → Owes (heap_of memory) seat next → IsTypedRun parts.signature types next
      → IsScoped parts.signature types (heap_of memory) seat next → MeetsTask (acted memory parts.tasks turns parts) types seat (task_at parts.tasks seat)
  runs-acted memory turns types next later is there owes typed scoped =
      let new = acted memory parts.tasks turns parts in
      let h : RunsProtected new types seat attempt = record {
        work = work-on parts new false attempt (goes_on parts memory parts.tasks turns later) (stays_busy parts memory parts.tasks turns attempt.tried.number) runs.work;
        outside = runs.outside;
        somewhere = subst IsSomewhere (sym is) there;
        owes = subst (Owes (heap_of memory) seat) (sym is) owes;
        typed = subst (IsTypedRun parts.signature types) (sym is) typed;
        scoped = subst (IsScoped parts.signature types (heap_of memory) seat) (sym is) scoped;
      } in
      subst (MeetsTask new types seat) (sym task) h

  module _ (n : ℕ) (p : LocalState) where
    abbrev later_turns : ℕ
    later_turns = parts.turns + 1

    pub read-there : (l : Loc) → ComesTo run (Act.Reads l.0) n p
        → IsCell heap l.0 × ((cell_at heap l.0).sort ≡ Sort.Protected) × IsStored parts.signature s.types l.0 (cell_at heap l.0).value
    read-there l comes = read-typed parts.signature s.types heap s.typed.heap run runs.typed n p l.0 comes

    pub write-there : (l : Loc) (v : Val) → ComesTo run (Act.Writes l.0 v) n p
        → IsCell heap l.0 × ((cell_at heap l.0).sort ≡ Sort.Protected) × IsStored parts.signature s.types l.0 v
    write-there l v comes = write-typed parts.signature s.types heap s.typed.heap run runs.typed n p l.0 v comes

    module _ (left : parts.turns < parts.limits.turns) (l : Loc) (comes : ComesTo run (Act.Reads l.0) n p) where
      abbrev cell : Cell Val
      cell = cell_at heap l.0

      is_there : IsCell heap l.0 × (cell.sort ≡ Sort.Protected) × IsStored parts.signature s.types l.0 cell.value
      is_there = read-there l comes

      abbrev read_memory : MemoryView Val
      read_memory = read_by seat l parts.memory

      same : heap_of read_memory ≡ heap
      same = read-heap parts.memory seat within l

      -- the run that was given it, with what was logged
      stands-on : IsSomewhere (given_one cell.value run)
      stands-on = somewhere-on run (Act.Reads l.0) n p cell.value (Tree.Held cell.value, took l.0 cell.value p) comes refl

      outside_typed : IsTypedRun parts.signature s.types (given_one cell.value run) → IsTypedRun parts.signature s.types (given_outside l cell run)
      outside_typed h = record { places = h.places; undos = h.undos }

      read-runs : IsOwnedBy seat cell ⊎ (IsOwnedBy seat cell → ⊥) → MeetsTask (acted read_memory parts.tasks later_turns parts) s.types seat (task_at parts.tasks seat)
      read-runs (inl own) =
          runs-acted read_memory later_turns s.types (given_one cell.value run) (omega arith) (read-own parts.memory seat within l is_there.0 own (term_at parts.pool attempt.tried.number))
          stands-on
          (subst (λ (h : Heap). Owes h seat (given_one cell.value run)) (sym same) (own_read heap seat run runs.owes l.0 n p comes own))
          (run-read parts.signature s.types heap s.typed.heap run runs.typed n p l.0 comes)
          (subst (λ (h : Heap). IsScoped parts.signature s.types h seat (given_one cell.value run)) (sym same)
          (scoped-own parts.signature s.types heap seat run s.r.state l.0 n p comes runs.owes.given own runs.scoped))
      read-runs (inr apart) =
          runs-acted read_memory later_turns s.types (given_outside l cell run) (omega arith) (read-outside parts.memory seat within l is_there.0 apart (term_at parts.pool attempt.tried.number))
          (record { steps = stands-on.steps; place = stands-on.place; used = record { ran = stands-on.used.ran; used = stands-on.used.used } })
          (subst (λ (h : Heap). Owes h seat (given_outside l cell run)) (sym same)
          (outside heap seat run runs.owes (memory-committed parts.memory) l n p comes is_there.0 is_there.1 apart))
          (outside_typed (run-read parts.signature s.types heap s.typed.heap run runs.typed n p l.0 comes))
          (subst (λ (h : Heap). IsScoped parts.signature s.types h seat (given_outside l cell run)) (sym same)
          (scoped-outside parts.signature s.types heap seat run s.r.state s.typed.now s.stands.store (memory-committed parts.memory) l n p comes apart runs.scoped))

      read-acts : Acts parts s seat read_memory parts.tasks later_turns
      read-acts = record {
        types = s.types;
        grows = λ m c e. e;
        later = omega arith;
        left = omega arith;
        committed = λ m. ap (λ (h : Heap). h.committed m) same;
        consistent = read-kept parts.memory seat within l s.consistent is_there.0;
        framed =
            λ other apart. record {
              places = λ m. IsFramedAt.stays (ap (λ (h : Heap). cell_at h m) same) (ap (λ (h : Heap). h.committed m) same);
              longer = omega arith;
            };
        rows = λ other apart. row_set_else parts.memory.rows seat other _ apart;
        row_count = length-set parts.memory.rows seat (notes_read seat l cell.value parts.memory.cells (row_at parts.memory.rows seat));
        tasks_stay = λ other apart. refl;
        member = refl;
        task_count = refl;
        heap = subst (IsTypedHeap parts.signature s.types) (sym same) s.typed.heap;
        shared = s.typed.shared;
        numbers = λ m. few-later parts.turns later_turns (cell_at heap m) (omega arith) (s.bounded.numbers m);
        cells = let h = s.bounded.cells in omega arith;
        own = read-runs (owned_or_not seat cell);
      }

      pub read-stands : Simulates (has_read seat l parts)
      read-stands = act parts s seat read_memory parts.tasks later_turns read-acts

    module _ (left : parts.turns < parts.limits.turns) (l : Loc) (v : Val) (comes : ComesTo run (Act.Writes l.0 v) n p) where
      abbrev written_cell : Cell Val
      written_cell = cell_at heap l.0

      can_write : IsCell heap l.0 × (written_cell.sort ≡ Sort.Protected) × IsStored parts.signature s.types l.0 v
      can_write = write-there l v comes

      abbrev wrote : MemoryView Val
      wrote = written_by seat l v Val.Unit parts.memory

      write-acts : (new_cell : Cell Val) → BecomesAt heap (heap_of wrote) l.0 new_cell → new_cell.sort ≡ written_cell.sort → new_cell.ty ≡ written_cell.ty
          → IsStored parts.signature s.types l.0 new_cell.value
          → HasFewChanges later_turns new_cell → ((other : ℕ) → (other ≡ seat → ⊥) → IsFramed other heap (heap_of wrote))
          → MeetsTask (acted wrote parts.tasks later_turns parts) s.types seat (task_at parts.tasks seat) → Acts parts s seat wrote parts.tasks later_turns
      write-acts new_cell b sort number stored few framed own = record {
        types = s.types;
        grows = λ m c e. e;
        later = omega arith;
        left = omega arith;
        committed = write-committed parts.memory seat l v within can_write.0 s.consistent;
        consistent = write-kept parts.memory seat l v within can_write.0 s.consistent;
        framed = framed;
        rows = λ other apart. row_set_else parts.memory.rows seat other _ apart;
        row_count = length-set parts.memory.rows seat (notes_written seat l Val.Unit parts.memory.cells (row_at parts.memory.rows seat));
        tasks_stay = λ other apart. refl;
        member = refl;
        task_count = refl;
        heap = heap-stays parts.signature s.types heap (heap_of wrote) l.0 new_cell s.typed.heap b (write-count parts.memory seat l v) sort number stored;
        shared =
            shared-one parts s wrote l.0 new_cell b
            (λ live its. absurd (let clash : Sort.Protected ≡ Sort.Unprotected = sym (sort ∙ can_write.1) ∙ its in cc));
        numbers = numbers-one parts s wrote l.0 new_cell b later_turns (omega arith) few;
        cells = let h = s.bounded.cells in let e = write-count parts.memory seat l v in omega arith;
        own = own;
      }

      stands-written : IsSomewhere (given_one Val.Unit run)
      stands-written = somewhere-on run (Act.Writes l.0 v) n p Val.Unit (unit_tree, set_at l.0 v p) comes refl

      pub write-first_stands : IsFree written_cell → Simulates (has_written seat l v parts)
      write-first_stands free =
          let b = write-first parts.memory seat l v can_write.0 free in
          let k = write-committed parts.memory seat l v within can_write.0 s.consistent in
          let next = given_undo Val.Unit (Wrote l written_cell.number written_cell.value) run in
          act parts s seat wrote parts.tasks later_turns
          (write-acts (taken_by seat v written_cell) b refl refl can_write.2 (few-taken parts.turns seat v written_cell free (s.bounded.numbers l.0))
          (λ other apart. taken-framed other seat (λ e. apart (sym e)) heap (heap_of wrote) l.0 k v free b)
          (runs-acted wrote later_turns s.types next (omega arith) (first-run parts.memory seat l v within can_write.0 free (term_at parts.pool attempt.tried.number))
          (record { steps = stands-written.steps; place = stands-written.place; used = record { ran = stands-written.used.ran; used = stands-written.used.used } })
          (first_write heap (heap_of wrote) seat run runs.owes l v n p (memory-committed parts.memory) comes can_write.0 free b k)
          (run-first parts.signature s.types heap s.typed.heap run runs.typed n p l written_cell.number v comes)
          (scoped-first parts.signature s.types s.types heap (heap_of wrote) seat run (λ m c e. e) runs.owes.notes runs.scoped l.0 v n p comes free b)))

      pub write-later_stands : IsOwnedBy seat written_cell → Simulates (has_written seat l v parts)
      write-later_stands own =
          let b = write-later parts.memory seat l v can_write.0 own in
          let k = write-committed parts.memory seat l v within can_write.0 s.consistent in
          let cell : Cell Val = record written_cell { value = v } in
          act parts s seat wrote parts.tasks later_turns
          (write-acts cell b refl refl can_write.2 (few-later parts.turns later_turns written_cell (omega arith) (s.bounded.numbers l.0))
          (λ other apart. again-framed other seat (λ e. apart (sym e)) heap (heap_of wrote) l.0 k v own b)
          (runs-acted wrote later_turns s.types (given_one Val.Unit run) (omega arith) (later-run parts.memory seat l v within can_write.0 own (term_at parts.pool attempt.tried.number))
          stands-written
          (second_write heap (heap_of wrote) seat run runs.owes l v n p comes own b k)
          (run-write parts.signature s.types heap s.typed.heap run runs.typed n p l.0 v comes)
          (scoped-later parts.signature s.types s.types heap (heap_of wrote) seat run (λ m c e. e) runs.owes.notes runs.scoped l.0 v n p comes b)))

    module _ (left : parts.turns < parts.limits.turns) (sort : Sort) (ty : TyNo) (v : Val) (comes : ComesTo run (Act.Allocates sort ty v) n p) where
      abbrev place : ℕ
      place = length parts.memory.cells

      abbrev new_cell : Cell Val
      new_cell = made sort ty v (Some seat)

      abbrev larger : MemoryView Val
      larger = allocated_by seat sort ty v (Val.Loc place) parts.memory

      its-type : (content : Typ) × IsValueOf parts.signature s.types v content × MayStore parts.signature.refs ty.0 content
      its-type = allocated-typed parts.signature s.types run sort ty v n p runs.typed comes

      abbrev larger_types : Typ → StoreTyping
      larger_types content = types_with place (sort, content) s.types

      not_there : IsCell heap place → ⊥
      not_there there = let h : place < length parts.memory.cells = there in omega arith

      stands-made : IsSomewhere (given_one (Val.Loc place) run)
      stands-made = somewhere-on run (Act.Allocates sort ty v) n p (Val.Loc place) (Tree.Held (Val.Loc place), made_at place v p) comes refl

      allocation-acts : (content : Typ) → IsValueOf parts.signature s.types v content → MayStore parts.signature.refs ty.0 content → Acts parts s seat larger parts.tasks later_turns
      allocation-acts content value may =
          let b = allocation-becomes parts.memory seat sort ty v in
          let k = allocation-committed parts.memory seat sort ty v within in
          let types = larger_types content in
          let grows = types-grow parts.signature s.types heap place (sort, content) s.typed.heap refl in
          let fit = new-fit parts.signature s.types heap place sort ty v content s.typed.heap refl value in
          let next = given_undo (Val.Loc place) (Made (next_place parts.memory.cells)) run in
          record {
            types = types;
            grows = grows;
            later = omega arith;
            left = omega arith;
            committed = k;
            consistent = allocation-kept parts.memory seat sort ty v within s.consistent;
            framed =
                λ other apart. new-framed other heap (heap_of larger) place new_cell not_there
                (λ own. apart (let both : ◌≡◌ {A = Option ℕ} (Some seat) (Some other) = own in let one : seat ≡ other = cc in sym one)) b (λ m _. k m);
            rows = λ other apart. row_set_else parts.memory.rows seat other _ apart;
            row_count = length-set parts.memory.rows seat (notes_allocated (next_place parts.memory.cells) (Val.Loc place) (row_at parts.memory.rows seat));
            tasks_stay = λ other apart. refl;
            member = refl;
            task_count = refl;
            heap = heap-grows parts.signature s.types heap (heap_of larger) place new_cell content s.typed.heap b refl (allocation-count parts.memory seat sort ty v) value may;
            shared = shared-one parts s larger place new_cell b (λ live its. absurd (let clash : false ≡ true = live in cc));
            numbers = numbers-one parts s larger place new_cell b later_turns (omega arith) (let few : 1 + 1 ≤ 2 * later_turns = omega arith in few);
            cells = let h = s.bounded.cells in let e = allocation-count parts.memory seat sort ty v in omega arith;
            own =
                runs-acted larger later_turns types next (omega arith) (allocation-run parts.memory seat sort ty v within (term_at parts.pool attempt.tried.number))
                (record { steps = stands-made.steps; place = stands-made.place; used = record { ran = stands-made.used.ran; used = stands-made.used.used } })
                (allocation heap (heap_of larger) seat run runs.owes sort ty (next_place parts.memory.cells) v n p comes not_there b k)
                (run-made parts.signature s.types types run sort ty (next_place parts.memory.cells) v n p grows runs.typed comes fit)
                (scoped-made parts.signature s.types types heap (heap_of larger) seat run grows runs.owes.notes runs.scoped sort ty place v n p comes not_there b fit);
          }

      pub allocation-stands : Simulates (has_allocated seat sort ty v parts)
      allocation-stands = act parts s seat larger parts.tasks later_turns (allocation-acts its-type.0 its-type.1 its-type.2)
