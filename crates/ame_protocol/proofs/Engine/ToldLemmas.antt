-- Consequences of the simulation, and of a stop.
use Rattle.std.proofs.Common.{◌≡◌, ℕ, ◌+◌, ◌*◌, ◌^◌, ◌<◌, ◌≤◌, All, [], Option, Some, None, length, MatchOption, refl, sym, ◌∙◌, arith}
use Rattle.std.proofs.lemmas.List.{append-nil}
use Rattle.std.proofs.lemmas.List.Elements.{All-from_get_or}
use Rattle.ame_term.specs.Tree.{Typ, Val}
use Rattle.ame_term.specs.declared.types.Effect.{Effect}
use Rattle.ame_laws.proofs.MapLemmas.{each-at}
use Rattle.ame_laws.specs.Typed.TypedState.{IsMember}
use Rattle.ame_machine.specs.Run.Local.{LocalState}
use Rattle.ame_machine.specs.Run.Fit.{IsTypedPlace}
use Rattle.ame_pool.specs.Members.{find}
use Rattle.ame_store.specs.declared.cell.Cell.{Cell}
use Rattle.ame_store.specs.Cells.{CanGrow}
use Rattle.ame_protocol.specs.Row.Heap.{cell_at, no_cell}
use Rattle.ame_protocol.specs.Row.Framed.{IsFramedAt}
use Rattle.ame_protocol.specs.Row.SeatRun.{HasUsed}
use Rattle.ame_protocol.specs.Row.Scoped.{live_types}
use Rattle.ame_protocol.proofs.Row.ReachLemmas.{where-within, fragment-grown}
use Rattle.ame_protocol.specs.declared.types.Attempt.{Attempt}
use Rattle.ame_protocol.specs.declared.types.Task.{Task}
use Rattle.ame_protocol.specs.Engine.Parts.{Parts, whole_journal, heap_in, task_at, member_of, term_at, run_in}
use Rattle.ame_protocol.specs.Engine.Tasks.{MeetsTask}
use Rattle.ame_protocol.specs.Engine.Simulates.{HasFewChanges, Simulates}
use Rattle.ame_protocol.specs.Engine.Events.{has_stopped}
use Rattle.ame_protocol.proofs.Engine.CarryLemmas.{GoesOn, carried, tries-on}
use Rattle.ame_protocol.proofs.Engine.PoolLemmas.{found-machine}
use Rattle.ame_protocol.proofs.Engine.AccessLemmas.{runs}
use Rattle.ame_protocol.proofs.Engine.HomeLemmas.{busy-of}
use Rattle.ame_protocol.proofs.Engine.CommitLemmas.{free-next}

module _ (parts : Parts) (s : Simulates parts) where
  pub next-free : (i : ℕ) → parts.next ≤ i → find i parts.pool.members ≡ None
  next-free = free-next parts s

  few-number : (turns : ℕ) (cell : Cell Val) → turns < 2 ^ 32 → HasFewChanges turns cell → CanGrow cell
  few-number turns cell small h = by cell.owner h
    where
      by : (o : Option ℕ) → MatchOption o (cell.number ≤ 2 * turns) (λ _. cell.number + 1 ≤ 2 * turns) → CanGrow cell
      by None h = let e : cell.number < 2 ^ 62 = omega arith in e
      by (Some owner) h = let e : cell.number < 2 ^ 62 = omega arith in e

  pub cells-grow : parts.limits.turns < 2 ^ 32 → All CanGrow parts.memory.cells
  cells-grow small =
      All-from_get_or CanGrow parts.memory.cells no_cell
      (λ l below. few-number parts.turns (cell_at (heap_in parts) l) (let h = s.bounded.turns in omega arith) (s.bounded.numbers l))

  pub cells-few : parts.limits.turns ≤ 4000000 → length parts.memory.cells < 4294967295
  cells-few small = let h = s.bounded.cells in let t = s.bounded.turns in omega arith

  -- A stop

  abbrev stopped_parts : Parts
  stopped_parts = has_stopped parts

  goes : GoesOn parts stopped_parts
  goes = record { program = refl; signature = refl; limits = refl; more = []; journal = sym (append-nil (whole_journal parts)); turns = omega arith }

  stays : (seat : ℕ) → MeetsTask stopped_parts s.types seat (task_at parts.tasks seat)
  stays seat =
      carried parts stopped_parts s.types s.types seat goes (λ m c e. e) (record { places = λ m. IsFramedAt.stays refl refl; longer = omega arith }) refl
      (task_at parts.tasks seat) (λ i e. record { machine = refl; inside = refl; busy = λ noted h. h }) (s.seats seat)

  pub stopped_stands : Simulates stopped_parts
  stopped_stands = record {
    r = s.r;
    types = s.types;
    stands = record {
      replayed = s.stands.replayed;
      store = s.stands.store;
      members = s.stands.members;
      inside = s.stands.inside;
      output = s.stands.output;
      next = s.stands.next;
    };
    typed = record { heap = s.typed.heap; now = s.typed.now; shared = s.typed.shared };
    consistent = s.consistent;
    seats = stays;
    apart = s.apart;
    bounded = record {
      turns = s.bounded.turns;
      numbers = s.bounded.numbers;
      cells = s.bounded.cells;
      rows = s.bounded.rows;
      tasks = s.bounded.tasks;
    };
    sound = tries-on parts stopped_parts goes parts.tried s.sound;
  }

  -- Types

  pub member-typed : (seat i : ℕ) → member_of (task_at parts.tasks seat) ≡ Some i → IsMember parts.signature s.types (term_at parts.pool i)
  member-typed seat i has =
      let b = busy-of parts s.types seat i (task_at parts.tasks seat) (s.seats seat) has in
      let live = live_types (heap_in parts) s.types in
      let term = term_at parts.pool i in
      let member = s.stands.members i ∙ found-machine parts.pool i b.0 b.1 in
      fragment-grown parts.signature live s.types (where-within (λ l. (cell_at (heap_in parts) l).live) s.types) Effect.Protected term Typ.Unit
      (each-at (IsMember parts.signature live) s.r.state.members i term member s.typed.now.members)

  pub place-typed : (seat : ℕ) (attempt : Attempt) (n : ℕ) (p : LocalState) → task_at parts.tasks seat ≡ Task.Running attempt
      → HasUsed (run_in parts seat attempt.tried.number) n p → IsTypedPlace parts.signature s.types Typ.Unit p
  place-typed seat attempt n p task place = (runs parts s seat attempt task).typed.places n p place.ran place.used
