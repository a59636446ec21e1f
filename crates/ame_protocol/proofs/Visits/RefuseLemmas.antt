-- A device refused the call of a visit.
use Rattle.std.proofs.Common.{◌≡◌, ℕ, ◌+◌, ◌<◌, [], set, Some, length-set, refl, sym, ap, ◌∙◌, subst, arith}
use Rattle.std.specs.Prelude.{option_map, false}
use Rattle.std.proofs.lemmas.List.{append-nil}
use Rattle.ame_term.specs.Tree.{Tree}
use Rattle.ame_pool.specs.Found.{IsFoundAfter}
use Rattle.ame_pool.specs.Roster.{Roster}
use Rattle.ame_pool.specs.Begin.{is_exhausted}
use Rattle.ame_pool.specs.Calls.{IsAt, at_home, home, machine_of, inside_of}
use Rattle.ame_pool.proofs.MemberLemmas.{found_altered}
use Rattle.ame_protocol.specs.Row.Heap.{cell_at}
use Rattle.ame_protocol.specs.Row.Framed.{IsFramedAt}
use Rattle.ame_protocol.specs.declared.types.Attempt.{Attempt}
use Rattle.ame_protocol.specs.declared.types.Task.{Task}
use Rattle.ame_protocol.specs.Engine.Parts.{Parts, whole_journal, heap_in, task_at, attempt_of, member_of}
use Rattle.ame_protocol.specs.Engine.Tasks.{MeetsTask}
use Rattle.ame_protocol.specs.Engine.Simulates.{Simulates}
use Rattle.ame_protocol.specs.Engine.Alone.{RunsExclusively}
use Rattle.ame_protocol.proofs.Engine.CarryLemmas.{GoesOn, StaysBusy, tries-on}
use Rattle.ame_protocol.proofs.Engine.PoolLemmas.{machines-stay, sides-stay, inside-same}
use Rattle.ame_protocol.proofs.Engine.GrowthLemmas.{keeps-same}
use Rattle.ame_protocol.proofs.Engine.StepLemmas.{step, few-later, task_else}
use Rattle.ame_protocol.proofs.Engine.ToldLemmas.{stopped_stands}
use Rattle.ame_protocol.proofs.Engine.AloneEvents.{stop-alone}
use Rattle.ame_protocol.specs.Visits.Visit.{has_been_refused}
use Rattle.ame_protocol.proofs.Visits.PlaceLemmas.{visits}
use Rattle.ame_protocol.proofs.Visits.StandLemmas.{idle-here, its-own, was-there}
use Rattle.ame_protocol.proofs.Visits.AloneLemmas.{exhausted-told, visited-alone}

module _ (parts : Parts) (s : Simulates parts) (seat : ℕ) (attempt : Attempt) (task : task_at parts.tasks seat ≡ Task.Free attempt) where
  abbrev number : ℕ
  number = attempt.tried.number

  abbrev pool : Roster Tree
  pool = home number false parts.pool

  abbrev new : Parts
  new = record parts { pool = pool; tasks = set parts.tasks seat Task.Idle; turns = parts.turns + 1 }

  has : attempt_of (task_at parts.tasks seat) ≡ Some attempt
  has = ap attempt_of task

  found : IsFoundAfter number (option_map (at_home false)) parts.pool.members pool.members
  found = found_altered number (at_home false) (λ _. refl) parts.pool.members

  machine-same : (i : ℕ) → machine_of i pool ≡ machine_of i parts.pool
  machine-same = machines-stay number (at_home false) parts.pool.members pool.members found (λ _. refl) (λ _. refl)

  inside-stays : (i : ℕ) → inside_of i pool ≡ inside_of i parts.pool
  inside-stays = sides-stay number (at_home false) parts.pool.members pool.members found (λ _. refl) (λ _. refl)

  goes : GoesOn parts new
  goes = record { program = refl; signature = refl; limits = refl; more = []; journal = sym (append-nil (whole_journal parts)); turns = omega arith }

  kept : (other i : ℕ) → (other ≡ seat → ⊥) → member_of (task_at parts.tasks other) ≡ Some i → StaysBusy parts new i
  kept other i apart e =
      let k = keeps-same parts.pool pool i (found.others i (its-own parts s seat attempt has other i apart e)) in
      record { machine = k.machine; inside = k.inside; busy = k.busy }

  at-home : parts.turns < parts.limits.turns → Simulates new
  at-home left =
      step parts new s seat (record {
        r = s.r;
        types = s.types;
        on = goes;
        grows = λ m c e. e;
        stands = record {
          replayed = s.stands.replayed;
          store = s.stands.store;
          members = λ i. s.stands.members i ∙ sym (machine-same i);
          inside = λ i. s.stands.inside i ∙ sym (inside-same parts.pool.members pool.members i (inside-stays i));
          output = s.stands.output;
          next = s.stands.next;
        };
        typed = record { heap = s.typed.heap; now = s.typed.now; shared = s.typed.shared };
        consistent = s.consistent;
        framed = λ other apart. record { places = λ m. IsFramedAt.stays refl refl; longer = omega arith };
        rows = λ other apart. refl;
        tasks = task_else parts.tasks seat Task.Idle;
        busy = λ other apart i e. kept other i apart e;
        own = subst (MeetsTask new s.types seat) (sym (idle-here parts s seat attempt has)) (visits parts s seat attempt task).clear;
        apart = λ k other i e f. s.apart k other i (was-there parts s seat attempt has k i e) (was-there parts s seat attempt has other i f);
        bounded = record {
          turns = omega arith;
          numbers = λ l. few-later parts.turns (parts.turns + 1) (cell_at (heap_in parts) l) (omega arith) (s.bounded.numbers l);
          cells = let h = s.bounded.cells in omega arith;
          rows = s.bounded.rows;
          tasks = length-set parts.tasks seat Task.Idle ∙ s.bounded.tasks;
        };
        sound = tries-on parts new goes parts.tried s.sound;
      })

  pub refused-stands : parts.turns < parts.limits.turns → Simulates (has_been_refused seat number parts)
  refused-stands left = stopped_stands new (at-home left)

  exhausted-before : (k i : ℕ) → (k ≡ seat → ⊥) → member_of (task_at parts.tasks k) ≡ Some i → IsAt is_exhausted i pool → IsAt is_exhausted i parts.pool
  exhausted-before k i apart its exhausted =
      exhausted-told parts.pool pool i (keeps-same parts.pool pool i (found.others i (its-own parts s seat attempt has k i apart its))).rollbacks exhausted

  pub refused-alone : RunsExclusively parts → RunsExclusively (has_been_refused seat number parts)
  refused-alone a =
      stop-alone new
      (visited-alone parts new s a seat attempt task (idle-here parts s seat attempt has) refl (task_else parts.tasks seat Task.Idle) exhausted-before refl
      (λ k t running valid. valid))
