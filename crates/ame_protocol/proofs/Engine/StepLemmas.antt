-- An event of a seat, as what it owes the others.
use Rattle.std.proofs.Common.{◌≡◌, ℕ, zero, suc, ◌+◌, ◌*◌, ◌<◌, ◌≤◌, ◌⊎◌, inl, inr, List, [], ◌∷◌, All, Option, Some, None, MatchOption, length, set, refl, sym, ap, ◌∙◌, subst, arith}
use Rattle.std.proofs.lemmas.List.{append-nil, get_or-set_same, get_or-set_other}
use Rattle.ame_term.specs.Tree.{Val}
use Rattle.ame_term.specs.declared.types.Sort.{Sort}
use Rattle.ame_journal.specs.Replayed.{Replayed}
use Rattle.ame_laws.specs.Typed.StoreTyping.{StoreTyping, Grows}
use Rattle.ame_store.specs.declared.cell.Cell.{Cell}
use Rattle.ame_store.specs.Cells.{IsFree, IsOwnedBy}
use Rattle.ame_store.specs.Writes.{taken_by}
use Rattle.ame_rows.specs.MemoryView.{MemoryView, row_at}
use Rattle.ame_rows.specs.Consistent.{IsConsistent}
use Rattle.ame_protocol.specs.Row.Heap.{cell_at, IsLive}
use Rattle.ame_protocol.specs.Row.Changed.{BecomesAt, KeepsCommitted}
use Rattle.ame_protocol.specs.Row.Framed.{IsFramed}
use Rattle.ame_protocol.specs.Row.TypedHeap.{IsTypedHeap}
use Rattle.ame_protocol.proofs.Row.CellLemmas.{which, after, free_or_owned, free-apart, other-apart}
use Rattle.ame_protocol.proofs.Row.CommitLemmas.{typed-still}
use Rattle.ame_protocol.specs.declared.types.Attempt.{Attempt}
use Rattle.ame_protocol.specs.declared.types.Task.{Task}
use Rattle.ame_protocol.specs.Engine.Logged.{heap_of}
use Rattle.ame_protocol.specs.Engine.Parts.{Parts, whole_journal, heap_in, task_at, attempt_of, member_of, working}
use Rattle.ame_protocol.specs.Engine.StandsFor.{StandsFor}
use Rattle.ame_protocol.specs.Engine.Tasks.{IsSoundIn, MeetsTask}
use Rattle.ame_protocol.specs.Engine.Simulates.{IsTypedIn, HasFewChanges, most_opened, IsBounded, AreApart, Simulates}
use Rattle.ame_protocol.proofs.Engine.CarryLemmas.{GoesOn, StaysBusy, carried, tries-on}

-- what an event of a seat leaves and makes
pub record Step (old new : Parts) (s : Simulates old) (seat : ℕ) : Type 0 where
  pub r : Replayed
  pub types : StoreTyping
  pub on : GoesOn old new
  pub grows : Grows s.types types
  pub stands : StandsFor new r
  pub typed : IsTypedIn new types r.state
  pub consistent : IsConsistent new.memory
  pub framed : (other : ℕ) → (other ≡ seat → ⊥) → IsFramed other (heap_in old) (heap_in new)
  pub rows : (other : ℕ) → (other ≡ seat → ⊥) → row_at new.memory.rows other ≡ row_at old.memory.rows other
  pub tasks : (other : ℕ) → (other ≡ seat → ⊥) → task_at new.tasks other ≡ task_at old.tasks other
  pub busy : (other : ℕ) → (other ≡ seat → ⊥) → (i : ℕ) → member_of (task_at old.tasks other) ≡ Some i → StaysBusy old new i
  pub own : MeetsTask new types seat (task_at new.tasks seat)
  pub apart : AreApart new
  pub bounded : IsBounded new
  pub sound : All (IsSoundIn new) new.tried

pub step : (old new : Parts) (s : Simulates old) (seat : ℕ) → Step old new s seat → Simulates new
step old new s seat st = record {
  r = st.r;
  types = st.types;
  stands = st.stands;
  typed = st.typed;
  consistent = st.consistent;
  seats = λ k. by k (which k seat);
  apart = st.apart;
  bounded = st.bounded;
  sound = st.sound;
}
  where
    by : (k : ℕ) → (k ≡ seat) ⊎ ((k ≡ seat) → ⊥) → MeetsTask new st.types k (task_at new.tasks k)
    by k (inl same) = subst (λ (m : ℕ). MeetsTask new st.types m (task_at new.tasks m)) (sym same) st.own
    by k (inr apart) =
        subst (MeetsTask new st.types k) (sym (st.tasks k apart))
        (carried old new s.types st.types k st.on st.grows (st.framed k apart) (st.rows k apart) (task_at old.tasks k) (st.busy k apart) (s.seats k))

-- who is at a task is one of the seats
pub seat_within : (tasks : List Task) (seat : ℕ) (attempt : Attempt) → attempt_of (task_at tasks seat) ≡ Some attempt → seat < length tasks
seat_within [] seat attempt e = cc
seat_within (t ∷ tasks) zero attempt e = omega arith
seat_within (t ∷ tasks) (suc seat) attempt e = let rest = seat_within tasks seat attempt e in omega arith

pub few-later : (turns later : ℕ) (cell : Cell Val) → turns ≤ later → HasFewChanges turns cell → HasFewChanges later cell
few-later turns later cell more h = by cell.owner h
  where
    by : (o : Option ℕ) → MatchOption o (cell.number ≤ 2 * turns) (λ _. cell.number + 1 ≤ 2 * turns)
        → MatchOption o (cell.number ≤ 2 * later) (λ _. cell.number + 1 ≤ 2 * later)
    by None h = omega arith
    by (Some owner) h = omega arith

-- the same engine with other memory, tasks and turns
abbrev pub acted : MemoryView Val → List Task → ℕ → Parts → Parts
acted memory tasks turns old = record old { memory = memory; tasks = tasks; turns = turns }

pub goes_on : (old : Parts) (memory : MemoryView Val) (tasks : List Task) (turns : ℕ) → old.turns ≤ turns → GoesOn old (acted memory tasks turns old)
goes_on old memory tasks turns later = record {
  program = refl;
  signature = refl;
  limits = refl;
  more = [];
  journal = sym (append-nil (whole_journal old));
  turns = later;
}

pub stays_busy : (old : Parts) (memory : MemoryView Val) (tasks : List Task) (turns i : ℕ) → StaysBusy old (acted memory tasks turns old) i
stays_busy old memory tasks turns i = record { machine = refl; inside = refl; busy = λ noted h. h }

-- what an event owes that leaves pool, journal and output as they are
pub record Acts (old : Parts) (s : Simulates old) (seat : ℕ) (memory : MemoryView Val) (tasks : List Task) (turns : ℕ) : Type 0 where
  pub types : StoreTyping
  pub grows : Grows s.types types
  pub later : old.turns ≤ turns
  pub left : turns ≤ old.limits.turns
  pub committed : KeepsCommitted (heap_of old.memory) (heap_of memory)
  pub consistent : IsConsistent memory
  pub framed : (other : ℕ) → (other ≡ seat → ⊥) → IsFramed other (heap_of old.memory) (heap_of memory)
  pub rows : (other : ℕ) → (other ≡ seat → ⊥) → row_at memory.rows other ≡ row_at old.memory.rows other
  pub row_count : length memory.rows ≡ length old.memory.rows
  pub tasks_stay : (other : ℕ) → (other ≡ seat → ⊥) → task_at tasks other ≡ task_at old.tasks other
  pub member : member_of (task_at tasks seat) ≡ member_of (task_at old.tasks seat)
  pub task_count : length tasks ≡ length old.tasks
  pub heap : IsTypedHeap old.signature types (heap_of memory)
  pub shared : (l : ℕ) → IsLive (cell_at (heap_of memory) l) → (cell_at (heap_of memory) l).sort ≡ Sort.Unprotected → IsFree (cell_at (heap_of memory) l)
  pub numbers : (l : ℕ) → HasFewChanges turns (cell_at (heap_of memory) l)
  pub cells : length memory.cells ≤ turns + most_opened
  pub own : MeetsTask (acted memory tasks turns old) types seat (task_at tasks seat)

module _ (old : Parts) (s : Simulates old) (seat : ℕ) (memory : MemoryView Val) (tasks : List Task) (turns : ℕ) (a : Acts old s seat memory tasks turns) where
  abbrev new : Parts
  new = acted memory tasks turns old

  member_same : (k : ℕ) → member_of (task_at tasks k) ≡ member_of (task_at old.tasks k)
  member_same k = by (which k seat)
    where
      by : (k ≡ seat) ⊎ ((k ≡ seat) → ⊥) → member_of (task_at tasks k) ≡ member_of (task_at old.tasks k)
      by (inl same) = subst (λ (m : ℕ). member_of (task_at tasks m) ≡ member_of (task_at old.tasks m)) (sym same) a.member
      by (inr apart) = ap member_of (a.tasks_stay k apart)

  next_seat : suc seat ≡ seat → ⊥
  next_seat e = omega arith

  pub act : Simulates new
  act = step old new s seat (record {
    r = s.r;
    types = a.types;
    on = goes_on old memory tasks turns a.later;
    grows = a.grows;
    stands = record {
      replayed = s.stands.replayed;
      store = λ l. a.committed l ∙ s.stands.store l;
      members = s.stands.members;
      inside = s.stands.inside;
      output = s.stands.output;
      next = s.stands.next;
    };
    typed = record {
      heap = a.heap;
      now = typed-still old.signature s.types a.types (suc seat) (heap_of old.memory) (heap_of memory) s.r.state a.grows (a.framed (suc seat) next_seat) s.typed.now;
      shared = a.shared;
    };
    consistent = a.consistent;
    framed = a.framed;
    rows = a.rows;
    tasks = a.tasks_stay;
    busy = λ other apart i has. stays_busy old memory tasks turns i;
    own = a.own;
    apart = λ k other i e f. s.apart k other i (sym (member_same k) ∙ e) (sym (member_same other) ∙ f);
    bounded = record {
      turns = a.left;
      numbers = a.numbers;
      cells = a.cells;
      rows = a.row_count ∙ s.bounded.rows;
      tasks = a.task_count ∙ s.bounded.tasks;
    };
    sound = tries-on old new (goes_on old memory tasks turns a.later) old.tried s.sound;
  })

-- one cell becomes another one
module _ (old : Parts) (s : Simulates old) (memory : MemoryView Val) (l : ℕ) (cell : Cell Val) (b : BecomesAt (heap_of old.memory) (heap_of memory) l cell) where
  pub shared-one : (IsLive cell → cell.sort ≡ Sort.Unprotected → IsFree cell)
      → (m : ℕ) → IsLive (cell_at (heap_of memory) m) → (cell_at (heap_of memory) m).sort ≡ Sort.Unprotected → IsFree (cell_at (heap_of memory) m)
  shared-one its m live sort = by (after (heap_of old.memory) (heap_of memory) l cell b m)
    where
      by : ((m ≡ l) × (cell_at (heap_of memory) m ≡ cell)) ⊎ (((m ≡ l) → ⊥) × (cell_at (heap_of memory) m ≡ cell_at (heap_of old.memory) m)) → IsFree (cell_at (heap_of memory) m)
      by (inl x) = subst IsFree (sym x.1) (its (subst IsLive x.1 live) (sym (ap (λ (c : Cell Val). c.sort) x.1) ∙ sort))
      by (inr x) = subst IsFree (sym x.1) (s.typed.shared m (subst IsLive x.1 live) (sym (ap (λ (c : Cell Val). c.sort) x.1) ∙ sort))

  pub numbers-one : (turns : ℕ) → old.turns ≤ turns → HasFewChanges turns cell → (m : ℕ) → HasFewChanges turns (cell_at (heap_of memory) m)
  numbers-one turns later few m = by (after (heap_of old.memory) (heap_of memory) l cell b m)
    where
      by : ((m ≡ l) × (cell_at (heap_of memory) m ≡ cell)) ⊎ (((m ≡ l) → ⊥) × (cell_at (heap_of memory) m ≡ cell_at (heap_of old.memory) m))
          → HasFewChanges turns (cell_at (heap_of memory) m)
      by (inl x) = subst (HasFewChanges turns) (sym x.1) few
      by (inr x) = subst (HasFewChanges turns) (sym x.1) (few-later old.turns turns (cell_at (heap_of old.memory) m) later (s.bounded.numbers m))

-- a cell's numbers after a first write
pub few-taken : (turns seat : ℕ) (v : Val) (cell : Cell Val) → IsFree cell → HasFewChanges turns cell → HasFewChanges (turns + 1) (taken_by seat v cell)
few-taken turns seat v cell free h =
    let few : cell.number ≤ 2 * turns = subst (λ (o : Option ℕ). MatchOption o (cell.number ≤ 2 * turns) (λ _. cell.number + 1 ≤ 2 * turns)) free h in
    let more : cell.number + 1 + 1 ≤ 2 * (turns + 1) = omega arith in more

-- and once its owner lets it go
pub few-gone : (turns owner : ℕ) (cell : Cell Val) → IsOwnedBy owner cell → HasFewChanges turns cell → cell.number + 1 ≤ 2 * turns
few-gone turns owner cell own h = subst (λ (o : Option ℕ). MatchOption o (cell.number ≤ 2 * turns) (λ _. cell.number + 1 ≤ 2 * turns)) own h

pub owned_or_not : (seat : ℕ) (cell : Cell Val) → IsOwnedBy seat cell ⊎ (IsOwnedBy seat cell → ⊥)
owned_or_not seat cell = by (free_or_owned cell)
  where
    its : (owner : ℕ) → IsOwnedBy owner cell → (owner ≡ seat) ⊎ ((owner ≡ seat) → ⊥) → IsOwnedBy seat cell ⊎ (IsOwnedBy seat cell → ⊥)
    its owner own (inl same) = inl (own ∙ ap Some same)
    its owner own (inr apart) = inr (other-apart seat owner cell own apart)

    by : IsFree cell ⊎ ((owner : ℕ) × IsOwnedBy owner cell) → IsOwnedBy seat cell ⊎ (IsOwnedBy seat cell → ⊥)
    by (inl free) = inr (free-apart seat cell free)
    by (inr x) = its x.0 x.1 (which x.0 seat)

-- one task becomes another one
pub task_here : (tasks : List Task) (seat : ℕ) (task : Task) → seat < length tasks → task_at (set tasks seat task) seat ≡ task
task_here tasks seat task within = get_or-set_same tasks seat task Task.Idle within

pub task_else : (tasks : List Task) (seat : ℕ) (task : Task) (other : ℕ) → (other ≡ seat → ⊥) → task_at (set tasks seat task) other ≡ task_at tasks other
task_else tasks seat task other apart = get_or-set_other tasks seat other task Task.Idle apart

-- a seat that runs code has an attempt
pub working-has : (t : Task) (a : Attempt) → working t ≡ Some a → attempt_of t ≡ Some a
working-has Task.Idle a e = absurd (let clash : ◌≡◌ {A = Option Attempt} None (Some a) = e in cc)
working-has (Task.Running b) a e = e
working-has (Task.Free b) a e = e
working-has (Task.Undoing b reason) a e = absurd (let clash : ◌≡◌ {A = Option Attempt} None (Some a) = e in cc)
