-- One undo of a seat.
use Rattle.std.proofs.Common.{◌≡◌, ℕ, ◌+◌, ◌*◌, ◌<◌, ◌≤◌, ◌⊎◌, inl, inr, Bool, true, false, List, [], ◌∷◌, ◌++◌, set, length, All, Option, Some, length-set, refl, sym, ap, ◌∙◌, subst, arith}
use Rattle.std.specs.Prelude.{option_map, if◌then◌else◌}
use Rattle.std.specs.List.{AllByRecursion}
use Rattle.std.proofs.lemmas.List.Elements.{All-contains, Contains-push, recursion_from_All, All-from_recursion}
use Rattle.ame_term.specs.Tree.{Val}
use Rattle.ame_term.specs.Signature.{Signature}
use Rattle.ame_term.specs.declared.types.Sort.{Sort}
use Rattle.ame_pool.specs.Calls.{inside_of}
use Rattle.ame_laws.specs.Typed.StoreTyping.{StoreTyping}
use Rattle.ame_laws.specs.Typed.TypedState.{IsStored}
use Rattle.ame_store.specs.declared.cell.Cell.{Cell}
use Rattle.ame_store.specs.Cells.{IsFree, IsOwnedBy}
use Rattle.ame_rows.specs.declared.notes.Undo.{Undo}
use Rattle.ame_rows.specs.declared.notes.Undo.TheVariants.{Wrote, Made}
use Rattle.ame_rows.specs.MemoryView.{MemoryView, Log, row_at}
use Rattle.ame_rows.specs.LettingGo.{notes_undone, undone_by, but_last, undone_last}
use Rattle.ame_rows.proofs.EntryLemmas.{but_last_is, split_last}
use Rattle.ame_rows.proofs.LookupLemmas.{row_set_else}
use Rattle.ame_protocol.specs.Row.Heap.{Heap, cell_at, IsCell, IsLive}
use Rattle.ame_protocol.specs.Row.Changed.{BecomesAt, KeepsCommitted}
use Rattle.ame_protocol.specs.Row.Framed.{IsFramedAt, IsFramed}
use Rattle.ame_protocol.specs.Row.UndoLog.{undo_place, IsUndo}
use Rattle.ame_protocol.specs.Row.TypedHeap.{IsTypedHeap, IsTypedUndo}
use Rattle.ame_protocol.proofs.Row.CellLemmas.{owned_cell}
use Rattle.ame_protocol.proofs.Row.EventLemmas.{restored-framed, killed-framed}
use Rattle.ame_protocol.proofs.Row.TypedRunLemmas.{heap-stays}
use Rattle.ame_protocol.specs.declared.types.Attempt.{Attempt}
use Rattle.ame_protocol.specs.declared.types.UndoReason.{UndoReason}
use Rattle.ame_protocol.specs.declared.types.Task.{Task}
use Rattle.ame_protocol.specs.Engine.Logged.{heap_of}
use Rattle.ame_protocol.specs.Engine.Parts.{Parts, heap_in, task_at, attempt_of, member_of}
use Rattle.ame_protocol.specs.Engine.Tasks.{is_noted_for, HasAtWork, MeetsTask}
use Rattle.ame_protocol.specs.Engine.Simulates.{HasFewChanges, Simulates}
use Rattle.ame_protocol.specs.Engine.Events.{has_undone}
use Rattle.ame_protocol.proofs.Engine.MemoryLemmas.{memory-undo_log}
use Rattle.ame_protocol.proofs.Engine.MemoryEvents.{undo-becomes, undo-committed, undo-count, undo-kept, undo-none, more-row}
use Rattle.ame_protocol.proofs.Engine.CarryLemmas.{work-on}
use Rattle.ame_protocol.proofs.Engine.StepLemmas.{seat_within, few-later, few-gone, acted, goes_on, stays_busy, Acts, act, shared-one, numbers-one, task_here, task_else}

entry-owned : (heap : Heap) (seat : ℕ) (u : Undo Val) → IsUndo heap seat u → IsOwnedBy seat (cell_at heap (undo_place u))
entry-owned heap seat (Wrote l number old) h = h.0
entry-owned heap seat (Made l) h = h.0

undone-free : (u : Undo Val) (cell : Cell Val) → IsFree (undone_by u cell)
undone-free (Wrote l number old) cell = refl
undone-free (Made l) cell = refl

undone-sort : (u : Undo Val) (cell : Cell Val) → (undone_by u cell).sort ≡ cell.sort
undone-sort (Wrote l number old) cell = refl
undone-sort (Made l) cell = refl

undone-ty : (u : Undo Val) (cell : Cell Val) → (undone_by u cell).ty ≡ cell.ty
undone-ty (Wrote l number old) cell = refl
undone-ty (Made l) cell = refl

undone-few : (turns : ℕ) (u : Undo Val) (cell : Cell Val) → cell.number + 1 ≤ 2 * turns → HasFewChanges turns (undone_by u cell)
undone-few turns (Wrote l number old) cell few = few
undone-few turns (Made l) cell few = few

-- what is in place in a cell is of its type
in-place-stored : (signature : Signature) (types : StoreTyping) (heap : Heap) (l : ℕ) → IsTypedHeap signature types heap → IsCell heap l → IsStored signature types l (cell_at heap l).value
in-place-stored signature types heap l typed there = let h = typed.typed l there in (((cell_at heap l).sort, h.0), h.1, h.2)

undone-stored : (signature : Signature) (types : StoreTyping) (heap : Heap) (u : Undo Val) → IsTypedHeap signature types heap → IsCell heap (undo_place u) → IsTypedUndo signature types u
    → IsStored signature types (undo_place u) (undone_by u (cell_at heap (undo_place u))).value
undone-stored signature types heap (Wrote l number old) typed there h = h
undone-stored signature types heap (Made l) typed there h = in-place-stored signature types heap l.0 typed there

undone-framed : (seat other : ℕ) (apart : (other ≡ seat) → ⊥) (old new : Heap) (k : KeepsCommitted old new) (u : Undo Val) → IsOwnedBy other (cell_at old (undo_place u))
    → BecomesAt old new (undo_place u) (undone_by u (cell_at old (undo_place u))) → IsFramed seat old new
undone-framed seat other apart old new k (Wrote l number v) own b = restored-framed seat other apart old new l.0 k v own b
undone-framed seat other apart old new k (Made l) own b = killed-framed seat other apart old new l.0 k own b

all-front : {X : Type 0} (P : X → Type 0) (xs : List X) (y : X) → AllByRecursion P (xs ++ y ∷ []) → AllByRecursion P xs
all-front P [] y all = tt
all-front P (x ∷ xs) y all = (all.0, all-front P xs y all.1)

-- what an undo of a seat makes of the cells, for the others
pub record UndoneMemory (parts : Parts) (s : Simulates parts) (seat turns : ℕ) : Type 0 where
  pub framed : (other : ℕ) → (other ≡ seat → ⊥) → IsFramed other (heap_in parts) (heap_of (undone_last seat parts.memory))
  pub heap : IsTypedHeap parts.signature s.types (heap_of (undone_last seat parts.memory))
  pub shared : (l : ℕ) → IsLive (cell_at (heap_of (undone_last seat parts.memory)) l) → (cell_at (heap_of (undone_last seat parts.memory)) l).sort ≡ Sort.Unprotected
      → IsFree (cell_at (heap_of (undone_last seat parts.memory)) l)
  pub numbers : (l : ℕ) → HasFewChanges turns (cell_at (heap_of (undone_last seat parts.memory)) l)
  pub count : length (undone_last seat parts.memory).cells ≡ length parts.memory.cells

module _ (parts : Parts) (s : Simulates parts) (seat : ℕ) (within : seat < length parts.memory.rows)
    (undos : All (IsTypedUndo parts.signature s.types) (row_at parts.memory.rows seat).undos) (turns : ℕ) (later : parts.turns ≤ turns) where
  abbrev heap : Heap
  heap = heap_in parts

  abbrev row : Log Val
  row = row_at parts.memory.rows seat

  abbrev undone : MemoryView Val
  undone = undone_last seat parts.memory

  module _ (front : List (Undo Val)) (u : Undo Val) (log : row.undos ≡ front ++ u ∷ []) where
    last-of : (P : Undo Val → Type 0) → All P row.undos → P u
    last-of P all = All-contains P (front ++ u ∷ []) u (subst (All P) log all) (Contains-push front u)

    owned : IsOwnedBy seat (cell_at heap (undo_place u))
    owned = entry-owned heap seat u (last-of (IsUndo heap seat) (memory-undo_log parts.memory s.consistent seat).entries)

    undone-some : UndoneMemory parts s seat turns
    undone-some =
        let l = undo_place u in
        let cell = undone_by u (cell_at heap l) in
        let b = undo-becomes parts.memory seat s.consistent within front u log in
        let k = undo-committed parts.memory seat s.consistent within in
        let count = undo-count parts.memory seat s.consistent within front u log in
        let gone : (cell_at heap l).number + 1 ≤ 2 * turns =
        (let h = few-gone parts.turns seat (cell_at heap l) owned (s.bounded.numbers l) in omega arith) in
        record {
          framed = λ other apart. undone-framed other seat (λ e. apart (sym e)) heap (heap_of undone) k u owned b;
          heap =
              heap-stays parts.signature s.types heap (heap_of undone) l cell s.typed.heap b count (undone-sort u (cell_at heap l)) (undone-ty u (cell_at heap l))
              (undone-stored parts.signature s.types heap u s.typed.heap (owned_cell heap seat l owned) (last-of (IsTypedUndo parts.signature s.types) undos));
          shared = shared-one parts s undone l cell b (λ live its. undone-free u (cell_at heap l));
          numbers = numbers-one parts s undone l cell b turns later (undone-few turns u (cell_at heap l) gone);
          count = count;
        }

    pub front-typed : All (IsTypedUndo parts.signature s.types) (but_last row.undos)
    front-typed =
        let P = IsTypedUndo parts.signature s.types in
        subst (All P) (sym (ap but_last log ∙ but_last_is front u))
        (All-from_recursion P front (all-front P front u (recursion_from_All P (front ++ u ∷ []) (subst (All P) log undos))))

  undone-nothing : row.undos ≡ [] → UndoneMemory parts s seat turns
  undone-nothing none =
      let same = undo-none parts.memory seat s.consistent within none in
      let cells = ap (λ (h : Heap). h.cells) same in
      record {
        framed =
            λ other apart. record {
              places = λ m. IsFramedAt.stays (ap (λ (h : Heap). cell_at h m) same) (ap (λ (h : Heap). h.committed m) same);
              longer = let e = ap (λ (xs : List (Cell Val)). length xs) cells in omega arith;
            };
        heap = subst (IsTypedHeap parts.signature s.types) (sym same) s.typed.heap;
        shared =
            subst (λ (h : Heap). (l : ℕ) → IsLive (cell_at h l) → (cell_at h l).sort ≡ Sort.Unprotected → IsFree (cell_at h l)) (sym same) s.typed.shared;
        numbers =
            subst (λ (h : Heap). (l : ℕ) → HasFewChanges turns (cell_at h l)) (sym same)
            (λ l. few-later parts.turns turns (cell_at heap l) later (s.bounded.numbers l));
        count = ap (λ (xs : List (Cell Val)). length xs) cells;
      }

  pub undone-memory : UndoneMemory parts s seat turns
  undone-memory = by (split_last row.undos)
    where
      by : (row.undos ≡ []) ⊎ ((front : List (Undo Val)) × (u : Undo Val) × (row.undos ≡ front ++ u ∷ [])) → UndoneMemory parts s seat turns
      by (inl none) = undone-nothing none
      by (inr x) = undone-some x.0 x.1 x.2

  pub rest-typed : All (IsTypedUndo parts.signature s.types) (but_last row.undos)
  rest-typed = by (split_last row.undos)
    where
      by : (row.undos ≡ []) ⊎ ((front : List (Undo Val)) × (u : Undo Val) × (row.undos ≡ front ++ u ∷ [])) → All (IsTypedUndo parts.signature s.types) (but_last row.undos)
      by (inl none) = subst (All (IsTypedUndo parts.signature s.types)) (none ∙ sym (ap but_last none)) undos
      by (inr x) = front-typed x.0 x.1 x.2

  -- others are left
  module _ (attempt : Attempt) (reason : UndoReason) (has : attempt_of (task_at parts.tasks seat) ≡ Some attempt) (work : HasAtWork parts (is_noted_for reason) attempt) (outside : inside_of attempt.tried.number parts.pool ≡ Some false)
      (left : turns ≤ parts.limits.turns) (more : 1 < length row.undos) where
    abbrev tasks : List Task
    tasks = set parts.tasks seat (Task.Undoing attempt reason)

    at_seat : seat < length parts.tasks
    at_seat = seat_within parts.tasks seat attempt has

    undo-acts : Acts parts s seat undone tasks turns
    undo-acts =
        let d = undone-memory in
        let here = task_here parts.tasks seat (Task.Undoing attempt reason) at_seat in
        record {
          types = s.types;
          grows = λ m c e. e;
          later = later;
          left = left;
          committed = undo-committed parts.memory seat s.consistent within;
          consistent = undo-kept parts.memory seat s.consistent within;
          framed = d.framed;
          rows = λ other apart. row_set_else parts.memory.rows seat other _ apart;
          row_count = length-set parts.memory.rows seat (notes_undone row);
          tasks_stay = task_else parts.tasks seat (Task.Undoing attempt reason);
          member = ap member_of here ∙ sym (ap (λ (o : Option Attempt). option_map (λ (a : Attempt). a.tried.number) o) has);
          task_count = length-set parts.tasks seat (Task.Undoing attempt reason);
          heap = d.heap;
          shared = d.shared;
          numbers = d.numbers;
          cells = let h = s.bounded.cells in let e = d.count in omega arith;
          own =
              subst (MeetsTask (acted undone tasks turns parts) s.types seat) (sym here) (record {
                work = work-on parts (acted undone tasks turns parts) (is_noted_for reason) attempt (goes_on parts undone tasks turns later) (stays_busy parts undone tasks turns attempt.tried.number) work;
                outside = outside;
                undos = subst (λ (n : Log Val). All (IsTypedUndo parts.signature s.types) n.undos) (sym (more-row parts.memory seat s.consistent within more)) rest-typed;
              });
        }

    pub undone_stands : Simulates (acted undone tasks turns parts)
    undone_stands = act parts s seat undone tasks turns undo-acts

-- an undo counts as a turn while no stop is kept
pub undo_counted : (parts : Parts) (s : Simulates parts) (seat : ℕ) → seat < length parts.memory.rows → All (IsTypedUndo parts.signature s.types) (row_at parts.memory.rows seat).undos
    → (attempt : Attempt) (reason : UndoReason) → attempt_of (task_at parts.tasks seat) ≡ Some attempt → HasAtWork parts (is_noted_for reason) attempt → inside_of attempt.tried.number parts.pool ≡ Some false
    → (parts.stopped ≡ false → parts.turns < parts.limits.turns) → 1 < length (row_at parts.memory.rows seat).undos → Simulates (has_undone seat attempt reason parts)
undo_counted parts s seat within undos attempt reason has work outside left more = by parts.stopped refl
  where
    by : (b : Bool) → parts.stopped ≡ b
        → Simulates (if b then acted (undone_last seat parts.memory) (set parts.tasks seat (Task.Undoing attempt reason)) parts.turns parts
        else acted (undone_last seat parts.memory) (set parts.tasks seat (Task.Undoing attempt reason)) (parts.turns + 1) parts)
    by true e = undone_stands parts s seat within undos parts.turns (omega arith) attempt reason has work outside s.bounded.turns more
    by false e =
        let h = left e in
        undone_stands parts s seat within undos (parts.turns + 1) (omega arith) attempt reason has work outside (omega arith) more
