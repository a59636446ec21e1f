-- A shared memory after an act of unprotected code.
use Rattle.std.proofs.Common.{◌≡◌, ℕ, ◌+◌, ◌*◌, ◌<◌, ◌≤◌, ◌⊎◌, inl, inr, List, [], ◌∷◌, All, length, get_or, Option, Some, None, slice_get, length-append, refl, sym, ap, ◌∙◌, subst, arith}
use Rattle.std.specs.Prelude.{Bool, unwrap_or, if◌then◌else◌, MatchOption}
use Rattle.std.proofs.lemmas.Bool.{eq-eqb}
use Rattle.std.proofs.lemmas.Option.{unwrap_or-slice_get}
use Rattle.ame_term.specs.Tree.{Typ, Val}
use Rattle.ame_term.specs.Signature.{MayStore}
use Rattle.ame_term.specs.Act.{Act}
use Rattle.ame_term.specs.Maps.{at, put}
use Rattle.ame_term.specs.declared.types.Sort.{Sort}
use Rattle.ame_term.specs.declared.types.TyNo.{TyNo}
use Rattle.ame_laws.proofs.MapLemmas.{at-put_same, at-put_other}
use Rattle.ame_journal.specs.Replay.{or_else}
use Rattle.ame_laws.specs.Typed.StoreTyping.{StoreTyping, Grows}
use Rattle.ame_laws.specs.Typed.Fragment.{IsValueOf}
use Rattle.ame_laws.specs.Typed.TypedState.{IsStored}
use Rattle.ame_laws.proofs.Typed.Weaken.{weaken_value}
use Rattle.ame_store.specs.declared.cell.Cell.{Cell}
use Rattle.ame_store.specs.Cells.{IsFree}
use Rattle.ame_store.specs.Changes.{made, replaced}
use Rattle.ame_rows.specs.declared.notes.ReadNote.{ReadNote}
use Rattle.ame_machine.specs.Run.Fit.{IsFitFor}
use Rattle.ame_rows.specs.MemoryView.{MemoryView}
use Rattle.ame_rows.specs.Consistent.{IsConsistent}
use Rattle.ame_rows.specs.Access.{put_at, born}
use Rattle.ame_rows.proofs.LookupLemmas.{get_push_here, get_push_else, changed_here, changed_else, changed_length}
use Rattle.ame_rows.proofs.AccessLemmas.{kept_put, kept_born}
use Rattle.ame_rows.proofs.CommittedLemmas.{put_here, put_elsewhere, born_here, born_elsewhere}
use Rattle.ame_protocol.specs.Row.Heap.{Heap, no_cell, cell_at, IsCell, IsLive}
use Rattle.ame_protocol.specs.Row.SeatRun.{AreValid}
use Rattle.ame_protocol.specs.Row.Owes.{IsNote}
use Rattle.ame_protocol.specs.Row.Changed.{BecomesAt}
use Rattle.ame_protocol.specs.Row.Framed.{IsFramedAt, IsFramed}
use Rattle.ame_protocol.specs.Row.Free.{MeetsLive}
use Rattle.ame_protocol.specs.Row.TypedHeap.{types_with, IsTypedHeap}
use Rattle.ame_protocol.specs.Row.Scoped.{live_types}
use Rattle.ame_protocol.proofs.Row.CellLemmas.{which, free-apart}
use Rattle.ame_protocol.proofs.Row.EventLemmas.{put-framed, new-framed}
use Rattle.ame_protocol.proofs.Row.LoneLemmas.{valid-put, valid-new}
use Rattle.ame_protocol.proofs.Row.ReachLemmas.{where-grows, where-within, of-where}
use Rattle.ame_protocol.proofs.Row.ScopedLemmas.{still-lives}
use Rattle.ame_protocol.proofs.Row.TypedRunLemmas.{heap-stays, types-grow, heap-grows}
use Rattle.ame_protocol.specs.Engine.Logged.{heap_of}
use Rattle.ame_protocol.specs.Engine.Parts.{Parts, heap_in}
use Rattle.ame_protocol.specs.Engine.Simulates.{HasFewChanges, most_opened, Simulates}
use Rattle.ame_protocol.proofs.Engine.MemoryLemmas.{found, there}
use Rattle.ame_protocol.proofs.Engine.StepLemmas.{few-later, shared-one, numbers-one}

-- A shared memory after such an act: what was set is committed, and nothing else changes. It is typed, each seat's row stands, and valid
-- reads stay valid.
pub record Settles (parts : Parts) (s : Simulates parts) (memory : MemoryView Val) (sets : List (ℕ × Val)) (types : StoreTyping) : Type 0 where
  pub grows : Grows s.types types
  pub heap : IsTypedHeap parts.signature types (heap_of memory)
  pub shows : (l : ℕ) → (heap_of memory).committed l ≡ or_else (at sets l) ((heap_in parts).committed l)
  pub keeps : (l : ℕ) → IsCell (heap_in parts) l → (cell_at (heap_in parts) l).sort ≡ Sort.Protected → (heap_of memory).committed l ≡ (heap_in parts).committed l
  pub framed : (other : ℕ) → IsFramed other (heap_in parts) (heap_of memory)
  pub consistent : IsConsistent memory
  pub rows : memory.rows ≡ parts.memory.rows
  pub shared : (l : ℕ) → IsLive (cell_at (heap_of memory) l) → (cell_at (heap_of memory) l).sort ≡ Sort.Unprotected → IsFree (cell_at (heap_of memory) l)
  pub numbers : (l : ℕ) → HasFewChanges (parts.turns + 1) (cell_at (heap_of memory) l)
  pub cells : length memory.cells ≤ parts.turns + 1 + most_opened
  pub valid : (seat : ℕ) (reads : List ReadNote) → All (IsNote (heap_in parts)) reads → AreValid (heap_in parts) seat reads → AreValid (heap_of memory) seat reads

-- the types of live cells grow
pub live-grows : (parts : Parts) (s : Simulates parts) (memory : MemoryView Val) (sets : List (ℕ × Val)) (types : StoreTyping) → Settles parts s memory sets types
    → Grows (live_types (heap_in parts) s.types) (live_types (heap_of memory) types)
live-grows parts s memory sets types h =
    where-grows (λ l. (cell_at (heap_in parts) l).live) (λ l. (cell_at (heap_of memory) l).live) s.types types h.grows
    (λ l live. still-lives 0 (heap_in parts) (heap_of memory) (h.framed 0) l live)

same-get : (xs ys : List (Cell Val)) (m : ℕ) → slice_get ys m ≡ slice_get xs m → get_or ys m no_cell ≡ get_or xs m no_cell
same-get xs ys m e = sym (unwrap_or-slice_get ys m no_cell) ∙ ap (λ (o : Option (Cell Val)). unwrap_or o no_cell) e ∙ unwrap_or-slice_get xs m no_cell

-- one value is set, and is committed
sets-one : (old new : ℕ → Option Val) (l : ℕ) (v : Val) → new l ≡ Some v → ((m : ℕ) → (m ≡ l → ⊥) → new m ≡ old m)
    → (m : ℕ) → new m ≡ or_else (at (put [] l v) m) (old m)
sets-one old new l v here others m = by (which m l)
  where
    by : (m ≡ l) ⊎ ((m ≡ l) → ⊥) → new m ≡ or_else (at (put [] l v) m) (old m)
    by (inl same) =
        subst (λ (k : ℕ). new k ≡ or_else (at (put [] l v) k) (old k)) (sym same)
        (here ∙ sym (ap (λ (o : Option Val). or_else o (old l)) (at-put_same [] l v)))
    by (inr apart) = others m apart ∙ sym (ap (λ (o : Option Val). or_else o (old m)) (at-put_other [] l m v (λ e. apart (sym e))))

module _ (parts : Parts) (s : Simulates parts) where
  abbrev heap : Heap
  heap = heap_in parts

  abbrev turns : ℕ
  turns = parts.turns + 1

  -- nothing is set
  pub settles-same : Settles parts s parts.memory [] s.types
  settles-same = record {
    grows = λ m c e. e;
    heap = s.typed.heap;
    shows = λ l. refl;
    keeps = λ l there sort. refl;
    framed = λ other. record { places = λ m. IsFramedAt.stays refl refl; longer = omega arith };
    consistent = s.consistent;
    rows = refl;
    shared = s.typed.shared;
    numbers = λ l. few-later parts.turns turns (cell_at heap l) (omega arith) (s.bounded.numbers l);
    cells = let h = s.bounded.cells in omega arith;
    valid = λ seat reads notes valid. valid;
  }

  -- a cell is written
  module _ (l : ℕ) (v : Val) (met : MeetsLive heap l Sort.Unprotected) (stored : IsStored parts.signature s.types l v) where
    abbrev cell : Cell Val
    cell = cell_at heap l

    abbrev wrote : MemoryView Val
    wrote = put_at l v parts.memory

    free : IsFree cell
    free = s.typed.shared l met.live met.sort

    becomes : BecomesAt heap (heap_of wrote) l (replaced v cell)
    becomes = record {
      there = found wrote l (replaced v cell) (changed_here l (replaced v) parts.memory.cells cell met.there (there parts.memory l met.there));
      others = λ m apart. same-get parts.memory.cells wrote.cells m (changed_else l (replaced v) parts.memory.cells m apart);
      longer = let e = changed_length l (replaced v) parts.memory.cells in omega arith;
    }

    count : length wrote.cells ≡ length parts.memory.cells
    count = changed_length l (replaced v) parts.memory.cells

    others-stay : (m : ℕ) → (m ≡ l → ⊥) → (heap_of wrote).committed m ≡ heap.committed m
    others-stay m apart = put_elsewhere l m v parts.memory apart

    protected-stays : (m : ℕ) → (cell_at heap m).sort ≡ Sort.Protected → (heap_of wrote).committed m ≡ heap.committed m
    protected-stays m sort =
        others-stay m
        (λ same. absurd (let clash : Sort.Protected ≡ Sort.Unprotected = sym sort ∙ ap (λ (k : ℕ). (cell_at heap k).sort) same ∙ met.sort in cc))

    few : HasFewChanges parts.turns cell → HasFewChanges turns (replaced v cell)
    few h =
        let low : cell.number ≤ 2 * parts.turns =
        subst (λ (o : Option ℕ). MatchOption o (cell.number ≤ 2 * parts.turns) (λ _. cell.number + 1 ≤ 2 * parts.turns)) free h in
        let more : cell.number + 2 ≤ 2 * turns = omega arith in
        subst (λ (o : Option ℕ). MatchOption o (cell.number + 2 ≤ 2 * turns) (λ _. cell.number + 2 + 1 ≤ 2 * turns)) (sym free) more

    pub settles-put : Settles parts s wrote (put [] l v) s.types
    settles-put = record {
      grows = λ m c e. e;
      heap = heap-stays parts.signature s.types heap (heap_of wrote) l (replaced v cell) s.typed.heap becomes count refl refl stored;
      shows = sets-one heap.committed (heap_of wrote).committed l v (put_here l v parts.memory cell (there parts.memory l met.there) free met.live) others-stay;
      keeps = λ m there sort. protected-stays m sort;
      framed = λ other. put-framed other heap (heap_of wrote) l v free becomes others-stay;
      consistent = kept_put parts.memory l v cell s.consistent (there parts.memory l met.there) free;
      rows = refl;
      shared = shared-one parts s wrote l (replaced v cell) becomes (λ live its. free);
      numbers = numbers-one parts s wrote l (replaced v cell) becomes turns (omega arith) (few (s.bounded.numbers l));
      cells = let h = s.bounded.cells in let e = count in omega arith;
      valid = λ seat reads notes valid. valid-put heap (heap_of wrote) seat l reads notes valid (replaced v cell) met.sort becomes;
    }

  -- a cell is born
  module _ (sort : Sort) (ty : TyNo) (v : Val) (content : Typ) (value : IsValueOf parts.signature (live_types heap s.types) v content)
      (may : MayStore parts.signature.refs ty.0 content) where
    abbrev place : ℕ
    place = length parts.memory.cells

    abbrev new_cell : Cell Val
    new_cell = made sort ty v None

    abbrev larger : MemoryView Val
    larger = born sort ty v parts.memory

    abbrev pub larger_types : StoreTyping
    larger_types = types_with place (sort, content) s.types

    not_there : IsCell heap place → ⊥
    not_there is = let h : place < length parts.memory.cells = is in omega arith

    born-becomes : BecomesAt heap (heap_of larger) place new_cell
    born-becomes = record {
      there = found larger place new_cell (get_push_here parts.memory.cells new_cell);
      others = λ m apart. same-get parts.memory.cells larger.cells m (get_push_else parts.memory.cells new_cell m apart);
      longer = let e = length-append parts.memory.cells (new_cell ∷ []) in omega arith;
    }

    born-count : length larger.cells ≡ place + 1
    born-count = let e = length-append parts.memory.cells (new_cell ∷ []) in omega arith

    born-others : (m : ℕ) → (m ≡ place → ⊥) → (heap_of larger).committed m ≡ heap.committed m
    born-others m apart = born_elsewhere sort ty v m parts.memory apart

    typed-value : IsValueOf parts.signature s.types v content
    typed-value =
        (weaken_value parts.signature (live_types heap s.types) s.types (where-within (λ m. (cell_at heap m).live) s.types) value.0, value.1)

    pub settles-born : Settles parts s larger (put [] place v) larger_types
    settles-born = record {
      grows = types-grow parts.signature s.types heap place (sort, content) s.typed.heap refl;
      heap = heap-grows parts.signature s.types heap (heap_of larger) place new_cell content s.typed.heap born-becomes refl born-count typed-value may;
      shows = sets-one heap.committed (heap_of larger).committed place v (born_here sort ty v parts.memory) born-others;
      keeps = λ m there sort. born-others m (λ same. not_there (subst (IsCell heap) same there));
      framed = λ other. new-framed other heap (heap_of larger) place new_cell not_there (free-apart other new_cell refl) born-becomes born-others;
      consistent = kept_born parts.memory sort ty v s.consistent;
      rows = refl;
      shared = shared-one parts s larger place new_cell born-becomes (λ live its. refl);
      numbers = numbers-one parts s larger place new_cell born-becomes turns (omega arith) (let low : 0 ≤ 2 * turns = omega arith in low);
      cells = let h = s.bounded.cells in let e = born-count in omega arith;
      valid = λ seat reads notes valid. valid-new heap (heap_of larger) seat place reads notes valid new_cell not_there born-becomes;
    }

    -- the new location is fit for the act
    pub born-fit : Grows (live_types heap s.types) (live_types (heap_of larger) larger_types)
        → IsFitFor parts.signature (live_types (heap_of larger) larger_types) (Act.Allocates sort ty v) (Val.Loc place)
    born-fit grows = (
      content,
      of-where (λ m. (cell_at (heap_of larger) m).live) larger_types place (sort, content) (ap (λ (c : Cell Val). c.live) born-becomes.there)
          (ap (λ (b : Bool). if b then Some (sort, content) else s.types place) (eq-eqb place place refl)),
      weaken_value parts.signature (live_types heap s.types) (live_types (heap_of larger) larger_types) grows value.0,
    )
