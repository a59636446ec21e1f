-- An engine that is opened from a base.
use Rattle.std.proofs.Common.{◌≡◌, ℕ, zero, suc, ◌+◌, ◌*◌, ◌<◌, ◌≤◌, ◌⊎◌, inl, inr, Bool, true, false, List, replicate, length, Option, Some, None, MatchOption, refl, sym, ap, ◌∙◌, subst, arith}
use Rattle.std.specs.Prelude.{ℤ, IsSome, nat_lt, if◌then◌else◌}
use Rattle.std.proofs.lemmas.Bool.{lt-ltb, ltb-true}
use Rattle.std.proofs.lemmas.List.{append-nil, length-replicate}
use Rattle.std.proofs.lemmas.List.Elements.{All-nil, All-from_get_or}
use Rattle.ame_term.specs.Tree.{Typ, Val, Tree}
use Rattle.ame_term.specs.Signature.{Signature, MayStore}
use Rattle.ame_term.specs.declared.types.TyNo.{TyNo}
use Rattle.ame_term.specs.Maps.{at}
use Rattle.ame_term.specs.declared.types.Sort.{Sort}
use Rattle.ame_journal.specs.declared.entry.Entry.{Entry}
use Rattle.ame_journal.specs.Replayed.{Replayed}
use Rattle.ame_journal.specs.Replay.{replay}
use Rattle.ame_laws.specs.Typed.StoreTyping.{StoreTyping, Grows}
use Rattle.ame_laws.specs.Typed.Fragment.{IsValueOf}
use Rattle.ame_laws.specs.Typed.TypedState.{IsTyped}
use Rattle.ame_laws.proofs.Typed.FragmentLemmas.{same_cell}
use Rattle.ame_laws.proofs.Typed.Preserved.{grown}
use Rattle.ame_laws.proofs.Typed.Weaken.{weaken_value}
use Rattle.ame_pool.specs.Roster.{Roster}
use Rattle.ame_store.specs.declared.cell.Cell.{Cell}
use Rattle.ame_store.specs.Cells.{IsFree, IsDead}
use Rattle.ame_rows.specs.MemoryView.{Log, no_log, row_at}
use Rattle.ame_rows.proofs.KeptLemmas.{kept_new}
use Rattle.ame_protocol.specs.Row.Heap.{Heap, no_cell, cell_at, IsCell, IsLive, ShowsStore}
use Rattle.ame_protocol.specs.Row.TypedHeap.{IsTypedHeap}
use Rattle.ame_protocol.specs.Row.Scoped.{live_types}
use Rattle.ame_protocol.proofs.Row.CellLemmas.{live_or_dead, live_cell}
use Rattle.ame_protocol.proofs.Row.ReachLemmas.{of-where}
use Rattle.ame_protocol.specs.declared.types.Limits.{Limits}
use Rattle.ame_protocol.specs.declared.types.Task.{Task}
use Rattle.ame_protocol.specs.Engine.Logged.{heap_of}
use Rattle.ame_protocol.specs.Engine.Parts.{Parts, task_at, member_of}
use Rattle.ame_protocol.specs.Engine.Tasks.{IsSoundIn, MeetsTask}
use Rattle.ame_protocol.specs.Engine.Simulates.{HasFewChanges, Simulates}
use Rattle.ame_protocol.specs.Engine.Alone.{RunsExclusively}
use Rattle.ame_protocol.proofs.Engine.MemoryLemmas.{memory-committed}
use Rattle.ame_protocol.proofs.Engine.StartLemmas.{task-idle}
use Rattle.ame_protocol.specs.Visits.Opened.{opened, cell_of, stored_in, AreOpened, HasMembersOf}
use Rattle.ame_protocol.proofs.Engine.AloneEvents.{rest-alone}

row-clear : (n seat : ℕ) → ◌≡◌ {A = Log Val} (row_at (replicate n no_log) seat) no_log
row-clear zero seat = refl
row-clear (suc n) zero = refl
row-clear (suc n) (suc seat) = row-clear n seat

-- The types of all locations: of a dead cell those of the one that it copies

module _ (types : StoreTyping) (cells : List (Cell Val)) (copied : ℕ) where
  abbrev opened_types : StoreTyping
  opened_types l = if (cell_of cells l).live then types l else (if nat_lt l (length cells) then types copied else None)

  types-live : (l : ℕ) → IsLive (cell_of cells l) → opened_types l ≡ types l
  types-live l live = ap (λ (b : Bool). if b then types l else (if nat_lt l (length cells) then types copied else None)) live

  types-dead : (l : ℕ) → IsDead (cell_of cells l) → opened_types l ≡ (if nat_lt l (length cells) then types copied else None)
  types-dead l dead = ap (λ (b : Bool). if b then types l else (if nat_lt l (length cells) then types copied else None)) dead

  types-copied : (l : ℕ) → IsDead (cell_of cells l) → l < length cells → opened_types l ≡ types copied
  types-copied l dead below = types-dead l dead ∙ ap (λ (b : Bool). if b then types copied else None) (lt-ltb l (length cells) below)

  types-within : (l : ℕ) (cell : Sort × Typ) → IsDead (cell_of cells l) → opened_types l ≡ Some cell → l < length cells
  types-within l cell dead e = by (nat_lt l (length cells)) refl (sym (types-dead l dead) ∙ e)
    where
      by : (b : Bool) → nat_lt l (length cells) ≡ b → (if b then types copied else None) ≡ Some cell → l < length cells
      by true is e = ltb-true l (length cells) is
      by false is e = absurd (let clash : ◌≡◌ {A = Option (Sort × Typ)} None (Some cell) = e in cc)

pub stored-live : (cell : Cell Val) → IsLive cell → stored_in cell ≡ Some cell.value
stored-live cell live = ap (λ (b : Bool). if b then Some cell.value else None) live

pub stored-dead : (cell : Cell Val) → IsDead cell → stored_in cell ≡ None
stored-dead cell dead = ap (λ (b : Bool). if b then Some cell.value else None) dead

module _ (program : Tree) (signature : Signature) (limits : Limits) (base : List Entry) (cells : List (Cell Val)) (pool : Roster Tree) (r : Replayed)
    (types : StoreTyping) (replayed : replay program base ≡ Some r) (typed : IsTyped signature types r.state) (o : AreOpened signature types cells r.state)
    (m : HasMembersOf r pool) where
  abbrev parts : Parts
  parts = opened program signature limits base cells pool r.state.output r.state.next

  abbrev heap : Heap
  heap = heap_of parts.memory

  abbrev all_types : StoreTyping
  all_types = opened_types types cells o.copied

  live-there : (l : ℕ) (cell : Sort × Typ) → types l ≡ Some cell → IsLive (cell_of cells l)
  live-there l cell e = by (live_or_dead (cell_of cells l))
    where
      by : IsLive (cell_of cells l) ⊎ IsDead (cell_of cells l) → IsLive (cell_of cells l)
      by (inl live) = live
      by (inr dead) =
          let none : at r.state.store l ≡ None = o.stored l ∙ stored-dead (cell_of cells l) dead in
          absurd (let clash : IsSome {T = Val} None = subst (λ (x : Option Val). IsSome x) none (typed.located l cell e) in cc)

  grows : Grows types all_types
  grows l cell e = types-live types cells o.copied l (live-there l cell e) ∙ e

  grows-live : Grows types (live_types heap all_types)
  grows-live l cell e = of-where (λ k. (cell_at heap k).live) all_types l cell (live-there l cell e) (grows l cell e)

  value-live : (l : ℕ) → IsLive (cell_of cells l)
      → (content : Typ) × (types l ≡ Some ((cell_of cells l).sort, content)) × IsValueOf signature types (cell_of cells l).value content
      × MayStore signature.refs (cell_of cells l).ty.0 content
  value-live l live =
      let cell = cell_of cells l in
      let its = o.sorts l live in
      let st = typed.typed.stored l cell.value (o.stored l ∙ stored-live cell live) in
      let one : st.0 ≡ (cell.sort, its.0) = same_cell st.0 (cell.sort, its.0) (types l) st.1 its.1 in
      (its.0, its.1, subst (IsValueOf signature types cell.value) (ap (λ (x : Sort × Typ). x.1) one) st.2, its.2)

  heap-typed : IsTypedHeap signature all_types heap
  heap-typed = record { typed = λ l there. by l there (live_or_dead (cell_of cells l)); located = λ l cell e. within l cell e (live_or_dead (cell_of cells l)) }
    where
      by : (l : ℕ) → l < length cells → IsLive (cell_of cells l) ⊎ IsDead (cell_of cells l)
          → (content : Typ) × (all_types l ≡ Some ((cell_of cells l).sort, content)) × IsValueOf signature all_types (cell_of cells l).value content
          × MayStore signature.refs (cell_of cells l).ty.0 content
      by l there (inl live) =
          let v = value-live l live in
          (v.0, types-live types cells o.copied l live ∙ v.1, (weaken_value signature types all_types grows v.2.0, v.2.1), v.3)
      by l there (inr dead) =
          let c = o.copies l there dead in
          let v = value-live o.copied c.0 in (
            v.0,
            types-copied types cells o.copied l dead there ∙ v.1 ∙ ap (λ (x : Sort). Some (x, v.0)) (sym c.1),
            subst (λ (w : Val). IsValueOf signature all_types w v.0) (sym c.2) (weaken_value signature types all_types grows v.2.0, v.2.1),
            subst (λ (n : TyNo). MayStore signature.refs n.0 v.0) (sym c.3) v.3,
          )

      within : (l : ℕ) (cell : Sort × Typ) → all_types l ≡ Some cell → IsLive (cell_of cells l) ⊎ IsDead (cell_of cells l) → IsCell heap l
      within l cell e (inl live) = live_cell heap l live
      within l cell e (inr dead) = types-within types cells o.copied l cell dead e

  shows : ShowsStore heap r.state.store
  shows l = by (live_or_dead (cell_of cells l))
    where
      by : IsLive (cell_of cells l) ⊎ IsDead (cell_of cells l) → heap.committed l ≡ at r.state.store l
      by (inl live) =
          (memory-committed parts.memory).free l live (o.free l) ∙ sym (o.stored l ∙ stored-live (cell_of cells l) live)
      by (inr dead) = (memory-committed parts.memory).dead l dead ∙ sym (o.stored l ∙ stored-dead (cell_of cells l) dead)

  nobody-at : (seat i : ℕ) → member_of (task_at parts.tasks seat) ≡ Some i → ⊥
  nobody-at seat i e = let clash : ◌≡◌ {A = Option ℕ} None (Some i) = sym (ap member_of (task-idle limits.seats seat)) ∙ e in cc

  few : (l : ℕ) → HasFewChanges 0 (cell_at heap l)
  few l =
      let cell = cell_of cells l in
      let none = o.unwritten l in
      let low : cell.number ≤ 2 * 0 = omega arith in
      subst (λ (x : Option ℕ). MatchOption x (cell.number ≤ 2 * 0) (λ _. cell.number + 1 ≤ 2 * 0)) (sym (o.free l)) low

  pub opened-stands : Simulates parts
  opened-stands = record {
    r = r;
    types = all_types;
    stands = record {
      replayed = ap (replay program) (append-nil base) ∙ replayed;
      store = shows;
      members = m.members;
      inside = m.inside;
      output = refl;
      next = refl;
    };
    typed = record {
      heap = heap-typed;
      now = grown signature types (live_types heap all_types) r.state grows-live typed.typed;
      shared = λ l live its. o.free l;
    };
    consistent = kept_new cells limits.seats (All-from_get_or IsFree cells no_cell (λ l below. o.free l));
    seats = λ seat. subst (MeetsTask parts all_types seat) (sym (task-idle limits.seats seat)) (row-clear limits.seats seat);
    apart = λ seat other i e f. absurd (nobody-at seat i e);
    bounded = record {
      turns = omega arith;
      numbers = few;
      cells = let h = o.few in omega arith;
      rows = length-replicate limits.seats no_log;
      tasks = length-replicate limits.seats Task.Idle;
    };
    sound = All-nil (IsSoundIn parts);
  }

pub opened-alone : (program : Tree) (signature : Signature) (limits : Limits) (base : List Entry) (cells : List (Cell Val)) (pool : Roster Tree)
    (output : List ℤ) (next : ℕ) → RunsExclusively (opened program signature limits base cells pool output next)
opened-alone program signature limits base cells pool output next =
    rest-alone (opened program signature limits base cells pool output next) (task-idle limits.seats)
