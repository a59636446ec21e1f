-- A shared memory's words in those of what a row owes.
use Rattle.std.proofs.Common.{◌≡◌, ℕ, zero, suc, ◌<◌, true, false, cond, List, [], ◌∷◌, length, map, get_or, Contains, Option, Some, None, slice_get, refl, sym, ap, ◌∙◌, subst, arith}
use Rattle.std.specs.Prelude.{◌==◌, Bool, nat_eq, option_and_then}
use Rattle.std.specs.List.{AllByRecursion, IsDistinct}
use Rattle.std.proofs.lemmas.Bool.{eqb-true}
use Rattle.std.proofs.lemmas.Option.{slice_get-get_or, get_or_from_slice_get}
use Rattle.std.proofs.lemmas.List.Elements.{All-from_recursion, Contains-append_right}
use Rattle.ame_term.specs.Tree.{Val}
use Rattle.ame_store.specs.declared.cell.Cell.{Cell}
use Rattle.ame_store.specs.Cells.{IsOwnedBy, IsFree, IsDead}
use Rattle.ame_rows.specs.declared.notes.Undo.{Undo}
use Rattle.ame_rows.specs.declared.notes.Undo.TheVariants.{Wrote, Made}
use Rattle.ame_rows.specs.MemoryView.{MemoryView, row_at}
use Rattle.ame_rows.specs.Entries.{named_by, places, entry_at, IsEntryFor, OwnsAsLogged}
use Rattle.ame_rows.specs.Consistent.{IsConsistent}
use Rattle.ame_rows.specs.Committed.{old_value, settled_value, committed}
use Rattle.ame_rows.proofs.EntryLemmas.{entry_head, entry_tail, once_tail}
use Rattle.ame_rows.proofs.LogLemmas.{has_entry, entry_cell}
use Rattle.ame_rows.proofs.CommittedLemmas.{shown_at, committed_owned}
use Rattle.ame_protocol.specs.Row.Heap.{no_cell, cell_at, IsCell, IsLive, IsCommitted}
use Rattle.ame_protocol.specs.Row.UndoLog.{undo_place, IsUndo, IsUndoLog}
use Rattle.ame_protocol.proofs.Row.CellLemmas.{each, owned_cell}
use Rattle.ame_protocol.specs.Engine.Logged.{heap_of}

-- Look-ups

pub found : (c : MemoryView Val) (l : ℕ) (cell : Cell Val) → slice_get c.cells l ≡ Some cell → cell_at (heap_of c) l ≡ cell
found c l cell e = get_or_from_slice_get c.cells l cell no_cell e

pub there : (c : MemoryView Val) (l : ℕ) → IsCell (heap_of c) l → slice_get c.cells l ≡ Some (cell_at (heap_of c) l)
there c l within = slice_get-get_or c.cells l no_cell within

-- Committed values

dead-by : (c : MemoryView Val) (l : ℕ) (o : Option (Cell Val)) → slice_get c.cells l ≡ o → IsDead (cell_at (heap_of c) l) → committed c l ≡ None
dead-by c l None e dead = ap (shown_at c.rows l) e
dead-by c l (Some cell) e dead =
    let gone : cell.live ≡ false = sym (ap (λ (x : Cell Val). x.live) (found c l cell e)) ∙ dead in
    ap (shown_at c.rows l) e ∙ ap (λ b. cond b (settled_value c.rows l cell.value cell.owner) None) gone

free-by : (c : MemoryView Val) (l : ℕ) → IsLive (cell_at (heap_of c) l) → IsFree (cell_at (heap_of c) l) → IsCell (heap_of c) l
    → committed c l ≡ Some (cell_at (heap_of c) l).value
free-by c l live free within =
    let cell = cell_at (heap_of c) l in
    ap (shown_at c.rows l) (there c l within)
    ∙ ap (λ o. cond cell.live (settled_value c.rows l cell.value o) None) free
    ∙ ap (λ b. cond b (Some cell.value) None) live

live-within : (cells : List (Cell Val)) (l : ℕ) → (get_or cells l no_cell).live ≡ true → l < length cells
live-within [] l e = cc
live-within (c ∷ cells) zero e = omega arith
live-within (c ∷ cells) (suc l) e = let rest = live-within cells l e in omega arith

pub memory-committed : (c : MemoryView Val) → IsCommitted (heap_of c)
memory-committed c = record {
  dead = λ l dead. dead-by c l (slice_get c.cells l) refl dead;
  free = λ l live free. free-by c l live free (live-within c.cells l live);
}

-- Undo logs

pub same_places : (us : List (Undo Val)) → map undo_place us ≡ places us
same_places [] = refl
same_places (Wrote l n v ∷ us) = ap (λ (xs : List ℕ). l.0 ∷ xs) (same_places us)
same_places (Made l ∷ us) = ap (λ (xs : List ℕ). l.0 ∷ xs) (same_places us)

pub same_place : (u : Undo Val) → undo_place u ≡ named_by u
same_place (Wrote l n v) = refl
same_place (Made l) = refl

-- each entry of a log is the one that is found at its location
entries-own : (us : List (Undo Val)) → IsDistinct nat_eq (places us) → AllByRecursion (λ u. entry_at us (named_by u) ≡ Some u) us
entries-own [] once = tt
entries-own (u ∷ us) once =
    let tail = once_tail u us once in (
      entry_head u us,
      each (λ w. entry_at us (named_by w) ≡ Some w) (λ w. entry_at (u ∷ us) (named_by w) ≡ Some w) (λ w h. on w h tail.1) us (entries-own us tail.0),
    )
  where
    on : (w : Undo Val) → entry_at us (named_by w) ≡ Some w → entry_at us (named_by u) ≡ None → entry_at (u ∷ us) (named_by w) ≡ Some w
    on w h none =
        entry_tail u us (named_by w)
        (λ same. let clash : ◌≡◌ {A = Option (Undo Val)} None (Some w) = sym none ∙ ap (entry_at us) (sym same) ∙ h in cc)
        ∙ h

-- an entry that is found stands in the log
found-named : (us : List (Undo Val)) (l : ℕ) (u : Undo Val) → entry_at us l ≡ Some u → Contains (places us) l
found-named [] l u e = cc
found-named (w ∷ us) l u e = by (named_by w == l) refl e (λ rest. found-named us l u rest)
  where
    by : (b : Bool) → (named_by w == l) ≡ b → cond b (Some w) (entry_at us l) ≡ Some u → (entry_at us l ≡ Some u → Contains (places us) l)
        → Contains (places (w ∷ us)) l
    by true same e rest = (0, omega arith, eqb-true (named_by w) l same)
    by false same e rest = Contains-append_right (named_by w ∷ []) (places us) l (rest e)

module _ (c : MemoryView Val) (kept : IsConsistent c) (seat : ℕ) where
  entry-fits : (u : Undo Val) (cell : Cell Val) → entry_at (row_at c.rows seat).undos (named_by u) ≡ Some u → slice_get c.cells (named_by u) ≡ Some cell
      → IsEntryFor seat u cell → IsUndo (heap_of c) seat u
  entry-fits (Wrote l n v) cell entry at fits =
      let is = found c l.0 cell at in (
        ap (λ (x : Cell Val). x.owner) is ∙ fits.0,
        ap (λ (x : Cell Val). x.number) is ∙ fits.1,
        λ live.
            committed_owned c l.0 cell seat at (sym (ap (λ (x : Cell Val). x.live) is) ∙ live) fits.0 ∙ ap (option_and_then old_value) entry,
      )
  entry-fits (Made l) cell entry at fits =
      let is = found c l.0 cell at in
      (ap (λ (x : Cell Val). x.owner) is ∙ fits.0, ap (λ (x : Cell Val). x.number) is ∙ fits.2, ap (λ (x : Cell Val). x.live) is ∙ fits.1)

  entry-is : (u : Undo Val) → entry_at (row_at c.rows seat).undos (named_by u) ≡ Some u → IsUndo (heap_of c) seat u
  entry-is u entry =
      let says = subst (OwnsAsLogged seat (slice_get c.cells (named_by u))) entry ((kept.logs seat).owned (named_by u)) in
      let cell = entry_cell seat u (slice_get c.cells (named_by u)) says in
      entry-fits u cell.0 entry cell.1 cell.2

  owned-named : (l : ℕ) → IsOwnedBy seat (cell_at (heap_of c) l) → Contains (places (row_at c.rows seat).undos) l
  owned-named l own =
      let log = kept.logs seat in
      let at = there c l (owned_cell (heap_of c) seat l own) in
      let us = (row_at c.rows seat).undos in
      let entry = has_entry seat (cell_at (heap_of c) l) (entry_at us l) own (subst (λ o. OwnsAsLogged seat o (entry_at us l)) at (log.owned l)) in
      found-named us l entry.0 entry.1

  pub memory-undo_log : IsUndoLog (heap_of c) seat (row_at c.rows seat).undos
  memory-undo_log =
      let us = (row_at c.rows seat).undos in
      record {
        once = subst (IsDistinct nat_eq) (sym (same_places us)) (kept.logs seat).once;
        entries =
            All-from_recursion (IsUndo (heap_of c) seat) us
            (each (λ u. entry_at us (named_by u) ≡ Some u) (IsUndo (heap_of c) seat) entry-is us (entries-own us (kept.logs seat).once));
        named = λ l own. subst (λ (xs : List ℕ). Contains xs l) (sym (same_places us)) (owned-named l own);
      }
