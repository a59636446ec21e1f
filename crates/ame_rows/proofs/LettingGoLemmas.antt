-- Releases and rollbacks: step by step, as a whole, and that cells and logs stay consistent.
use Rattle.std.proofs.Common.{◌≡◌, ◌≢◌, ◌==◌, ℕ, ◌<◌, true, false, cond, List, [], ◌∷◌, ◌++◌, length, set, map, All, Option, Some, None, slice_get, sym, refl}
use Rattle.std.proofs.Common.{ap, subst, ◌∙◌, arith, ⊎_elim}
use Rattle.std.proofs.lemmas.List.{length-map}
use Rattle.std.specs.Prelude.{option_map, nat_lt}
use Rattle.std.specs.Option.{option_map_or}
use Rattle.std.proofs.lemmas.Bool.{eqb-true, eq-eqb, false≢true}
use Rattle.std.proofs.lemmas.List.Elements.{All-set, All-nil}
use Rattle.std.proofs.lemmas.Option.{slice_get_within, slice_get-map}
use Rattle.ame_store.specs.declared.cell.Cell.{Cell}
use Rattle.ame_store.specs.Cells.{IsOwnedBy, IsFree, CanGrow}
use Rattle.ame_store.specs.Changes.{released}
use Rattle.ame_rows.specs.declared.notes.Undo.{Undo}
use Rattle.ame_rows.specs.declared.notes.Undo.TheVariants.{Wrote, Made}
use Rattle.ame_rows.specs.MemoryView.{Log, MemoryView, no_log, row_at, by_seat}
use Rattle.ame_rows.specs.Entries.{named_by, OwnsAsLogged, IsLogOf}
use Rattle.ame_rows.specs.Consistent.{IsConsistent}
use Rattle.ame_rows.specs.Access.{changed_at, is_owned_by}
use Rattle.ame_rows.specs.LettingGo.{released_by, released_all, undone_by, last_entry, but_last, cells_undone, notes_undone, undone_last}
use Rattle.ame_rows.proofs.LookupLemmas.{map_set_same, map_same, changed_here, changed_else, changed_length, get_set_here, get_set_else}
use Rattle.ame_rows.proofs.EntryLemmas.{last_is, but_last_is, undos_undone, split_last}
use Rattle.ame_rows.proofs.LogLemmas.{entry_owned, last_cell, nothing_owned, nothing_logged, neither_owned, not_of_another, free_not_owned, log_without_first}
use Rattle.ame_rows.proofs.LogLemmas.{log_without_last}
use Rattle.ame_rows.proofs.KeptLemmas.{AreWithin, within_more, StaysFor, stays_at, kept_by_seat}

module _ {V : Type 0} where
  -- ---- who owns a cell
  pub owned_is : (seat : ℕ) (cell : Cell V) → IsOwnedBy seat cell → is_owned_by seat cell ≡ true
  owned_is seat cell its = ap (λ o. option_map_or (λ owner. owner == seat) o false) its ∙ eq-eqb seat seat refl

  pub is_owned : (seat : ℕ) (cell : Cell V) → is_owned_by seat cell ≡ true → IsOwnedBy seat cell
  is_owned seat cell =
      elim cell.owner as (λ o. option_map_or (λ owner. owner == seat) o false ≡ true → o ≡ Some seat) [
        | None ↦ λ e. absurd (false≢true e)
        | Some owner ↦ λ e. ap Some (eqb-true owner seat e)
      ]

  -- ---- the loop that releases
  -- what is left of a log, with the cells as they are and as they were at the start
  pub record Releasing (seat : ℕ) (start cells : List (Cell V)) (undos : List (Undo V)) : Type 0 where
    pub log : IsLogOf seat cells undos
    pub can_grow : All (λ cell. IsOwnedBy seat cell → CanGrow cell) cells
    pub same : map (released_by seat) cells ≡ map (released_by seat) start

  pub releasing_step : (seat : ℕ) (start cells new : List (Cell V)) (u : Undo V) (us : List (Undo V)) (cell : Cell V) → Releasing seat start cells (u ∷ us)
      → slice_get cells (named_by u) ≡ Some cell → IsOwnedBy seat cell → new ≡ set cells (named_by u) (released cell) → Releasing seat start new us
  releasing_step seat start cells new u us cell before at its e =
      let l = named_by u in
      let within = slice_get_within cells l cell at in
      let gone : IsOwnedBy seat (released cell) → ⊥ = free_not_owned seat (released cell) refl in
      let became : released_by seat (released cell) ≡ released_by seat cell = ap (λ b. cond b (released cell) cell) (sym (owned_is seat cell its)) in
      rw e (record {
        log = log_without_first seat cells (set cells l (released cell)) u us (released cell) before.log (get_set_here cells l (released cell) within) gone
            (λ j n. get_set_else cells l j (released cell) n);
        can_grow = All-set (λ c. IsOwnedBy seat c → CanGrow c) cells l (released cell) (λ h. absurd (gone h)) before.can_grow;
        same = map_set_same (released_by seat) cells l cell (released cell) at became ∙ before.same;
      })

  unowned : (seat : ℕ) (cell : Cell V) → (IsOwnedBy seat cell → ⊥) → released_by seat cell ≡ cell
  unowned seat cell not_its =
      elim (is_owned_by seat cell) as (λ b. is_owned_by seat cell ≡ b → cond b (released cell) cell ≡ cell) [
        | true ↦ λ e. absurd (not_its (is_owned seat cell e))
        | false ↦ λ e. refl
      ] refl

  pub releasing_ends : (seat : ℕ) (start cells : List (Cell V)) → Releasing seat start cells [] → cells ≡ map (released_by seat) start
  releasing_ends seat start cells done =
      let stays : map (released_by seat) cells ≡ cells = map_same (released_by seat) cells
      (λ l cell at. unowned seat cell (nothing_owned seat cells l cell done.log at)) in
      sym stays ∙ done.same

  -- ---- consistent still, after all is released
  released_gone : (seat : ℕ) (cell : Cell V) → IsOwnedBy seat (released_by seat cell) → ⊥
  released_gone seat cell =
      elim (is_owned_by seat cell) as (λ b. is_owned_by seat cell ≡ b → IsOwnedBy seat (cond b (released cell) cell) → ⊥) [
        | true ↦ λ e. free_not_owned seat (released cell) refl
        | false ↦ λ e its. false≢true (sym e ∙ owned_is seat cell its)
      ] refl

  released_for_others : (seat other : ℕ) → other ≢ seat → (o : Option (Cell V)) (e : Option (Undo V)) → OwnsAsLogged other o e
      → OwnsAsLogged other (option_map (released_by seat) o) e
  released_for_others seat other n None e h = h
  released_for_others seat other n (Some cell) e h =
      elim (is_owned_by seat cell) as (λ b. is_owned_by seat cell ≡ b → OwnsAsLogged other (Some (cond b (released cell) cell)) e) [
        | true ↦ λ t. neither_owned other cell (released cell) (not_of_another seat other cell (is_owned seat cell t) n)
            (free_not_owned other (released cell) refl) e h
        | false ↦ λ t. h
      ] refl

  released_not_owned : (seat : ℕ) (o : Option (Cell V)) (cell : Cell V) → option_map (released_by seat) o ≡ Some cell → IsOwnedBy seat cell → ⊥
  released_not_owned seat None cell e = cc
  released_not_owned seat (Some was) cell e = let same : released_by seat was ≡ cell = cc in subst (λ x. IsOwnedBy seat x → ⊥) same (released_gone seat was)

  pub kept_released : (c : MemoryView V) (seat : ℕ) → IsConsistent c → seat < length c.rows → IsConsistent (released_all seat c)
  kept_released c seat kept within =
      let new = map (released_by seat) c.cells in
      let log = nothing_logged seat new (λ l cell at.
      let found : option_map (released_by seat) (slice_get c.cells l) ≡ Some cell = sym (slice_get-map (released_by seat) c.cells l) ∙ at in
      released_not_owned seat (slice_get c.cells l) cell found) in
      let others : (other : ℕ) → other ≢ seat → StaysFor other c.cells new = λ other n l e h.
      rw (slice_get-map (released_by seat) c.cells l) (released_for_others seat other n (slice_get c.cells l) e h) in
      kept_by_seat c seat new no_log kept within log (All-nil
      (λ note. note.loc.0 < length new)) others (omega (arith, length-map c.cells (released_by seat)))

  -- ---- a rollback
  pub undone_free : (u : Undo V) (cell : Cell V) → IsFree (undone_by u cell)
  undone_free (Wrote l number old) cell = refl
  undone_free (Made l) cell = refl

  pub cells_undone_is : (us front : List (Undo V)) (u : Undo V) (cells : List (Cell V)) → us ≡ front ++ u ∷ []
      → cells_undone us cells ≡ changed_at (named_by u) (undone_by u) cells
  cells_undone_is us front u cells e =
      ap (λ o. option_map_or (λ x. changed_at (named_by x) (undone_by x) cells) o cells) (ap last_entry e ∙ last_is front u)

  pub cells_undone_none : (us : List (Undo V)) (cells : List (Cell V)) → us ≡ [] → cells_undone us cells ≡ cells
  cells_undone_none us cells e = ap (λ w. cells_undone w cells) e

  reads_undone : (cells : List (Cell V)) (notes : Log V) → AreWithin cells notes.reads → AreWithin cells (notes_undone notes).reads
  reads_undone cells notes h =
      elim (nat_lt 1 (length notes.undos)) as (λ b. AreWithin cells (cond b (record notes { undos = but_last notes.undos }) no_log).reads) [
        | true ↦ h
        | false ↦ All-nil (λ note. note.loc.0 < length cells)
      ]

  pub kept_undone : (c : MemoryView V) (seat : ℕ) → IsConsistent c → seat < length c.rows → IsConsistent (undone_last seat c)
  kept_undone c seat kept within =
      let row = row_at c.rows seat in
      let log = kept.logs seat in
      ⊎_elim
      (λ (none : row.undos ≡ []).
      let left : (notes_undone row).undos ≡ [] = undos_undone row ∙ ap but_last none in
      subst (λ cells. IsConsistent (by_seat seat cells (notes_undone row) c)) (sym (cells_undone_none row.undos c.cells none))
      (kept_by_seat c seat c.cells (notes_undone row) kept within (subst (IsLogOf seat c.cells) (none
      ∙ sym left) log) (reads_undone c.cells row (kept.reads seat)) (λ other n l e h. h) (omega arith)))
      (λ (some : (front : List (Undo V)) × (u : Undo V) × (row.undos ≡ front ++ u ∷ [])).
      let front = some.0 in let u = some.1 in
      let whole : IsLogOf seat c.cells (front ++ u ∷ []) = subst (IsLogOf seat c.cells) some.2 log in
      let cell = last_cell seat c.cells front u whole in
      let l = named_by u in
      let new = changed_at l (undone_by u) c.cells in
      let here = changed_here l (undone_by u) c.cells cell.0 (slice_get_within c.cells l cell.0 cell.1) cell.1 in
      let length_same = changed_length l (undone_by u) c.cells in
      let left : (notes_undone row).undos ≡ front = undos_undone row ∙ ap but_last some.2 ∙ but_last_is front u in
      let after = log_without_last seat c.cells new front u (undone_by u cell.0) whole here (free_not_owned seat (undone_by u cell.0)
      (undone_free u cell.0)) (changed_else l (undone_by u) c.cells) in
      let others : (other : ℕ) → other ≢ seat → StaysFor other c.cells new = λ other n.
      stays_at other c.cells new l cell.0 (undone_by u cell.0) cell.1 here (changed_else l (undone_by u) c.cells)
      (neither_owned other cell.0 (undone_by u cell.0) (not_of_another seat other cell.0 (entry_owned seat u cell.0 cell.2) n)
      (free_not_owned other (undone_by u cell.0) (undone_free u cell.0))) in
      subst (λ cells. IsConsistent (by_seat seat cells (notes_undone row) c)) (sym (cells_undone_is row.undos front u c.cells some.2))
      (kept_by_seat c seat new (notes_undone row) kept within (subst (IsLogOf seat new) (sym left) after)
      (within_more c.cells new (notes_undone row).reads (omega (arith, length_same))
      (reads_undone c.cells row (kept.reads seat))) others (omega (arith, length_same))))
      (split_last row.undos)
