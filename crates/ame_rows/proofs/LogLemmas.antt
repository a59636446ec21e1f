-- A seat's undo log and the cells: after one cell changed, after one entry more, and after one entry less.
use Rattle.std.proofs.Common.{◌≡◌, ◌≢◌, ℕ, List, [], ◌∷◌, ◌++◌, Option, Some, None, slice_get, sym, refl, ap, subst, ◌∙◌, ⊎_elim}
use Rattle.std.specs.Prelude.{nat_eq}
use Rattle.std.specs.List.{IsDistinct}
use Rattle.std.proofs.lemmas.Bool.{cases_eq}
use Rattle.ame_store.specs.declared.cell.Cell.{Cell}
use Rattle.ame_store.specs.Cells.{IsOwnedBy, IsFree}
use Rattle.ame_rows.specs.declared.notes.Undo.{Undo}
use Rattle.ame_rows.specs.declared.notes.Undo.TheVariants.{Wrote, Made}
use Rattle.ame_rows.specs.Entries.{named_by, places, entry_at, IsEntryFor, OwnsAsLogged, IsLogOf}
use Rattle.ame_rows.proofs.EntryLemmas.{entry_head, entry_tail, entry_push_else, entry_push_here, once_tail, once_front, once_push}

module _ {V : Type 0} where
  -- ---- what a log says of one location
  -- an entry's cell is the seat's
  pub entry_owned : (seat : ℕ) (u : Undo V) (cell : Cell V) → IsEntryFor seat u cell → IsOwnedBy seat cell
  entry_owned seat (Wrote l number old) cell fits = fits.0
  entry_owned seat (Made l) cell fits = fits.0

  -- an entry has a cell
  pub entry_cell : (seat : ℕ) (u : Undo V) (o : Option (Cell V)) → OwnsAsLogged seat o (Some u) → (cell : Cell V) × (o ≡ Some cell) × IsEntryFor seat u cell
  entry_cell seat u None h = absurd h
  entry_cell seat u (Some cell) h = (cell, refl, h)

  -- a cell that the seat doesn't own has no entry
  pub no_entry : (seat : ℕ) (cell : Cell V) (e : Option (Undo V)) → (IsOwnedBy seat cell → ⊥) → OwnsAsLogged seat (Some cell) e → e ≡ None
  no_entry seat cell None not_its h = refl
  no_entry seat cell (Some u) not_its h = absurd (not_its (entry_owned seat u cell h))

  -- nor has a location without a cell
  pub no_cell_no_entry : (seat : ℕ) (e : Option (Undo V)) → OwnsAsLogged seat None e → e ≡ None
  no_cell_no_entry seat None h = refl
  no_cell_no_entry seat (Some u) h = absurd h

  -- a cell that the seat owns has one
  pub has_entry : (seat : ℕ) (cell : Cell V) (e : Option (Undo V)) → IsOwnedBy seat cell → OwnsAsLogged seat (Some cell) e
      → (u : Undo V) × (e ≡ Some u) × IsEntryFor seat u cell
  has_entry seat cell None its h = absurd (h its)
  has_entry seat cell (Some u) its h = (u, refl, h)

  -- one cell is another one, and the seat owns neither
  pub neither_owned : (seat : ℕ) (cell new : Cell V) → (IsOwnedBy seat cell → ⊥) → (IsOwnedBy seat new → ⊥)
      → (e : Option (Undo V)) → OwnsAsLogged seat (Some cell) e → OwnsAsLogged seat (Some new) e
  neither_owned seat cell new not_its not_then e h = subst (OwnsAsLogged seat (Some new)) (sym (no_entry seat cell e not_its h)) not_then

  -- a cell is new, and the seat doesn't own it
  pub new_not_owned : (seat : ℕ) (new : Cell V) → (IsOwnedBy seat new → ⊥) → (e : Option (Undo V)) → OwnsAsLogged seat None e → OwnsAsLogged seat (Some new) e
  new_not_owned seat new not_its e h = subst (OwnsAsLogged seat (Some new)) (sym (no_cell_no_entry seat e h)) not_its

  -- another value changes nothing of it
  pub value_apart : (seat : ℕ) (cell : Cell V) (value : V) (e : Option (Undo V)) → OwnsAsLogged seat (Some cell) e
      → OwnsAsLogged seat (Some (record cell { value = value })) e
  value_apart seat cell value None h = h
  value_apart seat cell value (Some (Wrote l number old)) h = h
  value_apart seat cell value (Some (Made l)) h = h

  -- a cell of a seat is no other seat's
  pub not_of_another : (seat other : ℕ) (cell : Cell V) → IsOwnedBy seat cell → other ≢ seat → IsOwnedBy other cell → ⊥
  not_of_another seat other cell its n h = let same : other ≡ seat = (let e : Some other ≡ Some seat = sym h ∙ its in cc) in n same

  pub free_not_owned : (seat : ℕ) (cell : Cell V) → IsFree cell → IsOwnedBy seat cell → ⊥
  free_not_owned seat cell free h = let e : ◌≡◌ {A = Option ℕ} None (Some seat) = sym free ∙ h in cc

  -- ---- a whole log
  module _ (seat : ℕ) (cells new : List (Cell V)) where
    -- the cells changed, and the log says the same of each
    pub log_along : (us : List (Undo V)) → ((l : ℕ) (e : Option (Undo V)) → OwnsAsLogged seat (slice_get cells l) e → OwnsAsLogged seat (slice_get new l) e)
        → IsLogOf seat cells us → IsLogOf seat new us
    log_along us each log = record { once = log.once; owned = λ l. each l (entry_at us l) (log.owned l) }

    -- one entry more, and its cell
    pub log_more : (us : List (Undo V)) (u : Undo V) (cell : Cell V) → IsLogOf seat cells us → entry_at us (named_by u) ≡ None
        → slice_get new (named_by u) ≡ Some cell → IsEntryFor seat u cell → ((l : ℕ) → l ≢ named_by u → slice_get new l ≡ slice_get cells l)
        → IsLogOf seat new (us ++ u ∷ [])
    log_more us u cell log none at fits others = record {
      once = once_push us u log.once none;
      owned = λ l. ⊎_elim
          (λ (e : l ≡ named_by u). let was = ap (slice_get new) e ∙ at in let has = ap (entry_at (us ++ u ∷ [])) e
          ∙ entry_push_here us u none in rw (was, has) fits)
          (λ (n : l ≢ named_by u). rw (others l n, entry_push_else us u l n) (log.owned l))
          (cases_eq l (named_by u));
    }

    -- one entry less, whose cell the seat doesn't own any more
    less : (us rest : List (Undo V)) (u : Undo V) (cell : Cell V) → IsLogOf seat cells us → IsDistinct nat_eq (places rest)
        → entry_at rest (named_by u) ≡ None
        → ((l : ℕ) → l ≢ named_by u → entry_at us l ≡ entry_at rest l)
        → slice_get new (named_by u) ≡ Some cell → (IsOwnedBy seat cell → ⊥) → ((l : ℕ) → l ≢ named_by u → slice_get new l ≡ slice_get cells l)
        → IsLogOf seat new rest
    less us rest u cell log once none same at gone others = record {
      once = once;
      owned = λ l. ⊎_elim
          (λ (e : l ≡ named_by u). let was = ap (slice_get new) e ∙ at in let has = ap (entry_at rest) e ∙ none in rw (was, has) gone)
          (λ (n : l ≢ named_by u). rw (others l n, ← same l n) (log.owned l))
          (cases_eq l (named_by u));
    }

    pub log_without_last : (us : List (Undo V)) (u : Undo V) (cell : Cell V) → IsLogOf seat cells (us ++ u ∷ []) → slice_get new (named_by u) ≡ Some cell
        → (IsOwnedBy seat cell → ⊥) → ((l : ℕ) → l ≢ named_by u → slice_get new l ≡ slice_get cells l) → IsLogOf seat new us
    log_without_last us u cell log at gone others =
        let front = once_front us u log.once in
        less (us ++ u ∷ []) us u cell log front.0 front.1 (entry_push_else us u) at gone others

    pub log_without_first : (u : Undo V) (us : List (Undo V)) (cell : Cell V) → IsLogOf seat cells (u ∷ us) → slice_get new (named_by u) ≡ Some cell
        → (IsOwnedBy seat cell → ⊥) → ((l : ℕ) → l ≢ named_by u → slice_get new l ≡ slice_get cells l) → IsLogOf seat new us
    log_without_first u us cell log at gone others =
        let tail = once_tail u us log.once in
        less (u ∷ us) us u cell log tail.0 tail.1 (entry_tail u us) at gone others

  -- the cell of the last entry, and that of the first
  pub last_cell : (seat : ℕ) (cells : List (Cell V)) (us : List (Undo V)) (u : Undo V) → IsLogOf seat cells (us ++ u ∷ [])
      → (cell : Cell V) × (slice_get cells (named_by u) ≡ Some cell) × IsEntryFor seat u cell
  last_cell seat cells us u log =
      let none = (once_front us u log.once).1 in
      entry_cell seat u (slice_get cells (named_by u)) (subst (OwnsAsLogged seat (slice_get cells (named_by u))) (entry_push_here us u none)
      (log.owned (named_by u)))

  pub first_cell : (seat : ℕ) (cells : List (Cell V)) (u : Undo V) (us : List (Undo V)) → IsLogOf seat cells (u ∷ us)
      → (cell : Cell V) × (slice_get cells (named_by u) ≡ Some cell) × IsEntryFor seat u cell
  first_cell seat cells u us log =
      entry_cell seat u (slice_get cells (named_by u)) (subst (OwnsAsLogged seat (slice_get cells (named_by u))) (entry_head u us) (log.owned (named_by u)))

  -- a seat without entries owns nothing, and the other way round
  pub nothing_owned : (seat : ℕ) (cells : List (Cell V)) (l : ℕ) (cell : Cell V) → IsLogOf seat cells [] → slice_get cells l ≡ Some cell
      → IsOwnedBy seat cell → ⊥
  nothing_owned seat cells l cell log at = let says = log.owned l in rw at at says

  pub nothing_logged : (seat : ℕ) (cells : List (Cell V)) → ((l : ℕ) (cell : Cell V) → slice_get cells l ≡ Some cell → IsOwnedBy seat cell → ⊥)
      → IsLogOf seat cells []
  unfolding IsDistinct
  nothing_logged seat cells none = record {
    once = tt;
    owned = λ l. elim (slice_get cells l) as (λ o. slice_get cells l ≡ o → OwnsAsLogged seat o None) [
      | None ↦ λ e. tt
      | Some cell ↦ λ e. none l cell e
    ] refl;
  }
