-- A shared memory with values of any kind, after a visit.
use Rattle.std.proofs.Common.{◌≡◌, ℕ, ◌==◌, Bool, true, false, cond, List, [], ◌∷◌, set, All, Option, Some, None, refl, subst}
use Rattle.std.specs.Prelude.{option_and_then, slice_get}
use Rattle.std.specs.Option.{option_map_or}
use Rattle.std.proofs.lemmas.Option.{slice_get_within}
use Rattle.std.proofs.lemmas.List.Elements.{All-push, All-set, All-head, All-tail}
use Rattle.ame_term.specs.Tree.{Val}
use Rattle.ame_term.specs.declared.types.Sort.{Sort}
use Rattle.ame_store.specs.declared.cell.Cell.{Cell}
use Rattle.ame_store.specs.Changes.{made, replaced}
use Rattle.ame_rows.specs.declared.notes.Undo.{Undo}
use Rattle.ame_rows.specs.declared.notes.Undo.TheVariants.{Wrote, Made}
use Rattle.ame_rows.specs.MemoryView.{Log, MemoryView, row_at}
use Rattle.ame_rows.specs.Entries.{named_by, entry_at}
use Rattle.ame_rows.specs.Committed.{old_value, settled_value, committed}
use Rattle.ame_rows.proofs.LookupLemmas.{all_at}
use Rattle.ame_protocol.specs.Engine.Shown.{shown_memory}
use Rattle.ame_protocol.proofs.Engine.ShownMemoryLemmas.{put-shown, born-shown}
use Rattle.ame_engine.specs.declared.engine.free.change.CellChange.{CellChange}
use Rattle.ame_engine.specs.declared.engine.free.change.CellChange.TheVariants as changes
use Rattle.ame_engine.specs.Whole.{IsGoodUndo, IsGoodLog, IsGoodMemory}
use Rattle.ame_engine.specs.Visiting.{changed_by, IsGoodChange}
use Rattle.ame_engine.proofs.ReadLemmas.{row-good}

module _ {V : Type 0} (IsGood : V → Type 0) (IsForm : Sort → ℕ → Type 0) where
  -- Committed values are good

  entry-good : (us : List (Undo V)) (l : ℕ) (u : Undo V) → All (IsGoodUndo IsGood) us → entry_at us l ≡ Some u → IsGoodUndo IsGood u
  entry-good [] l u all e = absurd (let clash : ◌≡◌ {A = Option (Undo V)} None (Some u) = e in cc)
  entry-good (x ∷ us) l u all e =
      by (named_by x == l) e (entry-good us l u (All-tail (IsGoodUndo IsGood) x us all))
    where
      by : (b : Bool) → cond b (Some x) (entry_at us l) ≡ Some u → (entry_at us l ≡ Some u → IsGoodUndo IsGood u) → IsGoodUndo IsGood u
      by true e rest = let same : x ≡ u = cc in subst (IsGoodUndo IsGood) same (All-head (IsGoodUndo IsGood) x us all)
      by false e rest = rest e

  old-good : (o : Option (Undo V)) (v : V) → ((u : Undo V) → o ≡ Some u → IsGoodUndo IsGood u) → option_and_then old_value o ≡ Some v → IsGood v
  old-good None v good e = cc
  old-good (Some (Wrote l number old)) v good e = let same : old ≡ v = cc in subst IsGood same (good (Wrote l number old) refl)
  old-good (Some (Made l)) v good e = cc

  settled-good : (rows : List (Log V)) (l : ℕ) (value : V) (o : Option ℕ) (v : V) → All (IsGoodLog IsGood) rows → IsGood value
      → settled_value rows l value o ≡ Some v → IsGood v
  settled-good rows l value None v all good e = let same : value ≡ v = cc in subst IsGood same good
  settled-good rows l value (Some owner) v all good e =
      let its = row-good IsGood rows owner all in
      old-good (entry_at (row_at rows owner).undos l) v (λ u there. entry-good (row_at rows owner).undos l u its.undos there) e

  pub committed-good : (c : MemoryView V) (l : ℕ) (v : V) → IsGoodMemory IsGood IsForm c → committed c l ≡ Some v → IsGood v
  committed-good c l v good e =
      by (slice_get c.cells l) (λ cell there. all_at (λ (x : Cell V). IsGood x.value) c.cells l cell (slice_get_within c.cells l cell there) there good.cells) e
    where
      where_live : (b : Bool) (o : Option V) → (o ≡ Some v → IsGood v) → cond b o None ≡ Some v → IsGood v
      where_live true o rest e = rest e
      where_live false o rest e = cc

      by : (o : Option (Cell V)) → ((cell : Cell V) → o ≡ Some cell → IsGood cell.value)
          → option_and_then (λ cell. cond cell.live (settled_value c.rows l cell.value cell.owner) None) o ≡ Some v → IsGood v
      by None each e = cc
      by (Some cell) each e =
          where_live cell.live (settled_value c.rows l cell.value cell.owner) (settled-good c.rows l cell.value cell.owner v good.rows (each cell refl)) e

  -- A shared memory that changed has good values

  put-good : (cells : List (Cell V)) (l : ℕ) (value : V) → IsGood value → (o : Option (Cell V)) → All (λ cell. IsGood cell.value) cells
      → All (λ cell. IsGood cell.value) (option_map_or (λ cell. set cells l (replaced value cell)) o cells)
  put-good cells l value good None all = all
  put-good cells l value good (Some cell) all = All-set (λ (x : Cell V). IsGood x.value) cells l (replaced value cell) good all

  put-form : (cells : List (Cell V)) (l : ℕ) (value : V) (o : Option (Cell V)) → slice_get cells l ≡ o → All (λ cell. IsForm cell.sort cell.ty.0) cells
      → All (λ cell. IsForm cell.sort cell.ty.0) (option_map_or (λ cell. set cells l (replaced value cell)) o cells)
  put-form cells l value None e all = all
  put-form cells l value (Some cell) e all =
      All-set (λ (x : Cell V). IsForm x.sort x.ty.0) cells l (replaced value cell)
      (all_at (λ (x : Cell V). IsForm x.sort x.ty.0) cells l cell (slice_get_within cells l cell e) e all) all

  pub changed-good : (change : CellChange V) (c : MemoryView V) → IsGoodChange IsGood IsForm change → IsGoodMemory IsGood IsForm c
      → IsGoodMemory IsGood IsForm (changed_by (λ v. v) change c)
  changed-good changes.Stays c good all = all
  changed-good (changes.Puts l value) c good all = record {
    cells = put-good c.cells l.0 value good (slice_get c.cells l.0) all.cells;
    forms = put-form c.cells l.0 value (slice_get c.cells l.0) refl all.forms;
    rows = all.rows;
  }
  changed-good (changes.Makes sort number value) c good all = record {
    cells = All-push (λ (cell : Cell V). IsGood cell.value) c.cells (made sort number value None) all.cells good.0;
    forms = All-push (λ (cell : Cell V). IsForm cell.sort cell.ty.0) c.cells (made sort number value None) all.forms good.1;
    rows = all.rows;
  }

module _ {V : Type 0} (view : V → Val) where
  pub changed-shown : (change : CellChange V) (c : MemoryView V) → shown_memory view (changed_by (λ v. v) change c) ≡ changed_by view change (shown_memory view c)
  changed-shown changes.Stays c = refl
  changed-shown (changes.Puts l value) c = put-shown view l.0 value c
  changed-shown (changes.Makes sort number value) c = born-shown view sort number value c
