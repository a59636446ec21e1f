-- The changes that calls make in the cells of a store.
use Rattle.std.specs.Prelude.{◌≡◌, ℕ, ◌+◌, List, Option, Some, None, slice_get, slice_set, true, false}
use Rattle.std.specs.Option.{ForSome}
use Rattle.ame_term.specs.declared.types.Sort.{Sort}
use Rattle.ame_term.specs.declared.types.TyNo.{TyNo}
use Rattle.ame_store.specs.declared.cell.Cell.{Cell}

module _ {V : Type 0} where
  -- the cell at this location is changed so, and every other cell stays
  abbrev pub Changes : List (Cell V) → List (Cell V) → ℕ → (Cell V → Cell V) → Type 0
  Changes old new l change = ForSome (slice_get old l) (λ cell. new ≡ slice_set old l (change cell))

  -- a new cell: live if it has no owner
  abbrev pub made : Sort → TyNo → V → Option ℕ → Cell V
  made sort ty value None =
      record { sort = sort; ty = ty; value = value; number = 0; owner = None; live = true }
  made sort ty value (Some seat) =
      record { sort = sort; ty = ty; value = value; number = 1; owner = Some seat; live = false }

  -- its owner lets it go
  abbrev pub let_go : Cell V → Cell V
  let_go cell = record cell { number = cell.number + 1; owner = None }

  -- its owner lets it go, and what it wrote is there for all
  abbrev pub released : Cell V → Cell V
  released cell = record (let_go cell) { live = true }

  -- its owner lets it go, and what it found is back
  abbrev pub restored : V → Cell V → Cell V
  restored old cell = record (let_go cell) { value = old }

  -- it is written and has no owner, before or after
  abbrev pub replaced : V → Cell V → Cell V
  replaced value cell = record cell { value = value; number = cell.number + 2 }
