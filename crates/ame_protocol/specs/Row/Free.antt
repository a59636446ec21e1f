-- The cells that unprotected code meets. It runs on committed values only.
use Rattle.std.specs.Prelude.{◌≡◌, ℕ}
use Rattle.ame_term.specs.declared.types.Sort.{Sort}
use Rattle.ame_protocol.specs.Row.Heap.{Heap, cell_at, IsCell, IsLive}

-- a location has a live cell of this sort
pub record MeetsLive (heap : Heap) (l : ℕ) (wanted : Sort) : Type 0 where
  pub there : IsCell heap l
  pub live : IsLive (cell_at heap l)
  pub sort : (cell_at heap l).sort ≡ wanted
