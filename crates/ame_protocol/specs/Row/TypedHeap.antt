-- Typing by the types of all cells, live or not, with any owner. No read can break it, valid or not.
use Rattle.std.specs.Prelude.{◌≡◌, ◌==◌, ℕ, Some, All, if◌then◌else◌}
use Rattle.ame_term.specs.Tree.{Typ, Val}
use Rattle.ame_term.specs.Signature.{Signature, MayStore}
use Rattle.ame_term.specs.Frame.{Side}
use Rattle.ame_term.specs.declared.types.Sort.{Sort}
use Rattle.ame_laws.specs.Typed.StoreTyping.{StoreTyping}
use Rattle.ame_laws.specs.Typed.Fragment.{IsValueOf}
use Rattle.ame_laws.specs.Typed.TypedState.{IsStored}
use Rattle.ame_rows.specs.declared.notes.Undo.{Undo}
use Rattle.ame_rows.specs.declared.notes.Undo.TheVariants.{Wrote, Made}
use Rattle.ame_machine.specs.Run.Fit.{IsTypedThroughout}
use Rattle.ame_protocol.specs.Row.Heap.{Heap, cell_at, IsCell}
use Rattle.ame_protocol.specs.Row.SeatRun.{SeatRun}

-- the types of locations, with one more
abbrev pub types_with : ℕ → Sort × Typ → StoreTyping → StoreTyping
types_with l cell types m = if m == l then Some cell else types m

module _ (signature : Signature) (types : StoreTyping) where
  -- Each cell has a type of its sort, and what is in place there is of it; the `ref` form with its number may store it. No other
  -- location has a type.
  pub record IsTypedHeap (heap : Heap) : Type 0 where
    pub typed : (l : ℕ) → IsCell heap l
        → (content : Typ) × (types l ≡ Some ((cell_at heap l).sort, content)) × IsValueOf signature types (cell_at heap l).value content
        × MayStore signature.refs (cell_at heap l).ty.0 content
    pub located : (l : ℕ) (cell : Sort × Typ) → types l ≡ Some cell → IsCell heap l

  -- what an entry would put back is of its location's type
  abbrev pub IsTypedUndo : Undo Val → Type 0
  IsTypedUndo (Wrote l number old) = IsStored signature types l.0 old
  IsTypedUndo (Made l) = Unit {0}

  -- a row is typed at each place that has used all inputs, and so is what it would put back
  pub record IsTypedRun (run : SeatRun) : Type 0 where
    pub places : IsTypedThroughout signature types Side.Protected run.start run.inputs Typ.Unit
    pub undos : All IsTypedUndo run.undos
