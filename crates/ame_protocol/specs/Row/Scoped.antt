-- Scoped typing: what is valid is typed by live cells, and by those that its seat made, alone. The types of all
-- cells, dead ones too, say too little: a valid row could hold a location that is dead for good.
use Rattle.std.specs.Prelude.{ℕ, ◌==◌, Bool, false, ◌&&◌, ◌||◌, Option, Some, None, if◌then◌else◌}
use Rattle.ame_term.specs.Tree.{Typ, Val}
use Rattle.ame_term.specs.Signature.{Signature}
use Rattle.ame_term.specs.Frame.{Side}
use Rattle.ame_term.specs.State.{State}
use Rattle.ame_laws.specs.Typed.StoreTyping.{StoreTyping}
use Rattle.ame_laws.specs.Typed.TypedState.{IsTypedBy}
use Rattle.ame_store.specs.declared.cell.Cell.{Cell}
use Rattle.ame_machine.specs.Run.Fit.{IsTypedThroughout}
use Rattle.ame_protocol.specs.Row.Heap.{Heap, cell_at}
use Rattle.ame_protocol.specs.Row.SeatRun.{SeatRun, AreValid}

-- a seat made the cell that has this owner and number, and has it still
abbrev pub is_maker : ℕ → Option ℕ → ℕ → Bool
is_maker seat None number = false
is_maker seat (Some owner) number = (owner == seat) && (number == 1)

-- a seat reaches a cell that is live, or that it made and has still
abbrev pub reaches : ℕ → Cell Val → Bool
reaches seat cell = cell.live || is_maker seat cell.owner cell.number

-- the types of some locations alone
abbrev pub types_where : (ℕ → Bool) → StoreTyping → StoreTyping
types_where test types l = if test l then types l else None

-- the types of live cells
abbrev pub live_types : Heap → StoreTyping → StoreTyping
live_types heap types = types_where (λ l. (cell_at heap l).live) types

-- the types of cells that a seat reaches
abbrev pub reached_types : Heap → ℕ → StoreTyping → StoreTyping
reached_types heap seat types = types_where (λ l. reaches seat (cell_at heap l)) types

module _ (signature : Signature) (types : StoreTyping) (heap : Heap) where
  -- a row whose reads are all valid is typed, at each place that has used all inputs, by what its seat reaches
  abbrev pub IsScoped : ℕ → SeatRun → Type 0
  IsScoped seat run =
      AreValid heap seat run.reads → IsTypedThroughout signature (reached_types heap seat types) Side.Protected run.start run.inputs Typ.Unit

  -- a state is typed by what is live
  abbrev pub IsTypedNow : State → Type 0
  IsTypedNow s = IsTypedBy signature (live_types heap types) s
