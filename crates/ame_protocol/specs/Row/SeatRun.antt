-- The run of a seat's member, as the seat's row logs it.
use Rattle.std.specs.Prelude.{◌≡◌, ℕ, List, [], Some, All}
use Rattle.ame_term.specs.Tree.{Val, Tree}
use Rattle.ame_term.specs.Frame.{Side}
use Rattle.ame_term.specs.Context.{Focus, focus}
use Rattle.ame_term.specs.Act.{Act, act_of}
use Rattle.ame_rows.specs.declared.notes.ReadNote.{ReadNote}
use Rattle.ame_rows.specs.declared.notes.Undo.{Undo}
use Rattle.ame_rows.specs.Valid.{IsValidAt}
use Rattle.ame_machine.specs.Run.Local.{LocalState, local}
use Rattle.ame_protocol.specs.Row.Heap.{Heap, cell_at}

-- A run of a seat has the term from which it began, the values that it was given, the reads that it made outside its own cells, and the
-- entries that are to be undone.
pub record SeatRun : Type 0 where
  pub start : Tree
  pub inputs : List Val
  pub reads : List ReadNote
  pub undos : List (Undo Val)

-- the run has used all that it was given, after n steps, and stands at a place
pub record HasUsed (run : SeatRun) (n : ℕ) (p : LocalState) : Type 0 where
  pub ran : local Side.Protected run.start run.inputs n ≡ Some p
  pub used : p.inputs ≡ []

-- the run stands somewhere: at some place it has used all that it was given
pub record IsSomewhere (run : SeatRun) : Type 0 where
  pub steps : ℕ
  pub place : LocalState
  pub used : HasUsed run steps place

-- a place of a run stands at an act, on a side of `unprotected`
pub record IsAtAct (side : Side) (act : Act) (p : LocalState) : Type 0 where
  pub redex : Tree
  pub stands : focus p.term ≡ Focus.AtRedex side redex
  pub acts : act_of redex ≡ act

-- The run has used all that it was given, and has come to an act.
pub record ComesTo (run : SeatRun) (act : Act) (n : ℕ) (p : LocalState) : Type 0 where
  pub place : HasUsed run n p
  pub there : IsAtAct Side.Protected act p

module _ (heap : Heap) (seat : ℕ) where
  -- a logged read of a seat is valid, by the cell that is there now
  abbrev pub IsValidNote : ReadNote → Type 0
  IsValidNote note = IsValidAt seat note.number (cell_at heap note.loc.0)

  -- each of them is
  abbrev pub AreValid : List ReadNote → Type 0
  AreValid reads = All IsValidNote reads
