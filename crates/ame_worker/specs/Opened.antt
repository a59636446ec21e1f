-- The opening of a shell that workers come to share.
use Rattle.std.specs.Prelude.{◌≡◌, List, [], replicate}
use Rattle.ame_engine.specs.Core.{Core}
use Rattle.ame_machine.specs.Meaning.{Meaning}
use Rattle.ame_shell.specs.Ends.{IoView}
use Rattle.ame_shell.specs.Shell.{Opening, shell_view}
use Rattle.ame_worker.specs.declared.shared.Shared.{Shared}
use Rattle.ame_worker.specs.Rows.{SeatRow, nothing_kept, empty_row}
use Rattle.ame_worker.specs.Shared.{OpenedView, opened_from, opening_from, IsShared}
use Rattle.ame_worker.specs.Turns.{TurnView}

module _ {M K D C V : Type 0} where
  -- A shell with this engine, sink and devices, before anything was sent, and a place for each seat.
  pub record IsAround (engine : Core C V M) (io : IoView K D) (shared : Shared M K D C V) : Type 0 where
    pub shell : shared.shell.value ≡ record { engine = engine; io = io; sent = 0 }
    pub made : shared.made.value ≡ shared.shell.value
    pub places : shared.places.items ≡ replicate engine.limits.seats nothing_kept
    pub turns : shared.turns ≡ []

  -- the shell as it was made, and as it was when workers came to share it, which is now
  abbrev pub opened_now : Shared M K D C V → OpenedView C V M
  opened_now shared = opened_from (shell_view shared.made.value) (shell_view shared.shell.value)

module _ {M K D C V : Type 0} (meaning : Meaning C V M) where
  -- a shared shell that was opened so has these rows and turns
  abbrev pub HasRowsAndTurns : Shared M K D C V → OpenedView C V M → List (SeatRow M) → List (TurnView C V M) → Type 0
  HasRowsAndTurns shared opened rows told = IsShared meaning opened (shell_view shared.shell.value) shared.places.items shared.turns rows told

  -- no seat had a turn yet
  abbrev pub IsUnused : Shared M K D C V → Type 0
  IsUnused shared = HasRowsAndTurns shared (opened_now shared) (replicate shared.made.value.engine.limits.seats empty_row) []

  -- A shell was opened so, and no seat had a turn yet.
  pub record IsOpenedBy (opening : Opening C) (shared : Shared M K D C V) : Type 0 where
    pub opened : opening_from (shell_view shared.made.value) ≡ opening
    pub unused : IsUnused shared
