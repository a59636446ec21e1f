-- Commits of seats.
use Rattle.std.specs.Prelude.{◌≡◌, ℕ, Bool, true, false, List, filter, length, slice_get, Option, Some}
use Rattle.std.specs.List.{range_with_len}
use Rattle.std.specs.Option.{option_map_or}
use Rattle.ame_store.specs.declared.cell.Cell.{Cell}
use Rattle.ame_rows.specs.Access.{is_owned_by}
use Rattle.ame_machine.specs.declared.wants.Wants.{Wants}
use Rattle.ame_machine.specs.declared.wants.Wants.TheVariants as wants
use Rattle.ame_machine.specs.MachineView.{MachineView, place_shown}
use Rattle.ame_machine.specs.Run.Local.{LocalState}
use Rattle.ame_protocol.specs.declared.types.Attempt.{Attempt}
use Rattle.ame_protocol.specs.Engine.Parts.{Parts}
use Rattle.ame_protocol.specs.Event.Event.{Event}
use Rattle.ame_protocol.specs.Engine.Events.{has_ended, has_left}

-- Returns whether a machine that wants this is to be committed: it has ended, or it leaves.
abbrev pub commits : Option Wants → Bool
commits (Some wants.Done) = true
commits (Some wants.Leave) = true
commits _ = false

-- Protected code has come to its end, or to `unprotected`.
pub record IsCommitting (s : MachineView) : Type 0 where
  pub wants : commits s.want ≡ true
  pub outside : s.inside ≡ false

-- Returns the locations of the cells that a seat owns, in rising order.
abbrev pub owned_places : {V : Type 0} → ℕ → List (Cell V) → List ℕ
owned_places seat cells = filter (λ l. option_map_or (is_owned_by seat) (slice_get cells l) false) (range_with_len 0 (length cells))

-- A seat's row is committed at what its machine shows: its member has ended.
abbrev pub ended_at : ℕ → ℕ → MachineView → Parts → Parts
ended_at seat number s parts = has_ended seat number s.steps (place_shown s) (owned_places seat parts.memory.cells) parts

-- A seat's row is committed at what its machine shows: its member has come to `unprotected`.
abbrev pub left_at : ℕ → ℕ → MachineView → Parts → Parts
left_at seat number s parts = has_left seat number s.steps (place_shown s) (owned_places seat parts.memory.cells) parts

-- Returns the event of such a commit, at the place to which the run has come.
abbrev pub ends_at : ℕ → Attempt → MachineView → Parts → LocalState → Event
ends_at seat attempt s parts = λ place. Event.End seat attempt s.steps place (owned_places seat parts.memory.cells)

abbrev pub leaves_at : ℕ → Attempt → MachineView → Parts → LocalState → Event
leaves_at seat attempt s parts = λ place. Event.Leave seat attempt s.steps place (owned_places seat parts.memory.cells)
