-- An entry that reports a run.
use Rattle.std.specs.Prelude.{◌≡◌, ℕ, ◌==◌, ◌+◌, true, List, Some, None}
use Rattle.ame_term.specs.Tree.{Val, Tree}
use Rattle.ame_term.specs.Frame.{Side}
use Rattle.ame_term.specs.Context.{focus}
use Rattle.ame_term.specs.Height.{max_height}
use Rattle.ame_term.specs.Maps.{at}
use Rattle.ame_journal.specs.declared.entry.Entry.{Entry}
use Rattle.ame_journal.specs.Replayed.{Replayed, side_at, coming_height}
use Rattle.ame_machine.specs.Run.Local.{LocalState, local}
use Rattle.ame_machine.specs.Run.AgreesWith.{AgreesWith}

-- In a replayed state n steps of the member that an entry names, on the side on which it stands, lead to a
-- place of a run that agrees with the store; the entry has its new locations and its answer.
pub record TellsRun (r : Replayed) (entry : Entry) (side : Side) (n : ℕ) (p : LocalState) : Type 0 where
  pub idle : r.state.active ≡ None
  pub stands : side_at entry.number r.state ≡ side
  pub term : Tree
  pub member : at r.state.members entry.number ≡ Some term
  pub inputs : List Val
  pub ran : local side term inputs n ≡ Some p
  pub agrees : AgreesWith r.state.store p
  pub fresh : entry.fresh ≡ p.fresh
  pub answer : entry.answer ≡ p.answer

-- a run has come to a form that would become a value that is too high
abbrev pub IsTooHigh : Side → LocalState → Type 0
IsTooHigh side p = (coming_height side (focus p.term) == max_height + 1) ≡ true
