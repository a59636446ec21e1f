-- The note of a member that comes to a value nested too deeply.
use Rattle.std.specs.Prelude.{◌≡◌, true, None}
use Rattle.ame_journal.specs.declared.entry.Entry.{Entry}
use Rattle.ame_journal.specs.declared.entry.EntryKind.{EntryKind}
use Rattle.ame_journal.specs.Replayed.{has_such, side_at, is_tall}
use Rattle.ame_journal.specs.Replay.{attempt}
use Rattle.ame_weak.specs.Weak.{Weak}
use Rattle.ame_runner.specs.Within.{IsReachedWithin}

-- a member comes to a form whose value would be nested too deeply, at once or by steps within the bounds
pub record IsTallNote (w : Weak) (entry : Entry) : Type 0 where
  pub kind : entry.kind ≡ EntryKind.Tall
  pub answer : entry.answer ≡ None
  pub comes : has_such (is_tall (side_at entry.number w.state) entry.number) (attempt entry.number entry.steps entry.fresh w.state) ≡ true
  pub within : IsReachedWithin w entry
