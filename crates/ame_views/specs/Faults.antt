-- Why entries aren't those of a run that machines can make.
use Rattle.std.specs.Prelude.{◌⊎◌, ℕ, List}
use Rattle.ame_term.specs.Tree.{Tree}
use Rattle.ame_journal.specs.declared.entry.Entry.{Entry}
use Rattle.ame_check.specs.Judge.{IsUndefinedAt, IsTooHighAt}
use Rattle.ame_check.specs.declared.reason.Reason.{Reason}

-- an entry can't be made, or passes a form that would become a value nested too deeply
abbrev pub HasFault : Tree → List Entry → Type 0
HasFault program entries = (place : ℕ) × (((why : Reason) × IsUndefinedAt program entries place why) ⊎ IsTooHighAt program entries place)
