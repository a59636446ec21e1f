-- Journals that pass no form that would become a value nested too deeply.
use Rattle.std.specs.Prelude.{ℕ, List}
use Rattle.ame_term.specs.Tree.{Tree}
use Rattle.ame_journal.specs.declared.entry.Entry.{Entry}
use Rattle.ame_check.specs.Judge.{PassesTallAt}

-- no entry passes one
abbrev pub IsLowJournal : Tree → List Entry → Type 0
IsLowJournal program entries = (n : ℕ) → PassesTallAt program entries n → ⊥
