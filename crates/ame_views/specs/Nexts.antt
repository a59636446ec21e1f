-- A member's next entry.
use Rattle.std.specs.Prelude.{ℕ, ◌==◌, List, [], ◌∷◌, Option, Some, None, if◌then◌else◌}
use Rattle.ame_journal.specs.declared.entry.Entry.{Entry}
use Rattle.ame_journal.specs.declared.entry.EntryKind.{EntryKind}

-- the kind of the first entry of member i, if there is one
abbrev pub kind_of_next : ℕ → List Entry → Option EntryKind
kind_of_next i [] = None
kind_of_next i (entry ∷ entries) = if entry.number == i then Some entry.kind else kind_of_next i entries

-- for each entry, the kind of its member's next one
abbrev pub nexts : List Entry → List (Option EntryKind)
nexts [] = []
nexts (entry ∷ entries) = kind_of_next entry.number entries ∷ nexts entries
