-- The facts that entries show without a replay.
use Rattle.std.specs.Prelude.{ℕ, ◌+◌, Bool, true, false, not, List, filter}
use Rattle.std.specs.List.{sum_by}
use Rattle.ame_journal.specs.declared.entry.Entry.{Entry}
use Rattle.ame_journal.specs.declared.entry.EntryKind.{EntryKind}

-- whether entries of a kind are notes, which change nothing
abbrev pub is_note : EntryKind → Bool
is_note EntryKind.Ran = false
is_note EntryKind.Free = false
is_note EntryKind.Stuck = true
is_note EntryKind.Cut = true
is_note EntryKind.Tall = true

-- the entries that are no notes, in order
abbrev pub without_notes : List Entry → List Entry
without_notes entries = filter (λ entry. not (is_note entry.kind)) entries

-- the steps of all entries, and one more for each
abbrev pub total_steps : List Entry → ℕ
total_steps entries = sum_by (λ entry. entry.steps + 1) entries
