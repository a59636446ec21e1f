-- The words for the kinds of entries.
use Rattle.std.specs.Prelude.{ℕ, List, codes}
use Rattle.ame_journal.specs.declared.entry.EntryKind.{EntryKind}

-- the word for a kind
abbrev pub kind_word : EntryKind → List ℕ
kind_word EntryKind.Ran = codes "ran"
kind_word EntryKind.Free = codes "free"
kind_word EntryKind.Stuck = codes "stuck"
kind_word EntryKind.Cut = codes "cut"
kind_word EntryKind.Tall = codes "tall"
