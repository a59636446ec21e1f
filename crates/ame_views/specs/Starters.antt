-- By which entry each fragment was started.
use Rattle.std.specs.Prelude.{ℕ, ◌+◌, ◌-◌, ◌==◌, nat_lt, if◌then◌else◌, List, [], ◌∷◌, ◌++◌, length, replicate, slice_get, Option, Some, None}
use Rattle.ame_term.specs.Tree.{Tree}
use Rattle.ame_journal.specs.declared.entry.Entry.{Entry}
use Rattle.ame_journal.specs.Replayed.{Replayed, begun_at}
use Rattle.ame_journal.specs.Replay.{replay_entry}

-- entry n, if there is a task with this number after it, and otherwise a later one
abbrev pub started_by : (Replayed → Option ℕ) → ℕ → ℕ → Option Replayed → Option ℕ
started_by later n fragment None = None
started_by later n fragment (Some t) = if nat_lt fragment t.state.next then Some n else later t

-- the first of these entries, counted from n on, after which there is a task with this number, or was one
unfoldable pub starter_from : ℕ → Replayed → ℕ → List Entry → Option ℕ
starter_from n r fragment [] = None
starter_from n r fragment (entry ∷ entries) = started_by (λ t. starter_from (n + 1) t fragment entries) n fragment (replay_entry r entry)

-- the entry of a program's journal that started a fragment; fragment 0, the program itself, was started by none
abbrev pub starter_of : Tree → List Entry → ℕ → Option ℕ
starter_of program entries fragment = if fragment == 0 then None else starter_from 1 (begun_at program) fragment entries

-- the starter of a task, in a list from task 1 on
abbrev pub starter_in : {A : Type 0} → List A → ℕ → Option A
starter_in starters fragment = if fragment == 0 then None else slice_get starters (fragment - 1)

-- the same with entry n for each fragment below this number that has none
abbrev pub with_starter : ℕ → ℕ → List ℕ → List ℕ
with_starter n next starters = starters ++ replicate (next - (length starters + 1)) n
