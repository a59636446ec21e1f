-- The lines that each entry of a journal prints.
use Rattle.std.specs.Prelude.{◌≡◌, ℤ, true, false, List, [], ◌∷◌, length, drop, Option, Some, None, if◌then◌else◌}
use Rattle.ame_term.specs.Tree.{Tree}
use Rattle.ame_term.specs.State.{State}
use Rattle.ame_journal.specs.declared.entry.Entry.{Entry}
use Rattle.ame_journal.specs.Replayed.{Replayed, begun_at}
use Rattle.ame_journal.specs.Replay.{replay_entry}
use Rattle.ame_journal.specs.Totals.{is_note}

-- what was printed from one state to a later one
abbrev pub printed_between : State → State → List ℤ
printed_between s t = drop (length s.output) t.output

-- for one entry, and then for the others after it
abbrev pub and_those_behind : (Replayed → List (List ℤ)) → Replayed → Option Replayed → List (List ℤ)
and_those_behind behind r None = []
and_those_behind behind r (Some t) = printed_between r.state t.state ∷ behind t

-- the lines of each entry from here; a note prints none and changes nothing, and an entry that can't be made ends them
unfoldable pub lines_from : Replayed → List Entry → List (List ℤ)
lines_from r [] = []
lines_from r (entry ∷ entries) =
    if is_note entry.kind then [] ∷ lines_from r entries else and_those_behind (λ t. lines_from t entries) r (replay_entry r entry)

-- an entry prints these lines, and leads on: a note prints none, and the others as they are replayed
pub data Prints : Replayed → Entry → List ℤ → Replayed → Type 0 where
  note : (r : Replayed) (entry : Entry) → is_note entry.kind ≡ true → Prints r entry [] r
  made : (r t : Replayed) (entry : Entry) → is_note entry.kind ≡ false → replay_entry r entry ≡ Some t → Prints r entry (printed_between r.state t.state) t

-- the lines of each entry of a journal of a program
abbrev pub lines_of : Tree → List Entry → List (List ℤ)
lines_of program entries = lines_from (begun_at program) entries
