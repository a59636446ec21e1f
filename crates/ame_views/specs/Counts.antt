-- The counts of a run, next to their bounds.
use Rattle.std.specs.Prelude.{◌≡◌, ℕ, ◌+◌, ◌*◌, ◌≤◌, List, [], ◌++◌, length, count_by, Option, Some, codes, decimal}
use Rattle.ame_journal.specs.declared.entry.Entry.{Entry}
use Rattle.ame_journal.specs.Totals.{is_note}
use Rattle.ame_pool.specs.Standings.{max_rollbacks}
use Rattle.ame_protocol.specs.declared.counters.Counters.{Counters}
use Rattle.ame_protocol.specs.declared.stop.Stop.{Stop}
use Rattle.ame_protocol.specs.declared.types.Limits.{Limits}
use Rattle.ame_protocol.specs.Bounds.Spent.{paid_by_entries, paid_by_tries}
use Rattle.ame_protocol.specs.Event.Bounds.{refusals}
use Rattle.ame_engine.specs.Ending.{End}
use Rattle.ame_page.specs.Columns.{column}

-- a count, and what was counted
unfoldable pub count_row : ℕ → List ℕ → List ℕ
count_row n what = column 9 n ++ what ++ codes "\n"

-- a bound; the words say from which other counts it comes
unfoldable pub bound_words : List ℕ → ℕ → List ℕ
bound_words words most = codes ", at most " ++ words ++ codes " = " ++ decimal most ++ codes "\n"

-- a count next to its bound
unfoldable pub bounded_row : ℕ → List ℕ → List ℕ → ℕ → List ℕ
bounded_row n what words most = column 9 n ++ what ++ bound_words words most

-- the turns by their kinds
unfoldable pub access_rows : Counters → List ℕ
access_rows counters =
    count_row counters.begins (codes "  begins") ++ count_row counters.reads (codes "  reads") ++ count_row counters.writes (codes "  writes")
    ++ count_row counters.conflicts (codes "  conflicts") ++ count_row counters.allocs (codes "  new locations")

unfoldable pub end_rows : Counters → List ℕ
end_rows counters =
    count_row counters.checks (codes "  checks") ++ count_row counters.commits (codes "  commits") ++ count_row counters.blocks (codes "  false conditions")

unfoldable pub late_rows : Counters → List ℕ
late_rows counters =
    count_row counters.talls (codes "  too deep") ++ count_row counters.undos (codes "  undos")
    ++ count_row counters.frees (codes "  unprotected")

unfoldable pub turn_rows : Counters → List ℕ
turn_rows counters = access_rows counters ++ end_rows counters ++ late_rows counters

-- the most answers that roll back, for a number of tasks and entries
abbrev pub most_refusals : ℕ → ℕ → ℕ
most_refusals fragments entries = max_rollbacks * (fragments + entries)

abbrev pub refusal_words : ℕ → ℕ → List ℕ
refusal_words fragments entries = codes "8 * (" ++ decimal fragments ++ codes " + " ++ decimal entries ++ codes ")"

-- the answers that turned a fragment back
unfoldable pub refusal_row : Counters → ℕ → ℕ → List ℕ
refusal_row counters fragments entries =
    bounded_row (refusals counters) (codes "conflicts and invalid reads") (refusal_words fragments entries) (most_refusals fragments entries)

-- the attempts that left no entry
unfoldable pub try_row : ℕ → ℕ → ℕ → ℕ → List ℕ
try_row tries fragments entries seats =
    bounded_row tries (codes "attempts that left no entry") (refusal_words fragments entries ++ codes " + " ++ decimal seats)
    (most_refusals fragments entries + seats)

-- the turns of a run that used them up, and what pays for them
unfoldable pub paid_row : ℕ → ℕ → ℕ → List ℕ
paid_row turns by_entries by_tries =
    bounded_row turns (codes "turns that are paid") (codes "3 * (" ++ decimal by_entries ++ codes " + " ++ decimal by_tries ++ codes ")")
    (3 * (by_entries + by_tries))

-- the last row, if the stop is that the turns are used up
abbrev pub spent_row : {V : Type 0} → End V → ℕ → Option Stop → List ℕ
spent_row end slice (Some Stop.Spent) = paid_row end.turns (paid_by_entries end.entries) (paid_by_tries slice end.tried)
spent_row end slice _ = []

-- entries, fragments and turns
unfoldable pub first_rows : ℕ → ℕ → ℕ → List ℕ
first_rows entries fragments turns =
    count_row entries (codes "entries") ++ count_row fragments (codes "tasks") ++ count_row turns (codes "turns, of these")

-- what is bounded
unfoldable pub bounded_rows : {V : Type 0} → End V → ℕ → Limits → List ℕ
bounded_rows end fragments limits =
    refusal_row end.counters fragments (length end.entries) ++ try_row (length end.tried) fragments (length end.entries) limits.seats
    ++ spent_row end limits.slice end.stop

-- the whole page
abbrev pub counts : {V : Type 0} → End V → ℕ → Limits → List ℕ
counts end fragments limits =
    first_rows (length end.entries) fragments end.turns ++ turn_rows end.counters ++ count_row end.counters.invalids (codes "invalid reads")
    ++ bounded_rows end fragments limits

-- how many entries are notes
abbrev pub note_count : List Entry → ℕ
note_count entries = count_by (λ entry. is_note entry.kind) entries

-- the turns of a weak run next to what its entries pay
unfoldable pub weak_turn_row : ℕ → ℕ → List ℕ
weak_turn_row turns paid_there = bounded_row turns (codes "turns") (codes "3 * " ++ decimal paid_there) (3 * paid_there)

-- the whole page of a weak run: its entries and how many are notes, its fragments, and its turns
abbrev pub weak_counts : ℕ → List Entry → ℕ → List ℕ
weak_counts turns entries fragments =
    count_row (length entries) (codes "entries, of these") ++ count_row (note_count entries) (codes "  attempts that were rolled back")
    ++ count_row fragments (codes "tasks") ++ weak_turn_row turns (paid_by_entries entries)

-- Each count that is shown next to a bound is at most that.
pub record KeepsShownBounds {V : Type 0} (end : End V) (fragments : ℕ) (limits : Limits) : Type 0 where
  pub refusals : refusals end.counters ≤ most_refusals fragments (length end.entries)
  pub tries : length end.tried ≤ most_refusals fragments (length end.entries) + limits.seats
  pub paid : end.stop ≡ Some Stop.Spent → end.turns ≤ 3 * (paid_by_entries end.entries + paid_by_tries limits.slice end.tried)
