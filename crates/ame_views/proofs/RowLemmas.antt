-- Rows, one after another.
use Rattle.std.proofs.Common.{◌≡◌, ℕ, ◌+◌, ◌<◌, ℤ, List, ◌++◌, length, get_or, drop, Option, sym, ap, ◌∙◌, append_assoc, arith}
use Rattle.std.proofs.lemmas.List.{drop_more, drop_all}
use Rattle.ame_journal.specs.declared.entry.Entry.{Entry}
use Rattle.ame_journal.specs.declared.entry.EntryKind.{EntryKind}
use Rattle.ame_views.specs.Nexts.{kind_of_next}
use Rattle.ame_protocol.specs.declared.types.Tried.{Tried}
use Rattle.ame_views.specs.declared.starters.Starter.{Starter}
use Rattle.ame_views.specs.Table.{entry_row, tried_rows, later_tries, rows}

-- a page before which rows are left, one with the tries that come next, and one with the next row
pub rows_go_on : (started : ℕ → Option Starter) (told : ℕ → List ℤ) (whole page noted new : List ℕ) (entries : List Entry) (tries rest : List Tried) (i : ℕ) (entry : Entry)
    (starter : Option Starter) (next : Option EntryKind) (printed : List ℤ) → i < length entries → page ++ rows (i + 1) (drop i entries) tries started told ≡ whole
    → noted ≡ page ++ tried_rows (i + 1) tries started → rest ≡ later_tries (i + 1) tries → starter ≡ started (get_or entries i entry).number
    → next ≡ kind_of_next (get_or entries i entry).number (drop (i + 1) entries) → printed ≡ told (i + 1)
    → new ≡ noted ++ entry_row (i + 1) (get_or entries i entry) starter next printed → new ++ rows (i + 1 + 1) (drop (i + 1) entries) rest started told ≡ whole
unfolding rows
rows_go_on started told whole page noted new entries tries rest i entry starter next printed inside left marked others by is lines added =
    let e = get_or entries i entry in
    let follows = kind_of_next e.number (drop (i + 1) entries) in
    let row = entry_row (i + 1) e (started e.number) follows (told (i + 1)) in
    let more = rows (i + 1 + 1) (drop (i + 1) entries) (later_tries (i + 1) tries) started told in
    ap (λ us. new ++ rows (i + 1 + 1) (drop (i + 1) entries) us started told) others
    ∙ ap (λ t. t ++ more)
    (added ∙ ap (λ o. noted ++ entry_row (i + 1) e o next printed) by ∙ ap (λ o. noted ++ entry_row (i + 1) e (started e.number) o printed) is
    ∙ ap (λ xs. noted ++ entry_row (i + 1) e (started e.number) follows xs) lines
    ∙ ap (λ t. t ++ row) marked)
    ∙ append_assoc (page ++ tried_rows (i + 1) tries started) row more
    ∙ append_assoc page (tried_rows (i + 1) tries started) (row ++ more)
    ∙ sym (ap (λ es. page ++ rows (i + 1) es tries started told) (drop_more entries i entry inside)) ∙ left

-- after the last entry
pub rows_end : (started : ℕ → Option Starter) (told : ℕ → List ℤ) (whole page new : List ℕ) (entries : List Entry) (tries : List Tried) (i : ℕ) → length entries ≡ i
    → page ++ rows (i + 1) (drop i entries) tries started told ≡ whole → new ≡ page ++ tried_rows (length entries + 1) tries started → new ≡ whole
unfolding rows
rows_end started told whole page new entries tries i all left added =
    added ∙ ap (λ k. page ++ tried_rows (k + 1) tries started) all
    ∙ sym (ap (λ es. page ++ rows (i + 1) es tries started told) (drop_all i entries (omega (arith, all)))) ∙ left

-- Some rows of tries were added, and the rest is to come.
pub record AreTriesSoFar (n : ℕ) (started : ℕ → Option Starter) (all rest : List Tried) (old new : List ℕ) : Type 0 where
  pub added : new ++ tried_rows n rest started ≡ old ++ tried_rows n all started
  pub others : later_tries n rest ≡ later_tries n all
