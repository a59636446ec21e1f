use Rattle.std.proofs.Common.{◌≡◌, ◌≤◌, ◌+◌, ◌-◌, ◌++◌, [], length, map, get_or, None, ap, ◌∙◌, arith}
use Rattle.ame_journal.specs.declared.entry.Entry.{Entry}
use Rattle.ame_views.specs.Starters.{starter_in}
use Rattle.ame_views.specs.Table.{entry_row, lines_at}
use Rattle.ame_views.proofs.NextLemmas.{nexts_at, length-nexts}
use Rattle.ame_views.proofs.RowLemmas.{rows_go_on, rows_end}
use Rattle.ame_views.proofs.table.append_rows.Goals as goal

pub bounds-nexts-index : goal.bounds-nexts-index
bounds-nexts-index c =
    let same : length c.args.nexts.now ≡ length c.args.entries.now = ap length c.requires ∙ length-nexts c.args.entries.now in
    omega arith

pub loop-index-preserved : goal.loop-index-preserved
loop-index-preserved c =
    let i = c.loop-index.index in
    let entries = c.args.entries.now in
    let entry = c.index-entries-index.result in
    let next = get_or c.args.nexts.now i None in
    let noted = c.append_tries.new.page in
    let lines = map (λ v. v.items) c.args.lines.now in
    let printed = c.line_at.result.now in
    let starter = c.starter_in.result in
    let same : i ≡ i + 1 - 1 = omega arith in
    rows_go_on (starter_in c.args.starters.now) (lines_at lines) _ c.loop-index.page noted _ entries c.loop-index.rest.now c.in_ok-rest.rest.now i entry
    starter next printed c.loop-index-test.true c.loop-index.invariant c.in_ok-rest.ensures.rows c.in_ok-rest.ensures.later
    (c.starter_in.ensures ∙ ap (λ (e : Entry). starter_in c.args.starters.now e.number) c.index-entries-index.is)
    (ap (λ told. get_or told i None) c.requires ∙ nexts_at entries i entry None c.loop-index-test.true)
    (c.line_at.ensures ∙ ap (λ k. get_or lines k []) same)
    (c.in_ok-append_row.ensures ∙ ap (λ e. noted ++ entry_row (i + 1) e starter next printed) c.index-entries-index.is)

pub returns : goal.returns
returns c =
    let past : length c.args.entries.now ≤ c.loop-index.index = c.loop-index-test.false in
    let within : c.loop-index.index ≤ length c.args.entries.now = c.loop-index.auto.index-end in
    let all : length c.args.entries.now ≡ c.loop-index.index = omega arith in
    rows_end (starter_in c.args.starters.now) (lines_at (map (λ v. v.items) c.args.lines.now)) _ c.loop-index.page _ c.args.entries.now c.loop-index.rest.now
    c.loop-index.index all c.loop-index.invariant c.in_ok-_none.ensures.rows
