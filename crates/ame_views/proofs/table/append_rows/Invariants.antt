use Rattle.std.proofs.Common.{◌≡◌, ◌+◌, ◌++◌, map, drop}
use Rattle.ame_views.specs.Starters.{starter_in}
use Rattle.ame_views.specs.Table.{rows, lines_at}
use Rattle.ame_views.proofs.table.append_rows.Given as goal

abbrev pub invariant-loop-index : goal.invariant-loop-index
invariant-loop-index l =
    l.page ++ rows (l.index + 1) (drop l.index l.entries) l.rest (starter_in l.starters) (lines_at (map (λ v. v.items) l.lines))
    ≡ l.initial.page ++ rows 1 l.entries l.tries (starter_in l.starters) (lines_at (map (λ v. v.items) l.lines))
