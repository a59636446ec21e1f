use Rattle.std.proofs.Common.{◌≡◌, ◌++◌, take}
use Rattle.std.specs.List.{flat_map}
use Rattle.ame_views.specs.Table.{spaced_integer}
use Rattle.ame_views.proofs.row.append_lines.Given as goal

abbrev pub invariant-loop-line : goal.invariant-loop-line
invariant-loop-line l = l.page ≡ l.initial.page ++ flat_map spaced_integer (take l.line-index l.printed)
