-- The lines of what is left follow.
use Rattle.std.proofs.Common.{◌≡◌, ◌++◌, length}
use Rattle.std.specs.List.{flat_map}
use Rattle.ame_views.specs.Standings.{read_line}
use Rattle.ame_views.proofs.standing_lines.append_reads.Given as goal

abbrev pub invariant-loop-l : goal.invariant-loop-l
invariant-loop-l l =
    l.page ++ flat_map (read_line l.forms l.cells.entries) l.left.entries
    ≡ l.initial.page ++ flat_map (read_line l.forms l.cells.entries) l.fn.reads.entries

abbrev pub decreases-loop-l : goal.decreases-loop-l
decreases-loop-l l = length l.left.entries
