use Rattle.std.proofs.Common.{◌≡◌, ◌+◌, ◌++◌, length, map}
use Rattle.ame_drawing.specs.Shown.{shown}
use Rattle.ame_drawing.proofs.shown.shown_picks.Given as goal

abbrev pub invariant-loop-made : goal.invariant-loop-made
invariant-loop-made l = record {
  so_far : l.picks.items ++ map (shown l.is_cut) l.made-iterator ≡ map (shown l.is_cut) l.fn.mades;
  counted : length l.picks.items + length l.made-iterator ≡ length l.fn.mades;
}
