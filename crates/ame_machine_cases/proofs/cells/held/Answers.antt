use Rattle.std.proofs.Common.{◌-◌, arith}
use Rattle.ame_machine_cases.proofs.cells.held.Goals as goal

pub returns-then-cell-l : goal.returns-then-cell-l
returns-then-cell-l c = record { place = c.loop-n.n - 1; within = omega arith; cell = c.index-cells-n.result; is = c.index-cells-n.is; location = omega arith; value = c.in_ok-value.ensures }
