use Rattle.std.proofs.Common.{◌≡◌, ◌++◌, drop}
use Rattle.ame_views.specs.Stored.{stored_rows}
use Rattle.ame_views.proofs.stored.append_cells.Given as goal

abbrev pub invariant-loop-number : goal.invariant-loop-number
invariant-loop-number l =
    l.page ++ stored_rows l.places l.number (drop l.number l.store) ≡ l.initial.page ++ stored_rows l.places 0 l.store
