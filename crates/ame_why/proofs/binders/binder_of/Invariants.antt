use Rattle.std.proofs.Common.{◌≡◌, ◌≤◌, length, take}
use Rattle.std.specs.List.{find}
use Rattle.ame_why.specs.Binders.{spells, bound_within}
use Rattle.ame_why.proofs.binders.binder_of.Given as goal

abbrev pub invariant-loop-left : goal.invariant-loop-left
invariant-loop-left l = record {
  within : l.left ≤ length l.places;
  rest : find (spells l.text l.name) (bound_within l.text l.tokens l.name.start l.places)
      ≡ find (spells l.text l.name) (bound_within l.text l.tokens l.name.start (take l.left l.places));
}

abbrev pub decreases-loop-left : goal.decreases-loop-left
decreases-loop-left l = l.left
