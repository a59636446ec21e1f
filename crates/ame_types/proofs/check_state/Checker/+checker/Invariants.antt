-- A form's function is called by `term`, and calls it with the form's parts.
use Rattle.std.proofs.Common.{◌+◌, ◌*◌, length, map, slice_index}
use Rattle.ame_term.specs.View.{tree_of, trees_of}
use Rattle.ame_term.specs.SourceTerm.{nodes, all_nodes}
use Rattle.ame_types.specs.Shared.{shared_type}
use Rattle.ame_types.specs.Scope.{scope_of, names_of, AreListed}
use Rattle.ame_types.proofs.Parts.{Left}
use Rattle.ame_types.proofs.check_state.Checker.+checker.Given as goal

abbrev pub decreases-term : goal.decreases-term
decreases-term l = 4 * nodes (tree_of l.term.now)

abbrev pub decreases-function : goal.decreases-function
decreases-function l = 4 * nodes (tree_of l.function.now.body) + 2

abbrev pub decreases-plain : goal.decreases-plain
decreases-plain l = 4 * nodes (tree_of l.function.now.body) + 1

abbrev pub decreases-recursive : goal.decreases-recursive
decreases-recursive l = 4 * nodes (tree_of l.function.now.body) + 1

abbrev pub decreases-sequence : goal.decreases-sequence
decreases-sequence l = 4 * all_nodes (trees_of l.parts.now) + 2

abbrev pub decreases-do_part : goal.decreases-do_part
decreases-do_part l = 4 * nodes (tree_of l.part.now) + 1

abbrev pub decreases-app : goal.decreases-app
decreases-app l = 4 * (nodes (tree_of l.function.now) + nodes (tree_of l.argument.now)) + 1

abbrev pub decreases-binding : goal.decreases-binding
decreases-binding l = 4 * (nodes (tree_of l.bound.now) + nodes (tree_of l.body.now)) + 1

abbrev pub decreases-choice : goal.decreases-choice
decreases-choice l = 4 * (nodes (tree_of l.test.now) + nodes (tree_of l.then.now) + nodes (tree_of l.other.now)) + 1

abbrev pub decreases-operation : goal.decreases-operation
decreases-operation l = 4 * (nodes (tree_of l.left.now) + nodes (tree_of l.right.now)) + 1

abbrev pub decreases-one : goal.decreases-one
decreases-one l = 4 * nodes (tree_of l.part.now) + 1

abbrev pub decreases-set : goal.decreases-set
decreases-set l = 4 * (nodes (tree_of l.cell.now) + nodes (tree_of l.content.now)) + 1

abbrev pub decreases-spawn : goal.decreases-spawn
decreases-spawn l = 4 * nodes (tree_of l.body.now) + 1

abbrev pub decreases-unprotected : goal.decreases-unprotected
decreases-unprotected l = 4 * nodes (tree_of l.part.now) + 1

abbrev pub decreases-pair : goal.decreases-pair
decreases-pair l = 4 * (nodes (tree_of l.first.now) + nodes (tree_of l.second.now)) + 1

abbrev pub invariant-sequence-loop-rest : goal.invariant-sequence-loop-rest
invariant-sequence-loop-rest l = record {
  walk :
      Left l.self.devices (slice_index l.self.places.now) (scope_of l.site.scope.now) (names_of l.site.scope.now) l.site.effect
      (l.fn.seen.next + 1) (map shared_type l.fn.seen.ref_tys.items) l.parts l.seen.next (map shared_type l.seen.ref_tys.items) l.rest;
  listed : AreListed l.seen.types.keys.keys l.site.scope.now;
}

abbrev pub decreases-sequence-loop-rest : goal.decreases-sequence-loop-rest
decreases-sequence-loop-rest l = length l.rest
