use Rattle.std.proofs.Common.{◌≡◌, ◌+◌, ◌*◌, take}
use Rattle.ame_term.specs.View.{val_of, tree_of, trees_of}
use Rattle.ame_print.specs.Printer.{with_tokens, spelling_of}
use Rattle.ame_print.specs.Tokens.{row_tokens}
use Rattle.ame_print.proofs.Sizes.{value_size, size, row_size}
use Rattle.ame_print.proofs.terms.+print.Given as goal

abbrev pub decreases-held : goal.decreases-held
decreases-held l = 2 * value_size (val_of l.value.now)

abbrev pub decreases-function : goal.decreases-function
decreases-function l = 2 * size (tree_of l.f.now.body) + 1

abbrev pub decreases-one : goal.decreases-one
decreases-one l = 2 * size (tree_of l.part.now) + 1

abbrev pub decreases-alone : goal.decreases-alone
decreases-alone l = 2 * size (tree_of l.part.now) + 1

abbrev pub decreases-two : goal.decreases-two
decreases-two l = 2 * (size (tree_of l.first.now) + size (tree_of l.second.now)) + 1

abbrev pub decreases-binding : goal.decreases-binding
decreases-binding l = 2 * (size (tree_of l.bound.now) + size (tree_of l.body.now)) + 1

abbrev pub decreases-choice : goal.decreases-choice
decreases-choice l = 2 * (size (tree_of l.test.now) + size (tree_of l.yes.now) + size (tree_of l.no.now)) + 1

abbrev pub decreases-unprotected : goal.decreases-unprotected
decreases-unprotected l = 2 * size (tree_of l.part.now) + 2

abbrev pub decreases-sequence : goal.decreases-sequence
decreases-sequence l = 2 * row_size (trees_of l.parts.now) + 1

abbrev pub decreases-row : goal.decreases-row
decreases-row l = 2 * row_size (trees_of l.parts.now)

abbrev pub decreases-term : goal.decreases-term
decreases-term l = 2 * size (tree_of l.shown.now)

-- the parts so far were printed
abbrev pub invariant-row-loop-part : goal.invariant-row-loop-part
invariant-row-loop-part l = l.page ≡ with_tokens l.fn.page (row_tokens (spelling_of l.fn.names) (trees_of (take l.part-index l.fn.parts)))
