use Rattle.std.proofs.Common.{◌≡◌, ◌+◌, ◌*◌, ◌-◌, map}
use Rattle.ame_term.specs.View.{tree_of}
use Rattle.ame_parse.specs.Reading.{term, more, more_from}
use Rattle.ame_parse.proofs.grammar.+grammar.Given as goal

abbrev pub decreases-nested : goal.decreases-nested
decreases-nested l = 6 * l.depth

abbrev pub decreases-term : goal.decreases-term
decreases-term l = 6 * l.depth + 1

abbrev pub decreases-boxed_term : goal.decreases-boxed_term
decreases-boxed_term l = 6 * l.depth + 2

abbrev pub decreases-scoped : goal.decreases-scoped
decreases-scoped l = 6 * l.depth + 3

abbrev pub decreases-one : goal.decreases-one
decreases-one l = 6 * l.depth + 3

abbrev pub decreases-two : goal.decreases-two
decreases-two l = 6 * l.depth + 3

abbrev pub decreases-choice : goal.decreases-choice
decreases-choice l = 6 * l.depth + 3

abbrev pub decreases-binding : goal.decreases-binding
decreases-binding l = 6 * l.depth + 4

abbrev pub decreases-more : goal.decreases-more
decreases-more l = 6 * l.depth + 3

abbrev pub decreases-first_two : goal.decreases-first_two
decreases-first_two l = 6 * l.depth + 3

abbrev pub decreases-sequence : goal.decreases-sequence
decreases-sequence l = 6 * l.depth + 4

abbrev pub decreases-function : goal.decreases-function
decreases-function l = 6 * l.depth + 4

abbrev pub decreases-recursive : goal.decreases-recursive
decreases-recursive l = 6 * l.depth + 4

abbrev pub decreases-reference : goal.decreases-reference
decreases-reference l = 6 * l.depth + 4

abbrev pub decreases-call : goal.decreases-call
decreases-call l = 6 * l.depth + 4

abbrev pub decreases-spawning : goal.decreases-spawning
decreases-spawning l = 6 * l.depth + 3

abbrev pub decreases-unprotected : goal.decreases-unprotected
decreases-unprotected l = 6 * l.depth + 3

abbrev pub decreases-compound : goal.decreases-compound
decreases-compound l = 6 * l.depth + 5

abbrev pub invariant-more-loop-turn : goal.invariant-more-loop-turn
invariant-more-loop-turn l = more (term l.depth) (map tree_of l.fn.parts.items) l.fn.reader ≡ more_from (term l.depth) (l._turn-end - l._turn) (map tree_of l.parts.items) l.reader
