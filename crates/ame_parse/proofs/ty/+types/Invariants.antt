use Rattle.std.proofs.Common.{◌+◌, ◌*◌}
use Rattle.ame_parse.proofs.ty.+types.Given as goal

abbrev pub decreases-nested : goal.decreases-nested
decreases-nested l = 6 * l.depth

abbrev pub decreases-ty : goal.decreases-ty
decreases-ty l = 6 * l.depth + 1

abbrev pub decreases-boxed_ty : goal.decreases-boxed_ty
decreases-boxed_ty l = 6 * l.depth + 2

abbrev pub decreases-reference : goal.decreases-reference
decreases-reference l = 6 * l.depth + 3

abbrev pub decreases-function : goal.decreases-function
decreases-function l = 6 * l.depth + 3

abbrev pub decreases-pair : goal.decreases-pair
decreases-pair l = 6 * l.depth + 3

abbrev pub decreases-compound : goal.decreases-compound
decreases-compound l = 6 * l.depth + 4
