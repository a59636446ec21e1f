use Rattle.std.proofs.Common.{◌∙◌, sym, ap, ◌+◌}
use Rattle.ame_journal.proofs.UniqueLemmas.{one_bad}
use Rattle.ame_journal.proofs.theorems.first_bad_line_is_one.Goals as goal

pub returns : goal.returns
returns c =
    λ text m n one other.
    one.count ∙ ap (λ k. k + 1) (one_bad one.before other.before one.left other.left one.reads other.reads one.bad other.bad (sym one.split ∙ other.split)) ∙ sym other.count
