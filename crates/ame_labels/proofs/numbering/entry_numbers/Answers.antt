use Rattle.std.proofs.Common.{ℕ, List, length, ap, ◌∙◌, subst, IfOk, ◌≡◌}
use Rattle.ame_weak.specs.Straight.{outset}
use Rattle.ame_labels.specs.EntryNumbers.{numbers_with}
use Rattle.ame_labels.proofs.LedgerLemmas.{length-counts}
use Rattle.ame_labels.proofs.numbering.entry_numbers.Goals as goal

pub numbers_with-requires : goal.numbers_with-requires
numbers_with-requires c = ap length (c.deref.ensures.value ∙ c.in_ok-counts.ensures) ∙ length-counts 0 0 c.args.tries.now outset c.args.labels.now

pub returns : goal.returns
returns c =
    subst (λ (counts : List ℕ). IfOk c.numbers_with.result (λ numbers. numbers.items ≡ numbers_with c.args.labels.now counts))
    (c.deref.ensures.value ∙ c.in_ok-counts.ensures) c.numbers_with.ensures
