use Rattle.std.proofs.Common.{◌∙◌, sym, true≢false}
use Rattle.std.proofs.lemmas.Slice.Eq.{bytes_eq-Decides}
use Rattle.ame_journal.proofs.NumberLemmas.{same-decimal}
use Rattle.ame_journal.proofs.numbers.number.Goals as goal

pub returns-else-eq : goal.returns-else-eq
returns-else-eq c =
    λ x h e.
    let text_is = c.as_bytes.ensures.value ∙ c.format.ensures.text in
    let same = same-decimal c.args.word.now c.as_bytes.result.now c.value_of-value.result x c.value_of-value.ensures text_is h e in
    true≢false (sym ((bytes_eq-Decides _ _).1 same) ∙ (sym c.eq.ensures ∙ c.if-eq.false))
