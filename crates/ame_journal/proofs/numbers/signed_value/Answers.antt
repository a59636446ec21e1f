use Rattle.ame_journal.proofs.NumberLemmas.{signed-minus, signed-plain}
use Rattle.ame_journal.proofs.numbers.signed_value.Goals as goal

pub returns-in-Some : goal.returns-in-Some
returns-in-Some c =
    let cases = c.in-Some.ensures.cases in
    signed-minus _ _ _ _ cases.0 cases.1 c.value_of.ensures c.checked_sub_unsigned.ensures

pub returns-in-None : goal.returns-in-None
returns-in-None c = signed-plain _ _ _ c.in-None.ensures.cases c.value_of-in-None.ensures c.checked_add_unsigned.ensures
