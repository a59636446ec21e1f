use Rattle.ame_parse.proofs.FirstFault.{fault_stands, fault_stays}
use Rattle.ame_parse.proofs.laws.fault_is_first.Goals as goal

pub returns-clause-stands : goal.returns-clause-stands
returns-clause-stands c = fault_stands

pub returns-clause-stays : goal.returns-clause-stays
returns-clause-stays c text other before from others rest fault =
    fault_stays text other before from others rest fault (c.tokens_lie_within.ensures.in_order text)
