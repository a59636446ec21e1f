use Rattle.ame_parse.proofs.Failing as failing
use Rattle.ame_parse.proofs.Faulty as faulty
use Rattle.ame_parse.proofs.laws.fault_is_expected.Goals as goal

pub returns : goal.returns
returns c text fault =
    (faulty.expected_is_read text fault (c.grammar_is_reading.ensures text), failing.fault_is_expected text fault (c.grammar_is_reading.ensures text))
