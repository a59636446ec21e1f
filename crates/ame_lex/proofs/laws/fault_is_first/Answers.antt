use Rattle.ame_lex.proofs.FirstFaults.{tokens_before, bad_byte_alone, fault_stays}
use Rattle.ame_lex.proofs.laws.fault_is_first.Goals as goal

pub returns-clause-before : goal.returns-clause-before
returns-clause-before c = tokens_before

pub returns-clause-bad_byte : goal.returns-clause-bad_byte
returns-clause-bad_byte c = bad_byte_alone

pub returns-clause-stays : goal.returns-clause-stays
returns-clause-stays c = fault_stays
