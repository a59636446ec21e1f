use Rattle.ame_gen.proofs.MoneyLemmas.{all-valid}
use Rattle.ame_gen.proofs.laws.transfers_are_valid.Goals as goal

pub returns : goal.returns
returns c = all-valid
