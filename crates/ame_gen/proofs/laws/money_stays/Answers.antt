use Rattle.ame_gen.proofs.MoneyLemmas.{all-balances}
use Rattle.ame_gen.proofs.laws.money_stays.Goals as goal

pub returns : goal.returns
returns c = all-balances
