use Rattle.ame_gen.proofs.MoneyLemmas.{paid-le-start}
use Rattle.ame_gen.proofs.laws.money_suffices.Goals as goal

pub returns : goal.returns
returns c = paid-le-start
