use Rattle.ame_shell.proofs.LowLemmas.{advanced-low, next-low, fed-low}
use Rattle.ame_certified.proofs.machines.machines_stay_low.Goals as goal

pub returns-clause-advances : goal.returns-clause-advances
returns-clause-advances c = advanced-low

pub returns-clause-next : goal.returns-clause-next
returns-clause-next c = next-low

pub returns-clause-fed : goal.returns-clause-fed
returns-clause-fed c = fed-low
