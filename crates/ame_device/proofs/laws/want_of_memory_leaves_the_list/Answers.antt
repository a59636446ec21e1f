use Rattle.ame_device.proofs.ListLemmas.{wanting-leaves}
use Rattle.ame_device.proofs.laws.want_of_memory_leaves_the_list.Goals as goal

pub returns : goal.returns
returns c = wanting-leaves
