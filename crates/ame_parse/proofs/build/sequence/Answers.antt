use Rattle.ame_parse.proofs.TreeLemmas.{tree_of_do}
use Rattle.ame_parse.proofs.build.sequence.Goals as goal

pub returns : goal.returns
returns c = tree_of_do c.args.parts
