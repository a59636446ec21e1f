use Rattle.ame_protocol.proofs.Row.WholeLemmas.{commit-left}
use Rattle.ame_protocol.proofs.theorems.left_rows_commit.Goals as goal

pub returns : goal.returns
returns c = commit-left
