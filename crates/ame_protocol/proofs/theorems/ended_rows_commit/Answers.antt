use Rattle.ame_protocol.proofs.Row.WholeLemmas.{commit-ended}
use Rattle.ame_protocol.proofs.theorems.ended_rows_commit.Goals as goal

pub returns : goal.returns
returns c = commit-ended
