use Rattle.std.proofs.Common.{rules}
use Rattle.ame_term.specs.View.{tree_of}
use Rattle.ame_weak.specs.View.{weak_of}
use Rattle.ame_runner.proofs.PlayLemmas.{played-begun}
use Rattle.ame_runner.proofs.play.Play.start.Goals as goal

pub returns-clause-played : goal.returns-clause-played
returns-clause-played c = played-begun (tree_of c.args.accepted.now.program.term) c.new.result.items (weak_of c.in_ok-start.field-0) c.new.ensures.items (search rules)
