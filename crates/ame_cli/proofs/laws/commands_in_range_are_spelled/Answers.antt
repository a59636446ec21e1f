use Rattle.ame_cli.proofs.RangeLemmas.{ranged_is_spelled}
use Rattle.ame_cli.proofs.SpellingLemmas.{spelled_in_range}
use Rattle.ame_cli.proofs.laws.commands_in_range_are_spelled.Goals as goal

pub returns : goal.returns
returns c = record { spelled = ranged_is_spelled; ranges = spelled_in_range }
