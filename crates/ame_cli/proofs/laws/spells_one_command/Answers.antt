use Rattle.ame_cli.proofs.SpellingLemmas.{spelled_once}
use Rattle.ame_cli.proofs.laws.spells_one_command.Goals as goal

pub returns : goal.returns
returns c = spelled_once
