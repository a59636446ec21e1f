use Rattle.ame_labels.proofs.LedgerLemmas.{ends-there}
use Rattle.ame_labels.proofs.entry_count.EntryCount.end.Goals as goal

pub returns : goal.returns
returns c = ends-there c.args.self.now c.add.new.self c.in_ok-add.ensures
