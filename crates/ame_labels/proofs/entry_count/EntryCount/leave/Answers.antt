use Rattle.ame_labels.proofs.LedgerLemmas.{leaves-there}
use Rattle.ame_labels.proofs.entry_count.EntryCount.leave.Goals as goal

pub returns : goal.returns
returns c = leaves-there c.args.self.now c.add.new.self c.insert.new.self c.in_ok-add.ensures c.in_ok-insert.ensures.updates.0
