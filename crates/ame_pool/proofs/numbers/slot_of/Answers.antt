use Rattle.std.proofs.Common.{sym}
use Rattle.ame_pool.proofs.EntryLemmas.{at_entry, at_gap}
use Rattle.ame_pool.proofs.numbers.slot_of.Goals as goal

pub returns-in-Ok : goal.returns-in-Ok
returns-in-Ok c = sym (at_entry c.args.numbers.now c.requires (record { number = c.args.number; key = 0 }) c.in-Ok.place _ c.in-Ok.ensures.found).0

pub returns-in-Err : goal.returns-in-Err
returns-in-Err c = sym (at_gap c.args.numbers.now (record { number = c.args.number; key = 0 }) c.in-Err.field-0 c.in-Err.ensures.absent).0
