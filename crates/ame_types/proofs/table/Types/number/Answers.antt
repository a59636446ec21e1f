use Rattle.std.proofs.Common.{Some, ap, sym, ◌∙◌}
use Rattle.ame_types.specs.contracts.shared_type.KeyPartialEq.TheImpl as key_test
use Rattle.ame_types.proofs.SharedLemmas.{inserted, key_same}
use Rattle.ame_types.proofs.table.Types.number.Goals as goal

pub returns-clause-stays : goal.returns-clause-stays
returns-clause-stays c = inserted (key_test.ghosts.eq c.args.key) _ _ c.args.key c.in_ok-number.ensures.keys

pub returns-clause-listed : goal.returns-clause-listed
returns-clause-listed c = let s = c.in_ok-number.ensures.stored in s.1 ∙ ap Some (sym (key_same _ _ s.2))
