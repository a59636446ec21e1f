use Rattle.std.proofs.Common.{sym, refl}
use Rattle.ame_pool.proofs.FindLemmas.{cleared}
use Rattle.ame_pool.proofs.IndexLemmas.{names_nobody}
use Rattle.ame_pool.proofs.pool.unlist.Goals as goal

pub returns-then-not-is_empty : goal.returns-then-not-is_empty
returns-then-not-is_empty g c =
    cleared c.requires.watched c.args.number c.member.result.now (sym c.member.ensures) c.untouched.result.now c.untouched.ensures c.unwatch.ensures

pub returns-else-not-is_empty : goal.returns-else-not-is_empty
returns-else-not-is_empty g c =
    record { here = λ k. names_nobody c.args.index.now (c.is_empty.ensures.0 c.if-not-is_empty.false) k c.args.number; others = λ _ _ _. refl }
