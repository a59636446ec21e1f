use Rattle.std.proofs.Common.{All, sym, ap, subst}
use Rattle.ame_store.specs.Cells.{IsFree}
use Rattle.ame_rows.specs.Consistent.{IsConsistent}
use Rattle.ame_rows.specs.MemoryView.{MemoryView}
use Rattle.ame_rows.proofs.FieldLemmas.{all_free}
use Rattle.ame_rows.proofs.memory.Memory.into_cells.Goals as goal

pub returns-clause-free : goal.returns-clause-free
returns-clause-free g c = λ none.
    subst (All IsFree) (sym (ap (λ (x : MemoryView g.row.V.Denot). x.cells) c.self.view_is))
    (all_free c.args.self (subst IsConsistent c.self.view_is c.self.invariant) none)
