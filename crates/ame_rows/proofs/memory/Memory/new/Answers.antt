use Rattle.std.proofs.Common.{sym, subst}
use Rattle.ame_rows.specs.MemoryView.{MemoryView}
use Rattle.ame_rows.specs.Consistent.{IsConsistent}
use Rattle.ame_rows.proofs.KeptLemmas.{kept_new}
use Rattle.ame_rows.proofs.memory.Memory.new.Goals as goal

pub invariant_of-result : goal.invariant_of-result
invariant_of-result g c =
    subst (λ rows. let x : MemoryView g.row.V.Denot = record { cells = c.args.store; rows = rows } in IsConsistent x) (sym c.in_ok-rows.ensures)
    (kept_new c.args.store c.args.seats c.requires)
