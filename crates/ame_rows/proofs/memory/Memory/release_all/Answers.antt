use Rattle.std.proofs.Common.{map, sym, subst}
use Rattle.ame_rows.specs.MemoryView.{no_log}
use Rattle.ame_rows.specs.Consistent.{IsConsistent}
use Rattle.ame_rows.specs.LettingGo.{released_by}
use Rattle.ame_rows.proofs.LettingGoLemmas.{kept_released}
use Rattle.ame_rows.proofs.FieldLemmas.{opened, kept_in, log_in, seen}
use Rattle.ame_rows.proofs.memory.Memory.release_all.Goals as goal

pub release_all-requires-clause-log : goal.release_all-requires-clause-log
release_all-requires-clause-log g c =
    let o = opened c.self.inside.store c.self.inside.rows.items c.self.view_is c.self.invariant c.requires.seat c.index_mut-row.ensures.value in
    log_in o

pub invariant_of-self : goal.invariant_of-self
invariant_of-self g c =
    let o = opened c.self.inside.store c.self.inside.rows.items c.self.view_is c.self.invariant c.requires.seat c.index_mut-row.ensures.value in
    subst IsConsistent (sym (seen o c.release_all.new.store c.release_all.new.row
    (λ cells _. map (released_by c.args.seat) cells) (λ _ _. no_log)
    c.release_all.ensures.cells c.release_all.ensures.notes))
    (kept_released c.args.self.now c.args.seat (kept_in o) c.requires.seat)

pub returns : goal.returns
returns g c =
    let o = opened c.self.inside.store c.self.inside.rows.items c.self.view_is c.self.invariant c.requires.seat c.index_mut-row.ensures.value in
    seen o c.release_all.new.store c.release_all.new.row
    (λ cells _. map (released_by c.args.seat) cells) (λ _ _. no_log)
    c.release_all.ensures.cells c.release_all.ensures.notes
