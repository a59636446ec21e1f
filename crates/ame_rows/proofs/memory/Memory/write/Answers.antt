use Rattle.std.proofs.Common.{sym, subst}
use Rattle.ame_rows.specs.Consistent.{IsConsistent}
use Rattle.ame_rows.specs.Access.{changed_at, overwritten, notes_written}
use Rattle.ame_rows.proofs.LookupLemmas.{get_there}
use Rattle.ame_rows.proofs.AccessLemmas.{kept_written}
use Rattle.ame_rows.proofs.FieldLemmas.{opened, on_err, kept_in, seen, seen_as_before}
use Rattle.ame_rows.proofs.memory.Memory.write.Goals as goal

pub invariant_of-self : goal.invariant_of-self
invariant_of-self g c =
    let o = opened c.self.inside.store c.self.inside.rows.items c.self.view_is c.self.invariant c.requires.seat c.index_mut-row.ensures.value in
    subst IsConsistent (sym (seen_as_before o c.write.new.store c.write.new.row c.in_err-write.ensures.err_cells c.in_err-write.ensures.err_notes))
    (kept_in o)

pub returns-in_err-write-clause-err : goal.returns-in_err-write-clause-err
returns-in_err-write-clause-err g c =
    let o = opened c.self.inside.store c.self.inside.rows.items c.self.view_is c.self.invariant c.requires.seat c.index_mut-row.ensures.value in
    on_err _ c.from_residual.result
    (seen_as_before o c.write.new.store c.write.new.row c.in_err-write.ensures.err_cells c.in_err-write.ensures.err_notes)

pub invariant_of-self-2 : goal.invariant_of-self-2
invariant_of-self-2 g c =
    let o = opened c.self.inside.store c.self.inside.rows.items c.self.view_is c.self.invariant c.requires.seat c.index_mut-row.ensures.value in
    let there = get_there c.args.self.now.cells c.args.l.0 c.requires.location in
    subst IsConsistent (sym (seen o c.write.new.store c.write.new.row
    (λ cells _. changed_at c.args.l.0 (λ cell. overwritten c.args.seat c.args.value cell.owner cell) cells)
    (λ cells notes. notes_written c.args.seat c.args.l c.args.input.now cells notes)
    c.in_ok-write.ensures.cells c.in_ok-write.ensures.notes))
    (kept_written c.args.self.now
    (kept_in o) c.args.seat c.args.l c.args.value c.args.input.now there.0 there.1 c.requires.seat)

pub returns-clause-contents : goal.returns-clause-contents
returns-clause-contents g c =
    let o = opened c.self.inside.store c.self.inside.rows.items c.self.view_is c.self.invariant c.requires.seat c.index_mut-row.ensures.value in
    seen o c.write.new.store c.write.new.row
    (λ cells _. changed_at c.args.l.0 (λ cell. overwritten c.args.seat c.args.value cell.owner cell) cells)
    (λ cells notes. notes_written c.args.seat c.args.l c.args.input.now cells notes)
    c.in_ok-write.ensures.cells c.in_ok-write.ensures.notes
