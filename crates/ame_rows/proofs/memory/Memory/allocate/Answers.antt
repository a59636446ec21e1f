use Rattle.std.proofs.Common.{◌∷◌, ◌++◌, [], Some, sym, subst}
use Rattle.ame_store.specs.Changes.{made}
use Rattle.ame_rows.specs.Consistent.{IsConsistent}
use Rattle.ame_rows.specs.Access.{next_place, notes_allocated}
use Rattle.ame_rows.proofs.AccessLemmas.{kept_allocated}
use Rattle.ame_rows.proofs.FieldLemmas.{opened, on_err, kept_in, seen, seen_as_before}
use Rattle.ame_rows.proofs.memory.Memory.allocate.Goals as goal

pub invariant_of-self : goal.invariant_of-self
invariant_of-self g c =
    let o = opened c.self.inside.store c.self.inside.rows.items c.self.view_is c.self.invariant c.requires.seat c.index_mut-row.ensures.value in
    subst IsConsistent (sym (seen_as_before o c.allocate.new.store c.allocate.new.row c.in_err-l.ensures.err_cells c.in_err-l.ensures.err_notes))
    (kept_in o)

pub returns-in_err-l-clause-err : goal.returns-in_err-l-clause-err
returns-in_err-l-clause-err g c =
    let o = opened c.self.inside.store c.self.inside.rows.items c.self.view_is c.self.invariant c.requires.seat c.index_mut-row.ensures.value in
    on_err _ c.from_residual.result
    (seen_as_before o c.allocate.new.store c.allocate.new.row c.in_err-l.ensures.err_cells c.in_err-l.ensures.err_notes)

pub invariant_of-self-2 : goal.invariant_of-self-2
invariant_of-self-2 g c =
    let o = opened c.self.inside.store c.self.inside.rows.items c.self.view_is c.self.invariant c.requires.seat c.index_mut-row.ensures.value in
    subst IsConsistent (sym (seen o c.allocate.new.store c.allocate.new.row
    (λ cells _. cells ++ made c.args.sort c.args.ty c.args.value (Some c.args.seat) ∷ [])
    (λ cells notes. notes_allocated (next_place cells) c.args.input.now notes)
    c.in_ok-l.ensures.cells c.in_ok-l.ensures.notes))
    (kept_allocated c.args.self.now c.args.seat c.args.sort c.args.ty c.args.value c.args.input.now
    (kept_in o) c.requires.seat)

pub returns-clause-contents : goal.returns-clause-contents
returns-clause-contents g c =
    let o = opened c.self.inside.store c.self.inside.rows.items c.self.view_is c.self.invariant c.requires.seat c.index_mut-row.ensures.value in
    seen o c.allocate.new.store c.allocate.new.row
    (λ cells _. cells ++ made c.args.sort c.args.ty c.args.value (Some c.args.seat) ∷ [])
    (λ cells notes. notes_allocated (next_place cells) c.args.input.now notes)
    c.in_ok-l.ensures.cells c.in_ok-l.ensures.notes
