use Rattle.std.proofs.Common.{refl, sym, ap, subst, ◌∙◌, slice_get}
use Rattle.ame_rows.specs.MemoryView.{MemoryView, Log, row_at, by_seat}
use Rattle.ame_rows.specs.Consistent.{IsConsistent}
use Rattle.ame_rows.specs.Access.{notes_read}
use Rattle.ame_rows.proofs.LookupLemmas.{get_there, row_set_here}
use Rattle.ame_rows.proofs.AccessLemmas.{kept_read}
use Rattle.ame_rows.proofs.FieldLemmas.{opened, on_err, kept_in, seen, seen_as_before}
use Rattle.ame_rows.proofs.memory.Memory.read.Goals as goal

pub invariant_of-self : goal.invariant_of-self
invariant_of-self g c =
    let o = opened c.self.inside.store c.self.inside.rows.items c.self.view_is c.self.invariant c.requires.seat c.index_mut-row.ensures.value in
    subst IsConsistent (sym (seen_as_before o c.self.inside.store c.read.new.row refl c.in_err-value.ensures.err))
    (kept_in o)

pub returns-in_err-value-clause-err : goal.returns-in_err-value-clause-err
returns-in_err-value-clause-err g c =
    let o = opened c.self.inside.store c.self.inside.rows.items c.self.view_is c.self.invariant c.requires.seat c.index_mut-row.ensures.value in
    on_err _ c.from_residual.result
    (seen_as_before o c.self.inside.store c.read.new.row refl c.in_err-value.ensures.err)

pub invariant_of-self-2 : goal.invariant_of-self-2
invariant_of-self-2 g c =
    let o = opened c.self.inside.store c.self.inside.rows.items c.self.view_is c.self.invariant c.requires.seat c.index_mut-row.ensures.value in
    let there = get_there c.args.self.now.cells c.args.l.0 c.requires.location in
    let input = c.in_ok-value.ensures.notes.input in
    subst IsConsistent (sym (seen o c.self.inside.store c.read.new.row
    (λ cells _. cells) (λ cells notes. notes_read c.args.seat c.args.l input cells notes) refl c.in_ok-value.ensures.notes.becomes))
    (kept_read c.args.self.now c.args.seat c.args.l input there.0 (kept_in o) c.requires.seat there.1)

pub returns-clause-row : goal.returns-clause-row
returns-clause-row g c =
    let o = opened c.self.inside.store c.self.inside.rows.items c.self.view_is c.self.invariant c.requires.seat c.index_mut-row.ensures.value in
    let input = c.in_ok-value.ensures.notes.input in
    let is = seen o c.self.inside.store c.read.new.row
    (λ cells _. cells) (λ cells notes. notes_read c.args.seat c.args.l input cells notes) refl c.in_ok-value.ensures.notes.becomes in
    let here = ap (λ (x : MemoryView g.row.V.Denot). row_at x.rows c.args.seat) is
    ∙ row_set_here c.args.self.now.rows c.args.seat (notes_read c.args.seat c.args.l input c.args.self.now.cells
    (row_at c.args.self.now.rows c.args.seat)) c.requires.seat in
    record {
      input = input;
      copied = λ cell at. c.in_ok-value.ensures.notes.copied cell (ap (λ (x : MemoryView g.row.V.Denot). slice_get x.cells c.args.l.0) c.self.view_is ∙ at);
      becomes = here;
    }

pub returns-clause-others : goal.returns-clause-others
returns-clause-others g c =
    let o = opened c.self.inside.store c.self.inside.rows.items c.self.view_is c.self.invariant c.requires.seat c.index_mut-row.ensures.value in
    let input = c.in_ok-value.ensures.notes.input in
    let is = seen o c.self.inside.store c.read.new.row
    (λ cells _. cells) (λ cells notes. notes_read c.args.seat c.args.l input cells notes) refl c.in_ok-value.ensures.notes.becomes in
    let here = ap (λ (x : MemoryView g.row.V.Denot). row_at x.rows c.args.seat) is
    ∙ row_set_here c.args.self.now.rows c.args.seat (notes_read c.args.seat c.args.l input c.args.self.now.cells
    (row_at c.args.self.now.rows c.args.seat)) c.requires.seat in
    is ∙ ap (λ (n : Log g.row.V.Denot). by_seat c.args.seat c.args.self.now.cells n c.args.self.now) (sym here)
