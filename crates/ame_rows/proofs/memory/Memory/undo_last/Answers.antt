use Rattle.std.proofs.Common.{◌<◌, ◌↔◌, IsTrue, length, sym, subst}
use Rattle.ame_rows.specs.Consistent.{IsConsistent}
use Rattle.ame_rows.specs.LettingGo.{cells_undone, notes_undone}
use Rattle.ame_rows.proofs.LettingGoLemmas.{kept_undone}
use Rattle.ame_rows.proofs.FieldLemmas.{opened, kept_in, log_in, told, seen}
use Rattle.ame_rows.proofs.memory.Memory.undo_last.Goals as goal

pub undo_last-requires-clause-log : goal.undo_last-requires-clause-log
undo_last-requires-clause-log g c =
    let o = opened c.self.inside.store c.self.inside.rows.items c.self.view_is c.self.invariant c.requires.seat c.index_mut-row.ensures.value in
    log_in o

pub invariant_of-self : goal.invariant_of-self
invariant_of-self g c =
    let o = opened c.self.inside.store c.self.inside.rows.items c.self.view_is c.self.invariant c.requires.seat c.index_mut-row.ensures.value in
    subst IsConsistent (sym (seen o c.undo_last.new.store c.undo_last.new.row
    (λ cells notes. cells_undone notes.undos cells) (λ _ notes. notes_undone notes)
    c.undo_last.ensures.cells c.undo_last.ensures.notes))
    (kept_undone c.args.self.now c.args.seat (kept_in o) c.requires.seat)

pub returns-clause-more : goal.returns-clause-more
returns-clause-more g c =
    let o = opened c.self.inside.store c.self.inside.rows.items c.self.view_is c.self.invariant c.requires.seat c.index_mut-row.ensures.value in
    told o (λ _ notes. IsTrue c.undo_last.result ↔ (1 < length notes.undos)) c.undo_last.ensures.more

pub returns-clause-contents : goal.returns-clause-contents
returns-clause-contents g c =
    let o = opened c.self.inside.store c.self.inside.rows.items c.self.view_is c.self.invariant c.requires.seat c.index_mut-row.ensures.value in
    seen o c.undo_last.new.store c.undo_last.new.row
    (λ cells notes. cells_undone notes.undos cells) (λ _ notes. notes_undone notes)
    c.undo_last.ensures.cells c.undo_last.ensures.notes
