use Rattle.std.proofs.Common.{sym, subst, ◌∙◌}
use Rattle.ame_rows.specs.Entries.{IsLogOf}
use Rattle.ame_rows.proofs.LogLemmas.{last_cell}
use Rattle.ame_rows.proofs.LettingGoLemmas.{cells_undone_is}
use Rattle.ame_rows.proofs.letting_go.undo_last.Goals as goal

pub undo-requires-clause-fits : goal.undo-requires-clause-fits
undo-requires-clause-fits g c =
    let whole = subst (IsLogOf c.args.seat c.args.store.now) c.in-Some.ensures.last c.requires.log in
    let cell = last_cell c.args.seat c.args.store.now c.pop_undo.new.self.undos c.in-Some.entry whole in
    rw cell.1 cell.2

pub returns-clause-cells : goal.returns-clause-cells
returns-clause-cells g c =
    c.undo.ensures ∙ sym (cells_undone_is c.args.row.now.undos c.pop_undo.new.self.undos c.in-Some.entry c.args.store.now c.in-Some.ensures.last)
