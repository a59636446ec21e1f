use Rattle.std.proofs.Common.{◌≡◌, ℕ, List, subst, OnOk}
use Rattle.ame_labels.proofs.OrderLemmas.{try_told}
use Rattle.ame_labels.proofs.weak_row.append_try.Goals as goal

pub returns : goal.returns
returns c =
    subst (λ (xs : List ℕ). OnOk c.add-3.result (c.add-3.new.self ≡ xs))
    (try_told c.args.entry c.args.t.now c.args.page.now c.add.new.self c.add_column.new.self c.add_column-2.new.self
    c.add-2.new.self c.add_number.new.self c.in_ok-add.ensures c.in_ok-add_column.ensures c.in_ok-add_column-2.ensures
    c.in_ok-add-2.ensures c.in_ok-add_number.ensures)
    c.add-3.ensures
