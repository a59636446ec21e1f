use Rattle.std.proofs.Common.{◌≡◌, None, Err, ap, subst, sym}
use Rattle.ame_print.specs.Printer.{spelling_of}
use Rattle.ame_weak.specs.Weak.{Weak, weak_run}
use Rattle.ame_labels.specs.WeakOrder.{TellsOrder}
use Rattle.ame_labels.proofs.weak_order.weak_order_of.Goals as goal

pub returns-in-Ok-clause-told : goal.returns-in-Ok-clause-told
returns-in-Ok-clause-told c =
    subst (λ (w : Weak). TellsOrder (spelling_of c.args.program.names.items) c.args.numbers.items w c.args.tries.now c.args.labels.now c.into_bytes.result.items)
    c.in_ok-start.ensures
    (subst (TellsOrder (spelling_of c.args.program.names.items) c.args.numbers.items _ c.args.tries.now c.args.labels.now) (sym c.into_bytes.ensures)
    c.in-Ok.ensures.told)

pub returns-in-Err-Illegal-clause-illegal : goal.returns-in-Err-Illegal-clause-illegal
returns-in-Err-Illegal-clause-illegal c =
    subst (λ (w : Weak). weak_run w c.args.labels.now ≡ None) c.in_ok-start.ensures (c.in-Err-Illegal.ensures.illegal (ap Err c.in-Err-Illegal.field-0-is))
