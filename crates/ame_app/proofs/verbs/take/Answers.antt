use Rattle.std.proofs.Common.{IfOk, sym, subst}
use Rattle.ame_cli.specs.declared.command.Command.{Command}
use Rattle.ame_app.specs.Verbs.{TakesInput}
use Rattle.ame_app.proofs.verbs.take.Goals as goal

pub returns-in-Bench-clause-takes : goal.returns-in-Bench-clause-takes
returns-in-Bench-clause-takes c =
    subst (λ (k : Command). IfOk c.take.result (λ taken. TakesInput k c.args.bytes.items taken.front taken.text.items))
    (sym c.in-Bench.is) c.take.ensures.takes
