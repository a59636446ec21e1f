use Rattle.std.proofs.Common.{ℕ, List, arith, subst}
use Rattle.ame_cli.specs.declared.command.Command.{Command}
use Rattle.ame_app.specs.Jobs.{IsUntaken}
use Rattle.ame_app.proofs.AskedLemmas.{err-so, bytes-untaken, bytes-long, bytes-lack}
use Rattle.ame_app.proofs.asked.taken_from.Goals as goal

pub returns-then-bytes-gt-READ_LIMIT-clause-refused : goal.returns-then-bytes-gt-READ_LIMIT-clause-refused
returns-then-bytes-gt-READ_LIMIT-clause-refused c = λ call devices of.
    let long = c.if-bytes-gt-READ_LIMIT.true in
    bytes-long c.args.command c.args.bytes.now devices call of (omega (arith, long))

pub returns-in_default-clause-refused : goal.returns-in_default-clause-refused
returns-in_default-clause-refused c = λ call devices of. bytes-lack c.args.command c.args.bytes.now devices call of c.spells_one_command.ensures

pub returns-clause-refused : goal.returns-clause-refused
returns-clause-refused c =
    let short = c.if-bytes-gt-READ_LIMIT.false in
    err-so c.take.result _ _ (λ status untaken. λ call devices of.
    bytes-untaken c.args.command c.args.bytes.now devices call of c.spells_one_command.ensures (omega (arith, short)) status
    (subst (λ (k : Command). IsUntaken k c.args.bytes.now status) c.command.ensures
    (subst (λ (l : List ℕ). IsUntaken c.command.result l status) c.in-Ok.ensures.items untaken))) c.take.ensures.declines
