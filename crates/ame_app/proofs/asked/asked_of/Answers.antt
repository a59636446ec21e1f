use Rattle.std.proofs.Common.{Some, sym, ap, subst}
use Rattle.ame_cli.specs.declared.command.Command.{Command}
use Rattle.ame_cli.specs.Grammar.{SpellsCommand}
use Rattle.ame_app.specs.Calls.{Asks}
use Rattle.ame_app.proofs.AskedLemmas.{ok-so, err-so, untaken-refusal}
use Rattle.ame_app.proofs.asked.asked_of.Goals as goal

pub returns-in-Ok-clause-job : goal.returns-in-Ok-clause-job
returns-in-Ok-clause-job c =
    let taken = c.in-Ok.taken in
    ok-so c.job_of.result _ _ (λ asked job. λ call of. job call (subst (λ (k : Command). Asks call k taken.front taken.text.items) (sym c.command.ensures)
    (c.in-Ok.ensures.asks call c.args.devices of)) of.devices_are) c.job_of.ensures.job

pub returns-in-Ok-clause-refused : goal.returns-in-Ok-clause-refused
returns-in-Ok-clause-refused c =
    let taken = c.in-Ok.taken in
    err-so c.job_of.result _ _ (λ refusal refused. λ call of. refused call (subst (λ (k : Command). Asks call k taken.front taken.text.items) (sym c.command.ensures)
    (c.in-Ok.ensures.asks call c.args.devices of)) of.devices_are) c.job_of.ensures.refused

pub returns-in-Err-clause-refused : goal.returns-in-Err-clause-refused
returns-in-Err-clause-refused c = λ call of.
    let r = c.without_text.result in
    untaken-refusal call r.text.items r.command (Some c.command-in-Err.result) r.told c.in-Err.told c.without_text.ensures.text c.without_text.ensures.command
    c.without_text.ensures.told (c.in-Err.ensures.refused call c.args.devices of)
    (subst (λ (k : Command). SpellsCommand call.words k) (sym c.command-in-Err.ensures) of.spelled)
