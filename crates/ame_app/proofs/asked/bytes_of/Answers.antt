use Rattle.std.proofs.Common.{sym, ◌∙◌}
use Rattle.ame_app.specs.Calls.{what_is_given}
use Rattle.ame_app.proofs.AskedLemmas.{err-weaker, source-refused}
use Rattle.ame_app.proofs.asked.bytes_of.Goals as goal

pub returns-in_err-read_all-clause-refused : goal.returns-in_err-read_all-clause-refused
returns-in_err-read_all-clause-refused g c =
    let old = what_is_given g.S.Source.left g.S.Source.faults c.args.source.now in
    let new = what_is_given g.S.Source.left g.S.Source.faults c.read_all.new.source in
    let reads = sym c.reads_source.ensures ∙ c.if-reads_source.true in
    err-weaker c.from_residual.result _ _ (λ status e. λ words devices spelled.
    source-refused words old new devices c.args.command.now spelled reads c.spells_one_command.ensures c.in_err-read_all.field-0.0 status e
    c.in_err-read_all.ensures.left c.in_err-read_all.ensures.faults) c.from_residual.ensures.1
