use Rattle.std.proofs.Common.{arith}
use Rattle.ame_app.specs.Calls.{what_is_given, call_of}
use Rattle.ame_app.proofs.AskedLemmas.{err-so, untaken-refused}
use Rattle.ame_app.proofs.asked.taken_of.Goals as goal

pub returns-clause-refused : goal.returns-clause-refused
returns-clause-refused g c =
    let old = what_is_given g.S.Source.left g.S.Source.faults c.args.source.now in
    let new = what_is_given g.S.Source.left g.S.Source.faults c.bytes_of.new.source in
    let bytes = c.in_ok-bytes.bytes in
    let most = c.in_ok-bytes.ensures.most in
    let len = bytes.ok.0 in
    err-so c.take.result _ _ (λ status untaken. λ words devices spelled.
    untaken-refused c.spells_one_command.ensures (call_of words old new devices) c.args.command.now bytes.items status
    spelled c.in_ok-bytes.ensures.input (omega (arith, most, len)) untaken) c.take.ensures.declines
