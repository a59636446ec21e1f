use Rattle.std.proofs.Common.{length, arith}
use Rattle.ame_parse.proofs.ReaderLemmas.{tokens_are_few}
use Rattle.ame_parse.proofs.Whole.{fault_answers, program_answers, program_is}
use Rattle.ame_parse.proofs.parser.parse.Goals as goal

pub new-reader-requires-clause-few : goal.new-reader-requires-clause-few
new-reader-requires-clause-few c =
    let few = tokens_are_few c.args.tokens.now 0 (length c.args.text.now) (c.tokens_lie_within.ensures.in_order c.args.text.now c.args.tokens.now c.requires.of_text) in
    omega (arith, few, c.requires.small)

pub returns-in-Err : goal.returns-in-Err
returns-in-Err c =
    record { exact = fault_answers c.args.text.now c.args.tokens.now c.new-reader.result c.in-Err.fault c.requires.of_text c.new-reader.ensures c.in-Err.ensures }

pub returns-in_ok-names-in-Ok : goal.returns-in_ok-names-in-Ok
returns-in_ok-names-in-Ok c = record {
  exact = rw (c.in_ok-names-in-Ok.ensures.0, c.in_ok-names-in-Ok.ensures.1, c.into_inner.ensures) (program_answers _ _ _ _ _ c.requires.of_text c.new-reader.ensures c.in-Ok.ensures);
}

pub invariant_of-result-clause-placed : goal.invariant_of-result-clause-placed
invariant_of-result-clause-placed c = rw (c.in_ok-names-in-Ok.ensures.1, c.into_inner.ensures) (program_is _ _ _ _ _ c.new-reader.ensures c.in-Ok.ensures).placed

pub invariant_of-result-clause-source : goal.invariant_of-result-clause-source
invariant_of-result-clause-source c = rw c.into_inner.ensures (program_is _ _ _ _ _ c.new-reader.ensures c.in-Ok.ensures).source

pub invariant_of-result-clause-bound : goal.invariant_of-result-clause-bound
invariant_of-result-clause-bound c = rw c.into_inner.ensures (program_is _ _ _ _ _ c.new-reader.ensures c.in-Ok.ensures).bound

pub invariant_of-result-clause-numbered : goal.invariant_of-result-clause-numbered
invariant_of-result-clause-numbered c = rw c.into_inner.ensures (program_is _ _ _ _ _ c.new-reader.ensures c.in-Ok.ensures).numbered
