use Rattle.std.proofs.Common.{◌∙◌, ap, arith}
use Rattle.ame_term.specs.Typing.{typing}
use Rattle.ame_text_cases.proofs.laws.text_is_accepted.Goals as goal

pub returns : goal.returns
returns c = record {
  short = λ seed size most. omega (arith, c.length_is_linear.ensures seed size most, most);
  accepted = λ seed size devices some most.
      let read = c.text_is_read.ensures.text seed size some most in (
        read.again,
        read.read,
        ap (typing devices read.again.places) read.tree ∙ c.workload_is_typed.ensures seed size devices read.again.places,
      );
}
