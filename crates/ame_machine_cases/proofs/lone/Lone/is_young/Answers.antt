use Rattle.std.proofs.Common.{arith}
use borrow.Author.Rules.{rules}
use Rattle.std.proofs.lemmas.Bool.Decides.{nat_tests}
use Rattle.ame_machine_cases.proofs.lone.Lone.is_young.Goals as goal

pub returns : goal.returns
returns c = λ code is. let e = c.steps.ensures code in first_of (omega arith, grind (arith, nat_tests), search rules)
