use Rattle.std.proofs.Common.{rules, ◌≡◌, [], ◌∷◌, ◌++◌, to_z, of_z, ap, ◌∙◌}
use Rattle.std.specs.Int.{w64, int_wrapping_add}
use Rattle.ame_device.specs.Calls.{answered, arguments}
use Rattle.ame_device.specs.Sums.{wrapping_sum}
use Rattle.ame_device.proofs.SumLemmas.{sum-more, sum-heard}
use Rattle.ame_device.proofs.adder.AdderDevice.call.Goals as goal

pub invariant_of-self : goal.invariant_of-self
invariant_of-self c =
    let sum = int_wrapping_add w64 c.self.inside.sum c.args.argument in
    let longer : c.answer.new.self.heard ≡ c.self.inside.log.heard ++ answered c.args.argument sum ∷ [] = search rules in
    sum-heard c.self.inside.log.heard c.answer.new.self.heard c.self.inside.sum c.args.argument sum c.self.invariant longer

pub returns-in-Ok-clause-answer : goal.returns-in-Ok-clause-answer
returns-in-Ok-clause-answer c =
    let is : to_z w64 (of_z w64 c.in-Ok.answer) ≡ int_wrapping_add w64 c.self.inside.sum c.args.argument = search rules in
    is ∙ sum-more c.self.inside.log.heard c.self.inside.sum c.args.argument c.self.invariant
    ∙ ap (λ device. wrapping_sum (arguments device.heard ++ c.args.argument ∷ [])) c.self.view_is

pub returns-in-Ok-clause-answers : goal.returns-in-Ok-clause-answers
returns-in-Ok-clause-answers c = (search rules, returns-in-Ok-clause-answer c)
