use Rattle.std.proofs.Common.{◌≡◌, ◌<◌, ◌^◌, true, sym, ◌∙◌, arith}
use Rattle.ame_cli.specs.Numbers.{is_number}
use Rattle.ame_cli.proofs.NumberLemmas.{none_within}
use Rattle.ame_cli.proofs.numbers.number_within.Goals as goal

pub returns-in_default-3 : goal.returns-in_default-3
returns-in_default-3 c =
    let digits : is_number c.args.word.now ≡ true = sym c.is_number.ensures ∙ c.if-not-is_number.false in
    let small : c.args.bounds.most < 2 ^ 32 = omega arith in
    none_within c.args.word.now c.args.bounds digits small c.in_default.ensures.value.0
