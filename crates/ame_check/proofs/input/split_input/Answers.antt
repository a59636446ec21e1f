use Rattle.std.proofs.Common.{refl}
use Rattle.ame_check.proofs.InputLemmas.{none-at_front, none-further, none-anywhere}
use Rattle.ame_check.proofs.input.split_input.Goals as goal

pub loop-at-init : goal.loop-at-init
loop-at-init c = none-at_front c.args.bytes.now

pub returns-then-has_line : goal.returns-then-has_line
returns-then-has_line c = record { line = c.if-has_line.ensures.yes refl; first = c.loop-at.invariant; behind = refl }

pub loop-at-preserved : goal.loop-at-preserved
loop-at-preserved c = none-further c.args.bytes.now c.loop-at.at c.loop-at.invariant (c.if-has_line.ensures.no refl)

pub returns : goal.returns
returns c = none-anywhere c.args.bytes.now c.loop-at.at c.loop-at-test.false c.loop-at.invariant
