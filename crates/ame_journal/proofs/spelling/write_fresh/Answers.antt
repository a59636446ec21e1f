use Rattle.std.proofs.Common.{◌∙◌, ap, ◌++◌, decimal, arith}
use Rattle.ame_journal.specs.Lines.{part_of}
use Rattle.ame_journal.proofs.SpellingLemmas.{fresh-more, small-more}
use Rattle.ame_journal.proofs.spelling.write_fresh.Goals as goal

pub loop-location-preserved : goal.loop-location-preserved
loop-location-preserved c =
    let i = c.loop-location.location-index in
    let locs = c.args.fresh.now in
    let is = c.in_ok-write_number.ensures.written in
    let number = c.from.ensures in
    let text = c.loop-location.text.items in (
      fresh-more c.args.text.now.items text _ locs i (record { 0 = 0 }) (omega arith) c.loop-location.invariant.0 (is ∙ ap (λ n. text ++ part_of (decimal n)) number),
      small-more locs i (record { 0 = 0 }) (omega arith) c.loop-location.invariant.1 (omega arith),
    )
