use Rattle.std.proofs.Common.{arith}
use Rattle.ame_views.proofs.BegunLemmas.{notes-begin, notes-then, keeps-itself, all-more}
use Rattle.ame_views.proofs.begun.note_begun.Goals as goal

pub loop-number-init : goal.loop-number-init
loop-number-init c = record {
  begun = notes-begin c.args.replay.now.members.entries c.args.begun.now.entries;
  keeps = keeps-itself c.args.begun.now.entries;
  all = λ i low high none. absurd (omega (arith, low, high));
}

pub loop-number-preserved : goal.loop-number-preserved
loop-number-preserved c = record {
  begun =
      notes-then c.args.replay.now.members.entries c.args.begun.now.entries c.loop-number.begun.entries c.note_one.new.begun.entries c.loop-number.invariant.begun
      c.in_ok-note_one.ensures.begun;
  keeps = λ i none. c.loop-number.invariant.keeps i (c.in_ok-note_one.ensures.keeps i none);
  all =
      all-more c.args.replay.now.members.entries c.args.first c.loop-number.number c.loop-number.begun.entries c.note_one.new.begun.entries c.loop-number.invariant.all
      c.in_ok-note_one.ensures.keeps c.in_ok-note_one.ensures.noted;
}

pub returns-clause-all : goal.returns-clause-all
returns-clause-all c = λ i low high. c.loop-number.invariant.all i low (omega (arith, high))
