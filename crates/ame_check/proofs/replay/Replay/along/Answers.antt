use Rattle.std.proofs.Common.{◌+◌, ap, take, sym, subst, ℕ}
use Rattle.ame_check.specs.Judge.{IsHalted}
use Rattle.ame_check.proofs.JudgeLemmas.{halted-so, made-so, low-so, whole-so, all-low}
use Rattle.ame_check.proofs.replay.Replay.along.Goals as goal

pub returns-in-Err-clause-halted : goal.returns-in-Err-clause-halted
returns-in-Err-clause-halted g c =
    subst (IsHalted (g.M.Runner.meaning.program c.args.code.now) c.args.entries.now) (sym c.at.ensures)
    (halted-so g.M.Runner.meaning c.args.code.now c.args.entries.now c.loop-entry.entry-index c.loop-entry.place c.loop-entry.invariant.0 _ c.loop-entry.invariant.1
    c.loop-entry-test.true c.entry-item.result c.entry-item.is c.loop-entry.invariant.2 c.in-Err.error
    (c.in-Err.ensures.halted (take c.loop-entry.entry-index c.args.entries.now) c.loop-entry.invariant.1))

pub loop-entry-preserved : goal.loop-entry-preserved
loop-entry-preserved g c =
    let made = c.in_default.ensures.made (take c.loop-entry.entry-index c.args.entries.now) c.loop-entry.invariant.1 in (
      ap (λ (n : ℕ). n + 1) c.loop-entry.invariant.0,
      made-so g.M.Runner.meaning c.args.code.now c.args.entries.now c.loop-entry.entry-index c.loop-entry.place c.loop-entry.invariant.0 _ c.loop-entry.invariant.1
          c.loop-entry-test.true c.entry-item.result c.entry-item.is
          (record { cells = c.make.new.self.cells.entries; members = c.make.new.self.members.entries; output = c.make.new.self.output.items; next = c.make.new.self.next }) made.1,
      low-so g.M.Runner.meaning c.args.code.now c.args.entries.now c.loop-entry.entry-index c.loop-entry.place c.loop-entry.invariant.0 _ c.loop-entry.invariant.1
          c.loop-entry-test.true c.entry-item.result c.entry-item.is c.loop-entry.invariant.2 made.0,
    )

pub returns-clause-led : goal.returns-clause-led
returns-clause-led g c = whole-so g.M.Runner.meaning c.args.code.now c.args.entries.now c.loop-entry.entry-index _ c.loop-entry.invariant.1 c.loop-entry-test.false

pub returns-clause-low : goal.returns-clause-low
returns-clause-low g c = all-low (g.M.Runner.meaning.program c.args.code.now) c.args.entries.now c.loop-entry.entry-index c.loop-entry.invariant.2 c.loop-entry-test.false
