use Rattle.ame_check.proofs.WantLemmas.{write-absent, write-taken}
use Rattle.ame_check.proofs.walk.Walk.write.Goals as goal

pub returns-in_default-clause-halted : goal.returns-in_default-clause-halted
returns-in_default-clause-halted g c = λ s i side n a.
    absurd (write-absent g.M.Runner.meaning c.args.self.now.code.now (g.met.M.Runner.sound c.args.self.now.code.now) s i _ c.args.self.now.cells.now.entries c.args.overlay.now.entries c.args.machine.now side n a
    c.args.l c.requires.wants c.in_default.ensures)

pub returns-clause-made : goal.returns-clause-made
returns-clause-made g c = λ s i side n a.
    write-taken g.M.Runner.meaning c.args.self.now.code.now (g.met.M.Runner.sound c.args.self.now.code.now) s i _ c.args.self.now.cells.now.entries c.args.overlay.now.entries c.args.machine.now side n a
    c.args.l c.in-Some.cell.now c.wanted.result.now c.in_ok-value.value c.feed.new.self c.requires.wants c.in-Some.ensures c.wanted.ensures.stage
    (g.met.M.Runner.same_values c.args.self.now.code.now c.wanted.result.now c.in_ok-value.value c.in_ok-value.ensures c.wanted.ensures.value)
    (g.met.M.Runner.value_shown c.args.self.now.code.now c.wanted.result.now c.in_ok-value.value c.in_ok-value.ensures)
    c.feed.ensures.machine c.feed.ensures.stage c.insert.new.self.entries c.in_ok-insert.ensures.entries
