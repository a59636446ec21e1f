use Rattle.std.proofs.Common.{◌+◌, inr, sym, ◌∙◌, arith}
use Rattle.ame_term.specs.Frame.{Side}
use Rattle.ame_machine.specs.declared.wants.Wants.TheVariants as wants
use Rattle.ame_check.proofs.RanEntries.{quiet-of, told-of}
use Rattle.ame_check.proofs.WantLemmas.{last-low}
use Rattle.ame_check.proofs.ReasonLemmas.{unused-first}
use Rattle.ame_check.proofs.VisitLemmas.{close-answered, close-left, has-closed_so, some-left, none-left}
use Rattle.ame_check.proofs.walk.Walk.close.Goals as goal

pub returns-then-is_some-clause-halted : goal.returns-then-is_some-clause-halted
returns-then-is_some-clause-halted g c = λ s i cells overlay n a.
    let answered = sym c.is_some.ensures ∙ c.if-is_some.true in
    let x = told-of c.args.self.now.entry.now.answer answered in
    let none = close-answered g.M.Runner.meaning c.args.self.now.code.now (g.met.M.Runner.sound c.args.self.now.code.now) s i c.args.self.now.entry.now.fresh cells overlay c.args.machine.now n a c.requires.wants c.args.self.now.entry.now.answer x.0 x.1 in (
      last-low g.M.Runner.meaning c.args.self.now.code.now (g.met.M.Runner.sound c.args.self.now.code.now) s i c.args.self.now.entry.now.fresh cells overlay c.args.machine.now Side.Unprotected n a
          wants.Close c.requires.wants (λ e. cc),
      none.0,
      none.1,
      answered,
    )

pub returns-then-used-fresh-clause-halted : goal.returns-then-used-fresh-clause-halted
returns-then-used-fresh-clause-halted g c = λ s i cells overlay n a.
    let left = some-left g.M.Runner.meaning c.args.self.now.code.now (g.met.M.Runner.sound c.args.self.now.code.now) s i c.args.self.now.entry.now.fresh cells overlay c.args.machine.now n a
    c.as_slice-fresh.result.now c.fresh-used.result.now c.as_slice-fresh.ensures (c.fresh-used.ensures c.args.self.now.code.now) c.if-used-fresh.true in
    let none = close-left g.M.Runner.meaning c.args.self.now.code.now (g.met.M.Runner.sound c.args.self.now.code.now) s i c.args.self.now.entry.now.fresh cells overlay c.args.machine.now n a c.requires.wants
    c.args.self.now.entry.now.answer (quiet-of c.args.self.now.entry.now.answer (sym c.is_some.ensures ∙ c.if-is_some.false)) left.0 left.1 left.2 in (
      last-low g.M.Runner.meaning c.args.self.now.code.now (g.met.M.Runner.sound c.args.self.now.code.now) s i c.args.self.now.entry.now.fresh cells overlay c.args.machine.now Side.Unprotected n a
          wants.Close c.requires.wants (λ e. cc),
      none.0,
      none.1,
      unused-first g.M.Runner.meaning c.args.self.now.code.now (g.met.M.Runner.sound c.args.self.now.code.now) s i c.args.self.now.entry.now.fresh cells overlay c.args.machine.now Side.Unprotected n a
          (n + 1) (omega arith) c.steps.result (c.steps.ensures c.args.self.now.code.now) wants.Close c.requires.wants
          c.as_slice-fresh.result.now c.fresh-used.result.now c.as_slice-fresh.ensures (c.fresh-used.ensures c.args.self.now.code.now) c.if-used-fresh.true,
    )

pub returns-clause-made : goal.returns-clause-made
returns-clause-made g c = λ s i cells overlay n a.
    let h =
    has-closed_so g.M.Runner.meaning c.args.self.now.code.now (g.met.M.Runner.sound c.args.self.now.code.now) s i c.args.self.now.entry.now.fresh cells overlay c.args.machine.now n a c.requires.wants
    c.args.self.now.entry.now.answer (quiet-of c.args.self.now.entry.now.answer (sym c.is_some.ensures ∙ c.if-is_some.false))
    (none-left g.M.Runner.meaning c.args.self.now.code.now (g.met.M.Runner.sound c.args.self.now.code.now) s i c.args.self.now.entry.now.fresh cells overlay c.args.machine.now n a
    c.as_slice-fresh.result.now c.fresh-used.result.now c.as_slice-fresh.ensures (c.fresh-used.ensures c.args.self.now.code.now) c.if-used-fresh.false)
    c.feed.new.self c.feed.ensures.machine c.feed.ensures.stage in (
      last-low g.M.Runner.meaning c.args.self.now.code.now (g.met.M.Runner.sound c.args.self.now.code.now) s i c.args.self.now.entry.now.fresh cells overlay c.args.machine.now Side.Unprotected n a
          wants.Close c.requires.wants (λ e. cc),
      inr (h.0, h.1),
    )
