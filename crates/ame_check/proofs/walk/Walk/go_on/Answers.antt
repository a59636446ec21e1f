use Rattle.std.proofs.Common.{inl, sym, ◌∙◌}
use Rattle.ame_term.specs.Frame.{Side}
use Rattle.ame_check.proofs.RanEntries.{quiet-of, told-of}
use Rattle.ame_check.proofs.VisitLemmas.{unheard, no-closing, plain-no_tall, plain-no_device, plain-no_close, stays-on, as-counted}
use Rattle.ame_check.proofs.WantLemmas.{last-low}
use Rattle.ame_check.proofs.StopLemmas.{err-as, last-stopped}
use Rattle.ame_check.proofs.walk.Walk.go_on.Goals as goal

pub returns-then-is_some-clause-halted : goal.returns-then-is_some-clause-halted
returns-then-is_some-clause-halted g c = λ s i n a.
    let answered = sym c.is_some.ensures ∙ c.if-is_some.true in
    let x = told-of c.args.self.now.entry.now.answer answered in
    let none = unheard g.M.Runner.meaning c.args.self.now.code.now (g.met.M.Runner.sound c.args.self.now.code.now) s i c.args.self.now.entry.now.fresh c.args.self.now.cells.now.entries c.args.overlay.now.entries c.args.machine.now n a c.args.want c.requires.told
    (plain-no_tall c.args.want c.requires.other) (plain-no_device c.args.want c.requires.other) c.args.self.now.entry.now.answer x.0 x.1 in (
      last-low g.M.Runner.meaning c.args.self.now.code.now (g.met.M.Runner.sound c.args.self.now.code.now) s i c.args.self.now.entry.now.fresh c.args.self.now.cells.now.entries c.args.overlay.now.entries c.args.machine.now Side.Unprotected n a
          c.args.want c.requires.told (plain-no_tall c.args.want c.requires.other),
      none.0,
      none.1,
      answered,
    )

pub returns-in_err-_next-clause-halted : goal.returns-in_err-_next-clause-halted
returns-in_err-_next-clause-halted g c =
    err-as c.from_residual.result c.in_err-_next.field-0.0 _ c.from_residual.ensures.1
    (λ s i n a. last-stopped s i c.args.self.now.entry.now.fresh n c.args.self.now.entry.now.steps
    (as-counted g.M.Runner.meaning c.args.self.now.code.now s i c.args.self.now.entry.now.fresh c.args.self.now.cells.now.entries c.args.overlay.now.entries c.args.machine.now n a c.args.self.now.entry.now.steps c.requires.count)
    c.args.self.now.entry.now.answer (quiet-of c.args.self.now.entry.now.answer (sym c.is_some.ensures ∙ c.if-is_some.false))
    (last-low g.M.Runner.meaning c.args.self.now.code.now (g.met.M.Runner.sound c.args.self.now.code.now) s i c.args.self.now.entry.now.fresh c.args.self.now.cells.now.entries c.args.overlay.now.entries c.args.machine.now Side.Unprotected n a
    c.args.want c.requires.told (plain-no_tall c.args.want c.requires.other))
    (no-closing g.M.Runner.meaning c.args.self.now.code.now (g.met.M.Runner.sound c.args.self.now.code.now) s i c.args.self.now.entry.now.fresh c.args.self.now.cells.now.entries c.args.overlay.now.entries c.args.machine.now n a c.args.want c.requires.told
    (plain-no_close c.args.want c.requires.other) c.args.self.now.entry.now.answer)
    c.in_err-_next.field-0.0 (c.in_err-_next.ensures.halted s i Side.Unprotected n a))

pub returns-clause-made : goal.returns-clause-made
returns-clause-made g c = λ s i n a.
    let whole = c.in_ok-_next.ensures.whole s i Side.Unprotected n a in (
      last-low g.M.Runner.meaning c.args.self.now.code.now (g.met.M.Runner.sound c.args.self.now.code.now) s i c.args.self.now.entry.now.fresh c.args.self.now.cells.now.entries c.args.overlay.now.entries c.args.machine.now Side.Unprotected n a
          c.args.want c.requires.told (plain-no_tall c.args.want c.requires.other),
      inl (stays-on g.M.Runner.meaning c.args.self.now.code.now s i c.args.self.now.entry.now.fresh c.args.self.now.cells.now.entries c.run.new.overlay.entries c.run.new.machine n c.args.self.now.entry.now.steps
          (as-counted g.M.Runner.meaning c.args.self.now.code.now s i c.args.self.now.entry.now.fresh c.args.self.now.cells.now.entries c.args.overlay.now.entries c.args.machine.now n a c.args.self.now.entry.now.steps c.requires.count)
          c.args.self.now.entry.now.answer (quiet-of c.args.self.now.entry.now.answer (sym c.is_some.ensures ∙ c.if-is_some.false)) whole.0 whole.1),
    )
