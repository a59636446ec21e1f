use Rattle.std.proofs.Common.{◌≡◌, ◌+◌, inl, ℤ, Some, w64, to_z, of_z, subst, arith}
use Rattle.std.proofs.lemmas.Int.{ints, to_z-of_z}
use Rattle.ame_term.specs.Frame.{Side}
use Rattle.ame_term.specs.Tree.{Val}
use Rattle.ame_machine.specs.Move.{after_input}
use Rattle.ame_machine.specs.declared.wants.Wants.TheVariants as wants
use Rattle.ame_check.proofs.WantLemmas.{last-low}
use Rattle.ame_check.proofs.ReasonLemmas.{unanswered-met, unused-first}
use Rattle.ame_check.proofs.VisitLemmas.{unanswered, heard-left, heard, some-left, none-left}
use Rattle.ame_check.proofs.walk.Walk.hear.Goals as goal

pub returns-in_default-clause-halted : goal.returns-in_default-clause-halted
returns-in_default-clause-halted g c = λ s i cells overlay n a.
    let none = unanswered g.M.Runner.meaning c.args.self.now.code.now (g.met.M.Runner.sound c.args.self.now.code.now) s i c.args.self.now.entry.now.fresh cells overlay c.args.machine.now n a c.requires.wants c.args.self.now.entry.now.answer c.in_default.is in (
      last-low g.M.Runner.meaning c.args.self.now.code.now (g.met.M.Runner.sound c.args.self.now.code.now) s i c.args.self.now.entry.now.fresh cells overlay c.args.machine.now Side.Unprotected n a
          (wants.Device c.requires.wants.0 c.requires.wants.1) c.requires.wants.2 (λ e. cc),
      none.0,
      none.1,
      unanswered-met g.M.Runner.meaning c.args.self.now.code.now (g.met.M.Runner.sound c.args.self.now.code.now) s i c.args.self.now.entry.now.fresh cells overlay c.args.machine.now Side.Unprotected n a
          (n + 1) (omega arith) c.steps.result (c.steps.ensures c.args.self.now.code.now) c.requires.wants,
    )

pub returns-then-used-fresh-clause-halted : goal.returns-then-used-fresh-clause-halted
returns-then-used-fresh-clause-halted g c = λ s i cells overlay n a.
    let left = some-left g.M.Runner.meaning c.args.self.now.code.now (g.met.M.Runner.sound c.args.self.now.code.now) s i c.args.self.now.entry.now.fresh cells overlay c.args.machine.now n a
    c.as_slice-fresh.result.now c.fresh-used.result.now c.as_slice-fresh.ensures (c.fresh-used.ensures c.args.self.now.code.now) c.if-used-fresh.true in
    let none = heard-left g.M.Runner.meaning c.args.self.now.code.now (g.met.M.Runner.sound c.args.self.now.code.now) s i c.args.self.now.entry.now.fresh cells overlay c.args.machine.now n a c.requires.wants
    c.args.self.now.entry.now.answer c.in-Some.answer c.in-Some.is left.0 left.1 left.2 in (
      last-low g.M.Runner.meaning c.args.self.now.code.now (g.met.M.Runner.sound c.args.self.now.code.now) s i c.args.self.now.entry.now.fresh cells overlay c.args.machine.now Side.Unprotected n a
          (wants.Device c.requires.wants.0 c.requires.wants.1) c.requires.wants.2 (λ e. cc),
      none.0,
      none.1,
      unused-first g.M.Runner.meaning c.args.self.now.code.now (g.met.M.Runner.sound c.args.self.now.code.now) s i c.args.self.now.entry.now.fresh cells overlay c.args.machine.now Side.Unprotected n a
          (n + 1) (omega arith) c.steps-then-used-fresh.result (c.steps-then-used-fresh.ensures c.args.self.now.code.now) (wants.Device c.requires.wants.0 c.requires.wants.1) c.requires.wants.2
          c.as_slice-fresh.result.now c.fresh-used.result.now c.as_slice-fresh.ensures (c.fresh-used.ensures c.args.self.now.code.now) c.if-used-fresh.true,
    )

pub returns-clause-made : goal.returns-clause-made
returns-clause-made g c = λ s i cells overlay n a.
    let same : to_z w64 (of_z w64 c.in-Some.answer) ≡ c.in-Some.answer = grind (arith, ints, to_z-of_z) in
    let before = g.M.Runner.meaning.stage c.args.self.now.code.now c.args.machine.now in (
      last-low g.M.Runner.meaning c.args.self.now.code.now (g.met.M.Runner.sound c.args.self.now.code.now) s i c.args.self.now.entry.now.fresh cells overlay c.args.machine.now Side.Unprotected n a
          (wants.Device c.requires.wants.0 c.requires.wants.1) c.requires.wants.2 (λ e. cc),
      inl (heard g.M.Runner.meaning c.args.self.now.code.now (g.met.M.Runner.sound c.args.self.now.code.now) s i c.args.self.now.entry.now.fresh cells overlay c.args.machine.now n a c.requires.wants
          c.args.self.now.entry.now.answer c.in-Some.answer c.in-Some.is
          (none-left g.M.Runner.meaning c.args.self.now.code.now (g.met.M.Runner.sound c.args.self.now.code.now) s i c.args.self.now.entry.now.fresh cells overlay c.args.machine.now n a
          c.as_slice-fresh.result.now c.fresh-used.result.now c.as_slice-fresh.ensures (c.fresh-used.ensures c.args.self.now.code.now) c.if-used-fresh.false)
          c.feed.new.self c.feed.ensures.machine
          (subst (λ (x : ℤ). after_input before.want (Val.Int x) before ≡ Some (g.M.Runner.meaning.stage c.args.self.now.code.now c.feed.new.self)) same c.feed.ensures.stage)),
    )
