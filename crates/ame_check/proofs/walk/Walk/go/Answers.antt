use Rattle.std.proofs.Common.{◌≡◌, sym, ◌∙◌, refl}
use Rattle.ame_check.proofs.StopLemmas.{err-as}
use Rattle.ame_check.proofs.WalkLemmas.{can-run, there, gone-advanced, whole-there, one-more, gone-taken, below-there, fewer-left}
use Rattle.ame_check.proofs.walk.Walk.go.Goals as goal

pub advance-requires-clause-machine : goal.advance-requires-clause-machine
advance-requires-clause-machine g c =
    (there g.M.Runner.meaning c.args.self.now.code.now c.args.self.now.entry.now.fresh c.args.self.now.cells.now.entries c.args.overlay.now.entries c.walk.overlay.entries c.args.machine.now c.walk.machine c.args.steps
    c.walk.invariant c.requires.walking.0 c.requires.walking.1 c.requires.walking.2).walking.machine

pub advance-requires-clause-runs : goal.advance-requires-clause-runs
advance-requires-clause-runs g c =
    can-run g.M.Runner.meaning c.args.self.now.code.now c.requires.walking.0 c.requires.walking.1 c.args.self.now.entry.now.fresh c.args.self.now.cells.now.entries c.walk.overlay.entries c.walk.machine
    (there g.M.Runner.meaning c.args.self.now.code.now c.args.self.now.entry.now.fresh c.args.self.now.cells.now.entries c.args.overlay.now.entries c.walk.overlay.entries c.args.machine.now c.walk.machine c.args.steps
    c.walk.invariant c.requires.walking.0 c.requires.walking.1 c.requires.walking.2).walking

pub returns-then-steps-clause-whole : goal.returns-then-steps-clause-whole
returns-then-steps-clause-whole g c = λ s i side n a. (
  whole-there g.M.Runner.meaning c.args.self.now.code.now c.args.self.now.entry.now.fresh c.args.self.now.cells.now.entries c.args.overlay.now.entries c.walk.overlay.entries c.args.machine.now c.advance.new.self c.args.steps
      (gone-advanced g.M.Runner.meaning c.args.self.now.code.now c.args.self.now.entry.now.fresh c.args.self.now.cells.now.entries c.args.overlay.now.entries c.walk.overlay.entries c.args.machine.now c.walk.machine c.args.steps
      c.walk.invariant c.advance.new.self _ c.steps.result (c.steps.ensures c.args.self.now.code.now) refl c.advance.ensures.machine c.advance.ensures.ran)
      s i side n (sym (c.steps-in-walk.ensures c.args.self.now.code.now) ∙ c.if-steps.true) a,
  c.in_ok-want.ensures.told,
)

pub take-requires-clause-walking : goal.take-requires-clause-walking
take-requires-clause-walking g c = (
  c.requires.walking.0,
  c.requires.walking.1,
  (there g.M.Runner.meaning c.args.self.now.code.now c.args.self.now.entry.now.fresh c.args.self.now.cells.now.entries c.args.overlay.now.entries c.walk.overlay.entries c.args.machine.now c.advance.new.self c.args.steps
      (gone-advanced g.M.Runner.meaning c.args.self.now.code.now c.args.self.now.entry.now.fresh c.args.self.now.cells.now.entries c.args.overlay.now.entries c.walk.overlay.entries c.args.machine.now c.walk.machine c.args.steps
      c.walk.invariant c.advance.new.self _ c.steps.result (c.steps.ensures c.args.self.now.code.now) refl c.advance.ensures.machine c.advance.ensures.ran)
      c.requires.walking.0 c.requires.walking.1 c.requires.walking.2).walking,
)

pub walk-smaller : goal.walk-smaller
walk-smaller g c =
    let gone =
    gone-advanced g.M.Runner.meaning c.args.self.now.code.now c.args.self.now.entry.now.fresh c.args.self.now.cells.now.entries c.args.overlay.now.entries c.walk.overlay.entries c.args.machine.now c.walk.machine c.args.steps
    c.walk.invariant c.advance.new.self _ c.steps.result (c.steps.ensures c.args.self.now.code.now) refl c.advance.ensures.machine c.advance.ensures.ran in
    let more = λ (e : (g.M.Runner.meaning.stage c.args.self.now.code.now c.advance.new.self).steps ≡ c.args.steps). c.if-steps.false ((c.steps-in-walk.ensures c.args.self.now.code.now) ∙ e) in
    fewer-left (g.M.Runner.meaning.stage c.args.self.now.code.now c.walk.machine).steps (g.M.Runner.meaning.stage c.args.self.now.code.now c.advance.new.self).steps
    (g.M.Runner.meaning.stage c.args.self.now.code.now c.take.new.machine).steps c.advance.ensures.ran.made c.args.steps c.advance.ensures.ran.advances.steps
    (one-more g.M.Runner.meaning c.args.self.now.code.now c.args.self.now.entry.now.fresh c.args.self.now.cells.now.entries c.args.overlay.now.entries c.walk.overlay.entries c.args.machine.now c.advance.new.self c.args.steps
    gone c.take.new.overlay.entries c.take.new.machine
    c.in_ok-take.ensures.made
    c.requires.walking more)
    (below-there g.M.Runner.meaning c.args.self.now.code.now c.args.self.now.entry.now.fresh c.args.self.now.cells.now.entries c.args.overlay.now.entries c.walk.overlay.entries c.args.machine.now c.advance.new.self c.args.steps
    gone more)

pub walk-preserved : goal.walk-preserved
walk-preserved g c =
    let gone =
    gone-advanced g.M.Runner.meaning c.args.self.now.code.now c.args.self.now.entry.now.fresh c.args.self.now.cells.now.entries c.args.overlay.now.entries c.walk.overlay.entries c.args.machine.now c.walk.machine c.args.steps
    c.walk.invariant c.advance.new.self _ c.steps.result (c.steps.ensures c.args.self.now.code.now) refl c.advance.ensures.machine c.advance.ensures.ran in
    gone-taken g.M.Runner.meaning c.args.self.now.code.now c.args.self.now.entry.now.fresh c.args.self.now.cells.now.entries c.args.overlay.now.entries c.walk.overlay.entries c.args.machine.now c.advance.new.self c.args.steps
    gone c.take.new.overlay.entries c.take.new.machine
    c.in_ok-take.ensures.made
    c.requires.walking (λ e. c.if-steps.false ((c.steps-in-walk.ensures c.args.self.now.code.now) ∙ e))

pub returns-in_err-take-clause-halted : goal.returns-in_err-take-clause-halted
returns-in_err-take-clause-halted g c =
    let gone =
    gone-advanced g.M.Runner.meaning c.args.self.now.code.now c.args.self.now.entry.now.fresh c.args.self.now.cells.now.entries c.args.overlay.now.entries c.walk.overlay.entries c.args.machine.now c.walk.machine c.args.steps
    c.walk.invariant c.advance.new.self _ c.steps.result (c.steps.ensures c.args.self.now.code.now) refl c.advance.ensures.machine c.advance.ensures.ran in
    err-as c.from_residual-in_err-take.result c.in_err-take.field-0.0 _ c.from_residual-in_err-take.ensures.1
    (λ s i side n a. c.in_err-take.ensures.halted s i side (g.M.Runner.meaning.stage c.args.self.now.code.now c.advance.new.self).steps (gone.goes_on s i side n a) c.args.steps
    (below-there g.M.Runner.meaning c.args.self.now.code.now c.args.self.now.entry.now.fresh c.args.self.now.cells.now.entries c.args.overlay.now.entries c.walk.overlay.entries c.args.machine.now c.advance.new.self c.args.steps
    gone (λ e. c.if-steps.false ((c.steps-in-walk.ensures c.args.self.now.code.now) ∙ e))))
