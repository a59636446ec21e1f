use Rattle.std.proofs.Common.{◌≡◌, ◌-◌, ◌<◌, ℕ, subst, arith}
use Rattle.std.proofs.lemmas.Result.{IfOk-weaker, IfErr-weaker}
use Rattle.ame_term.specs.Frame.{Side}
use Rattle.ame_machine.specs.MachineView.{running_side}
use Rattle.ame_check.specs.Walked.{IsAtStep, StopsWalk}
use Rattle.ame_check.proofs.StopLemmas.{err-as, visit-stopped}
use Rattle.ame_check.proofs.WalkLemmas.{begins}
use Rattle.ame_check.proofs.walk.Walk.visit.Goals as goal

pub last-requires-clause-walking : goal.last-requires-clause-walking
last-requires-clause-walking g c =
    let there =
    c.in_ok-want.ensures.whole c.requires.walking.0 c.requires.walking.1 (running_side (g.M.Runner.meaning.stage c.args.self.now.code.now c.args.machine.now)) (g.M.Runner.meaning.stage c.args.self.now.code.now c.args.machine.now).steps
    (begins g.M.Runner.meaning c.args.self.now.code.now c.args.self.now.entry.now.fresh c.args.self.now.cells.now.entries c.args.overlay.now.entries c.args.overlay.now.entries c.args.machine.now c.args.machine.now 0 c.requires.walking.0 c.requires.walking.1 c.requires.walking.2) in
    (c.requires.walking.0, c.requires.walking.1, there.0.walking)

pub last-requires-clause-told : goal.last-requires-clause-told
last-requires-clause-told g c =
    let there =
    c.in_ok-want.ensures.whole c.requires.walking.0 c.requires.walking.1 (running_side (g.M.Runner.meaning.stage c.args.self.now.code.now c.args.machine.now)) (g.M.Runner.meaning.stage c.args.self.now.code.now c.args.machine.now).steps
    (begins g.M.Runner.meaning c.args.self.now.code.now c.args.self.now.entry.now.fresh c.args.self.now.cells.now.entries c.args.overlay.now.entries c.args.overlay.now.entries c.args.machine.now c.args.machine.now 0 c.requires.walking.0 c.requires.walking.1 c.requires.walking.2) in
    there.1

pub last-requires-clause-count : goal.last-requires-clause-count
last-requires-clause-count g c =
    let there =
    c.in_ok-want.ensures.whole c.requires.walking.0 c.requires.walking.1 (running_side (g.M.Runner.meaning.stage c.args.self.now.code.now c.args.machine.now)) (g.M.Runner.meaning.stage c.args.self.now.code.now c.args.machine.now).steps
    (begins g.M.Runner.meaning c.args.self.now.code.now c.args.self.now.entry.now.fresh c.args.self.now.cells.now.entries c.args.overlay.now.entries c.args.overlay.now.entries c.args.machine.now c.args.machine.now 0 c.requires.walking.0 c.requires.walking.1 c.requires.walking.2) in
    let count : (g.M.Runner.meaning.stage c.args.self.now.code.now c.go.new.machine).steps ≡ c.args.self.now.entry.now.steps - 1 = there.0.counted in
    let some : 0 < c.args.self.now.entry.now.steps = c.requires.some in
    omega arith

pub returns-in_err-want-clause-halted : goal.returns-in_err-want-clause-halted
returns-in_err-want-clause-halted g c =
    err-as c.from_residual.result c.in_err-want.field-0.0 _ c.from_residual.ensures.1
    (λ s i n count a.
    let few : c.args.self.now.entry.now.steps - 1 ≡ n = omega arith in
    visit-stopped s i c.args.self.now.entry.now.fresh c.args.self.now.entry.now.answer n c.in_err-want.field-0.0
    (subst (λ (k : ℕ). StopsWalk Side.Unprotected i k c.args.self.now.entry.now.fresh s c.in_err-want.field-0.0) few (c.in_err-want.ensures.halted s i Side.Unprotected 0 a)))

pub returns-clause-made : goal.returns-clause-made
returns-clause-made g c =
    IfOk-weaker c.last.result _ _
    (λ _ h s i n count a.
    let few : c.args.self.now.entry.now.steps - 1 ≡ n = omega arith in
    h s i n (subst (IsAtStep g.M.Runner.meaning c.args.self.now.code.now s i c.args.self.now.entry.now.fresh c.args.self.now.cells.now.entries c.go.new.overlay.entries c.go.new.machine Side.Unprotected) few
    (c.in_ok-want.ensures.whole s i Side.Unprotected 0 a).0)) c.last.ensures.made

pub returns-clause-halted : goal.returns-clause-halted
returns-clause-halted g c =
    IfErr-weaker c.last.result _ _
    (λ _ h s i n count a.
    let few : c.args.self.now.entry.now.steps - 1 ≡ n = omega arith in
    h s i n (subst (IsAtStep g.M.Runner.meaning c.args.self.now.code.now s i c.args.self.now.entry.now.fresh c.args.self.now.cells.now.entries c.go.new.overlay.entries c.go.new.machine Side.Unprotected) few
    (c.in_ok-want.ensures.whole s i Side.Unprotected 0 a).0)) c.last.ensures.halted
