use Rattle.std.proofs.Common.{◌≡◌, ◌<◌, length, Some, sym, ap, ◌∙◌, subst, arith}
use Rattle.std.specs.Prelude.{slice_index_or}
use Rattle.std.proofs.lemmas.Option.{slice_get-get_or}
use Rattle.std.specs.Arc.{arc_value}
use Rattle.ame_shell.specs.Shell.{shell_view, IsShell}
use Rattle.ame_shell.specs.Turned.{IsShellInOrder, LeavesInOrder}
use Rattle.ame_shell.specs.declared.work.Work.TheVariants as work
use Rattle.ame_shell.specs.Work.{Fits}
use Rattle.ame_sim.proofs.CrewLemmas.{some-is, crew-turned}
use Rattle.ame_sim.proofs.UnwindLemmas.{crew-unwinds}
use Rattle.ame_sim.proofs.crew.Crew.undo.Goals as goal

pub turn-requires : goal.turn-requires
turn-requires g c =
    let seat = c.args.seat in
    let hands = c.self.inside.hands.items in
    let there = subst (λ v. seat < v.core.limits.seats) (sym c.self.view_is) c.requires.seat in
    let count = c.self.invariant.count in
    let lent = c.index_mut.result.now in
    let within : seat < length hands = omega (arith, there, count) in
    let same : Some (slice_index_or hands seat work.Idle) ≡ Some lent =
    sym (slice_get-get_or hands seat work.Idle within) ∙ slice_get-get_or hands seat lent within ∙ ap (λ w. Some w) (sym c.index_mut.ensures.value) in
    record {
      may = record {
        order = subst (λ k. IsShellInOrder g.M.Runner.meaning k (shell_view c.self.inside.shell)) (sym c.deref.ensures) c.self.invariant.order;
        there = there;
        fits = subst (λ w. Fits g.M.Runner.meaning c.self.inside.shell.engine seat w) (some-is _ _ same) (c.self.invariant.fit seat);
      };
    }

pub invariant_of-self : goal.invariant_of-self
invariant_of-self g c =
    let seat = c.args.seat in
    let within = subst (λ v. seat < v.core.limits.seats) (sym c.self.view_is) c.requires.seat in
    let count = c.self.invariant.count in
    let now = shell_view c.turn.new.self in
    crew-turned g.M.Runner.meaning (arc_value c.self.inside.code) (shell_view c.self.inside.shell) now c.self.inside.hands.items seat c.turn.new.work
    c.self.invariant (omega (arith, within, count))
    (subst (λ k. LeavesInOrder g.M.Runner.meaning k seat (shell_view c.self.inside.shell) now c.turn.new.work) c.deref.ensures c.turn.ensures.leaves)

pub returns-clause-unwound : goal.returns-clause-unwound
returns-clause-unwound g c =
    (crew-unwinds g.M.Runner.meaning c.args.seat _ _ _ _ c.turn.result.outcome c.self.view_is c.stands.ensures c.requires.seat c.requires.stopped
    c.turn.ensures.turned).unwound

pub returns-clause-others : goal.returns-clause-others
returns-clause-others g c =
    (crew-unwinds g.M.Runner.meaning c.args.seat _ _ _ _ c.turn.result.outcome c.self.view_is c.stands.ensures c.requires.seat c.requires.stopped
    c.turn.ensures.turned).others

pub returns-clause-less : goal.returns-clause-less
returns-clause-less g c =
    (crew-unwinds g.M.Runner.meaning c.args.seat _ _ _ _ c.turn.result.outcome c.self.view_is c.stands.ensures c.requires.seat c.requires.stopped
    c.turn.ensures.turned).less

pub returns-clause-keeps : goal.returns-clause-keeps
returns-clause-keeps g c = λ opening h. c.turn.ensures.leaves.keeps opening (subst (λ v. IsShell g.M.Runner.meaning opening v) (sym c.self.view_is) h)
