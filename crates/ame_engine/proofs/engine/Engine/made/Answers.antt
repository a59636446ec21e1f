use Rattle.std.proofs.Common.{◌≡◌, Some, length, subst, rules}
use Rattle.std.specs.Arc.{arc_value}
use Rattle.ame_term.specs.Tree.{Val}
use Rattle.ame_machine.specs.Move.{after_input}
use Rattle.ame_machine.specs.Input.{value_to_set}
use Rattle.ame_engine.proofs.VisitStepLemmas.{served-made}
use Rattle.ame_engine.proofs.engine.Engine.made.Goals as goal

pub returns : goal.returns
returns g c =
    let same : c.deref-2.result.now ≡ arc_value c.self.inside.code = search rules in
    let machine = subst (λ k. g.M.Runner.meaning.is_machine k c.feed.new.self) same c.feed.ensures.machine in
    let fed = subst (λ k. after_input (g.M.Runner.meaning.stage k c.args.at.now).want (Val.Loc c.len.result) (g.M.Runner.meaning.stage k c.args.at.now) ≡ Some (g.M.Runner.meaning.stage k c.feed.new.self)) same c.feed.ensures.stage in
    let sets : value_to_set (g.M.Runner.meaning.stage (arc_value c.self.inside.code) c.args.at.now) ≡ Some (g.M.Runner.meaning.value_of (arc_value c.self.inside.code) c.wanted.result.now) = search rules in
    let good : g.M.Runner.meaning.is_value (arc_value c.self.inside.code) c.wanted.result.now = search rules in
    let place : c.len.result ≡ length c.self.inside.memory.cells = search rules in
    served-made g.M.Runner.meaning
    g.M.Value.Copied.same g.met.M.Runner.same_values g.met.M.Runner.value_shown _ c.args.self.now c.self.view_is c.self.invariant.whole c.args.at.now
    c.requires.on c.requires.visits (g.met.M.Runner.sound c.args.self.now.code c.args.at.now c.requires.on.1.machine)
    c.args.sort c.args.number c.requires.wants (g.met.M.Runner.forms c.args.self.now.code c.args.at.now c.requires.on.1.machine) c.wanted.result.now c.in_ok-value.value good sets c.in_ok-value.ensures _ place
    c.feed.new.self machine fed
