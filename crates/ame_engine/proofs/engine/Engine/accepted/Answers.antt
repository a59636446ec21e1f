use Rattle.std.proofs.Common.{◌≡◌, true, Some, sym, subst, rules}
use Rattle.std.specs.Arc.{arc_value}
use Rattle.ame_term.specs.Tree.{Val}
use Rattle.ame_machine.specs.declared.wants.Input.TheVariants as Input
use Rattle.ame_machine.specs.Move.{after_input}
use Rattle.ame_machine.specs.Input.{is_wanted}
use Rattle.ame_engine.proofs.VisitStepLemmas.{accepted-wanted, served-accepted}
use Rattle.ame_engine.proofs.engine.Engine.accepted.Goals as goal

pub feed-requires-clause-wanted : goal.feed-requires-clause-wanted
feed-requires-clause-wanted g c =
    let same : c.deref.result.now ≡ arc_value c.self.inside.code = search rules in
    subst (λ k. is_wanted {V = g.row.M-Value.Denot} (g.M.Runner.meaning.stage k c.args.at.now).want Input.Unit ≡ true) (sym same)
    (accepted-wanted g.M.Runner.meaning
    g.M.Value.Copied.same g.met.M.Runner.same_values g.met.M.Runner.value_shown _ c.args.self.now c.self.view_is c.self.invariant.whole c.args.at.now
    c.requires.on c.requires.visits (g.met.M.Runner.sound c.args.self.now.code c.args.at.now c.requires.on.1.machine)
    c.requires.wants)

pub returns : goal.returns
returns g c =
    let same : c.deref.result.now ≡ arc_value c.self.inside.code = search rules in
    let machine = subst (λ k. g.M.Runner.meaning.is_machine k c.feed.new.self) same c.feed.ensures.machine in
    let fed = subst (λ k. after_input (g.M.Runner.meaning.stage k c.args.at.now).want Val.Unit (g.M.Runner.meaning.stage k c.args.at.now) ≡ Some (g.M.Runner.meaning.stage k c.feed.new.self)) same c.feed.ensures.stage in
    served-accepted g.M.Runner.meaning
    g.M.Value.Copied.same g.met.M.Runner.same_values g.met.M.Runner.value_shown _ c.args.self.now c.self.view_is c.self.invariant.whole c.args.at.now
    c.requires.on c.requires.visits (g.met.M.Runner.sound c.args.self.now.code c.args.at.now c.requires.on.1.machine)
    c.requires.wants c.feed.new.self machine fed
