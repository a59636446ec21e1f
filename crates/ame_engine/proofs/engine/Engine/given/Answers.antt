use Rattle.std.proofs.Common.{◌≡◌, true, Some, sym, subst, rules}
use Rattle.std.specs.Arc.{arc_value}
use Rattle.ame_machine.specs.declared.wants.Input.TheVariants as Input
use Rattle.ame_machine.specs.Move.{after_input}
use Rattle.ame_machine.specs.Input.{is_wanted}
use Rattle.ame_engine.proofs.VisitStepLemmas.{some-core, given-wanted, given-good, served-given}
use Rattle.ame_engine.proofs.engine.Engine.given.Goals as goal

pub peek-requires : goal.peek-requires
peek-requires g c =
    some-core g.M.Runner.meaning
    g.M.Value.Copied.same g.met.M.Runner.same_values g.met.M.Runner.value_shown _ c.args.self.now c.self.view_is c.self.invariant.whole c.args.at.now
    c.requires.on c.requires.visits (g.met.M.Runner.sound c.args.self.now.code c.args.at.now c.requires.on.1.machine)
    c.args.l c.requires.wants

pub feed-requires-clause-wanted : goal.feed-requires-clause-wanted
feed-requires-clause-wanted g c =
    let same : c.deref.result.now ≡ arc_value c.self.inside.code = search rules in
    subst (λ k. is_wanted (g.M.Runner.meaning.stage k c.args.at.now).want (Input.Value c.in_ok-value.value) ≡ true) (sym same)
    (given-wanted g.M.Runner.meaning
    g.M.Value.Copied.same g.met.M.Runner.same_values g.met.M.Runner.value_shown _ c.args.self.now c.self.view_is c.self.invariant.whole c.args.at.now
    c.requires.on c.requires.visits (g.met.M.Runner.sound c.args.self.now.code c.args.at.now c.requires.on.1.machine)
    c.args.l c.requires.wants c.in_ok-value.value c.in_ok-value.ensures)

pub feed-requires-clause-value : goal.feed-requires-clause-value
feed-requires-clause-value g c =
    let same : c.deref.result.now ≡ arc_value c.self.inside.code = search rules in
    subst (λ k. g.M.Runner.meaning.is_value k c.in_ok-value.value) (sym same)
    (given-good g.M.Runner.meaning
    g.M.Value.Copied.same g.met.M.Runner.same_values g.met.M.Runner.value_shown _ c.args.self.now c.self.view_is c.self.invariant.whole c.args.at.now
    c.requires.on c.requires.visits (g.met.M.Runner.sound c.args.self.now.code c.args.at.now c.requires.on.1.machine)
    c.args.l c.requires.wants c.in_ok-value.value c.in_ok-value.ensures)

pub returns : goal.returns
returns g c =
    let same : c.deref.result.now ≡ arc_value c.self.inside.code = search rules in
    let machine = subst (λ k. g.M.Runner.meaning.is_machine k c.feed.new.self) same c.feed.ensures.machine in
    let fed = subst (λ k. after_input (g.M.Runner.meaning.stage k c.args.at.now).want (g.M.Runner.meaning.value_of k c.in_ok-value.value) (g.M.Runner.meaning.stage k c.args.at.now) ≡ Some (g.M.Runner.meaning.stage k c.feed.new.self)) same c.feed.ensures.stage in
    served-given g.M.Runner.meaning
    g.M.Value.Copied.same g.met.M.Runner.same_values g.met.M.Runner.value_shown _ c.args.self.now c.self.view_is c.self.invariant.whole c.args.at.now
    c.requires.on c.requires.visits (g.met.M.Runner.sound c.args.self.now.code c.args.at.now c.requires.on.1.machine)
    c.args.l c.requires.wants c.in_ok-value.value c.in_ok-value.ensures c.feed.new.self machine fed
