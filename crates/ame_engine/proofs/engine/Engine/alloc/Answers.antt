use Rattle.std.proofs.Common.{rules, ◌≡◌, length, Some}
use Rattle.std.specs.Arc.{arc_value}
use Rattle.ame_machine.specs.declared.wants.Wants.TheVariants as wants
use Rattle.ame_machine.specs.Input.{value_to_set}
use Rattle.ame_engine.proofs.AllocLemmas.{whole-allocated, makes-allocated, runs-allocated}
use Rattle.ame_engine.proofs.engine.Engine.alloc.Goals as goal

pub invariant_of-self-2 : goal.invariant_of-self-2
invariant_of-self-2 g c =
    let told : (g.M.Runner.meaning.stage c.args.self.now.code c.args.at.now).want ≡ Some (wants.Alloc c.in-Some-Alloc.sort c.in-Some-Alloc.number) = search rules in
    let sets : value_to_set (g.M.Runner.meaning.stage (arc_value c.self.inside.code) c.args.at.now)
    ≡ Some (g.M.Runner.meaning.value_of (arc_value c.self.inside.code) c.wanted.result.now) = search rules in
    let good : g.M.Runner.meaning.is_value (arc_value c.self.inside.code) c.wanted.result.now = search rules in
    let place : c.len.result ≡ length c.self.inside.memory.cells = search rules in
    record {
      whole = whole-allocated g.M.Runner.meaning
          g.M.Value.Copied.same g.met.M.Runner.same_values g.met.M.Runner.value_shown _ c.args.self.now c.self.view_is c.self.invariant.whole c.args.seat c.args.at.now
          c.in-Some-Alloc.sort c.in-Some-Alloc.number c.requires.on c.requires.allocates.outside told
          (g.met.M.Runner.sound c.args.self.now.code c.args.at.now c.requires.on.machine) (g.met.M.Runner.forms c.args.self.now.code c.args.at.now c.requires.on.machine) c.requires.left
          c.wanted.result.now c.in_ok-value.value c.location_value-input.result good sets c.in_ok-value.ensures
          (c.location_value-input.ensures.good (arc_value c.self.inside.code)) _ (c.location_value-input.ensures.stands (arc_value c.self.inside.code)) place
          c.allocate.new.self c.in_ok-l.ensures.contents c.requires.going c.requires.early;
      places = c.self.invariant.places;
    }

pub returns-clause-event : goal.returns-clause-event
returns-clause-event g c =
    let told : (g.M.Runner.meaning.stage c.args.self.now.code c.args.at.now).want ≡ Some (wants.Alloc c.in-Some-Alloc.sort c.in-Some-Alloc.number) = search rules in
    let sets : value_to_set (g.M.Runner.meaning.stage (arc_value c.self.inside.code) c.args.at.now)
    ≡ Some (g.M.Runner.meaning.value_of (arc_value c.self.inside.code) c.wanted.result.now) = search rules in
    let good : g.M.Runner.meaning.is_value (arc_value c.self.inside.code) c.wanted.result.now = search rules in
    let place : c.len.result ≡ length c.self.inside.memory.cells = search rules in
    makes-allocated g.M.Runner.meaning
    g.M.Value.Copied.same g.met.M.Runner.same_values g.met.M.Runner.value_shown _ c.args.self.now c.self.view_is c.self.invariant.whole c.args.seat c.args.at.now
    c.in-Some-Alloc.sort c.in-Some-Alloc.number c.requires.on c.requires.allocates.outside told
    (g.met.M.Runner.sound c.args.self.now.code c.args.at.now c.requires.on.machine) (g.met.M.Runner.forms c.args.self.now.code c.args.at.now c.requires.on.machine) c.requires.left
    c.wanted.result.now c.in_ok-value.value c.location_value-input.result good sets c.in_ok-value.ensures
    (c.location_value-input.ensures.good (arc_value c.self.inside.code)) _ (c.location_value-input.ensures.stands (arc_value c.self.inside.code)) place
    c.allocate.new.self c.in_ok-l.ensures.contents c.requires.going c.requires.early

pub returns-clause-runs : goal.returns-clause-runs
returns-clause-runs g c =
    let told : (g.M.Runner.meaning.stage c.args.self.now.code c.args.at.now).want ≡ Some (wants.Alloc c.in-Some-Alloc.sort c.in-Some-Alloc.number) = search rules in
    let sets : value_to_set (g.M.Runner.meaning.stage (arc_value c.self.inside.code) c.args.at.now)
    ≡ Some (g.M.Runner.meaning.value_of (arc_value c.self.inside.code) c.wanted.result.now) = search rules in
    let good : g.M.Runner.meaning.is_value (arc_value c.self.inside.code) c.wanted.result.now = search rules in
    let place : c.len.result ≡ length c.self.inside.memory.cells = search rules in
    runs-allocated g.M.Runner.meaning
    g.M.Value.Copied.same g.met.M.Runner.same_values g.met.M.Runner.value_shown _ c.args.self.now c.self.view_is c.self.invariant.whole c.args.seat c.args.at.now
    c.in-Some-Alloc.sort c.in-Some-Alloc.number c.requires.on c.requires.allocates.outside told
    (g.met.M.Runner.sound c.args.self.now.code c.args.at.now c.requires.on.machine) (g.met.M.Runner.forms c.args.self.now.code c.args.at.now c.requires.on.machine) c.requires.left
    c.wanted.result.now c.in_ok-value.value c.location_value-input.result good sets c.in_ok-value.ensures
    (c.location_value-input.ensures.good (arc_value c.self.inside.code)) _ (c.location_value-input.ensures.stands (arc_value c.self.inside.code)) place
    c.allocate.new.self c.in_ok-l.ensures.contents c.requires.going c.requires.early
