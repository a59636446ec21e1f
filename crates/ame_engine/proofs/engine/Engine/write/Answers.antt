use Rattle.std.proofs.Common.{rules, ◌≡◌, Some}
use Rattle.std.specs.Arc.{arc_value}
use Rattle.ame_machine.specs.declared.wants.Wants.TheVariants as wants
use Rattle.ame_machine.specs.Input.{value_to_set}
use Rattle.ame_engine.proofs.WriteLemmas.{write-location, write-grows, write-open, whole-written, makes-written, runs-written, answer-written, conflict-met, makes-conflict, runs-conflict, one-owner, answer-conflict}
use Rattle.ame_engine.proofs.engine.Engine.write.Goals as goal

pub other_owner-requires : goal.other_owner-requires
other_owner-requires g c =
    let told : (g.M.Runner.meaning.stage c.args.self.now.code c.args.at.now).want ≡ Some (wants.Write c.in-Some-Write.l) = search rules in
    write-location g.M.Runner.meaning
    g.M.Value.Copied.same g.met.M.Runner.same_values g.met.M.Runner.value_shown _ c.args.self.now c.self.view_is c.self.invariant.whole c.args.seat c.args.at.now
    c.in-Some-Write.l c.requires.on c.requires.writes.outside told (g.met.M.Runner.sound c.args.self.now.code c.args.at.now c.requires.on.machine)

pub turn_back-requires-clause-met : goal.turn_back-requires-clause-met
turn_back-requires-clause-met g c =
    let told : (g.M.Runner.meaning.stage c.args.self.now.code c.args.at.now).want ≡ Some (wants.Write c.in-Some-Write.l) = search rules in
    conflict-met g.M.Runner.meaning
    g.M.Value.Copied.same g.met.M.Runner.same_values g.met.M.Runner.value_shown _ c.args.self.now c.self.view_is c.self.invariant.whole c.args.seat c.args.at.now
    c.in-Some-Write.l c.requires.on c.requires.writes.outside told (g.met.M.Runner.sound c.args.self.now.code c.args.at.now c.requires.on.machine)
    c.other_owner.result c.other_owner.ensures c.in-Some.owner c.in-Some.is

pub write-requires-clause-location : goal.write-requires-clause-location
write-requires-clause-location g c =
    let told : (g.M.Runner.meaning.stage c.args.self.now.code c.args.at.now).want ≡ Some (wants.Write c.in-Some-Write.l) = search rules in
    write-location g.M.Runner.meaning
    g.M.Value.Copied.same g.met.M.Runner.same_values g.met.M.Runner.value_shown _ c.args.self.now c.self.view_is c.self.invariant.whole c.args.seat c.args.at.now
    c.in-Some-Write.l c.requires.on c.requires.writes.outside told (g.met.M.Runner.sound c.args.self.now.code c.args.at.now c.requires.on.machine)

pub write-requires-clause-can_grow : goal.write-requires-clause-can_grow
write-requires-clause-can_grow g c =
    let told : (g.M.Runner.meaning.stage c.args.self.now.code c.args.at.now).want ≡ Some (wants.Write c.in-Some-Write.l) = search rules in
    write-grows g.M.Runner.meaning
    g.M.Value.Copied.same g.met.M.Runner.same_values g.met.M.Runner.value_shown _ c.args.self.now c.self.view_is c.self.invariant.whole c.args.seat c.args.at.now
    c.in-Some-Write.l c.requires.on c.requires.writes.outside told (g.met.M.Runner.sound c.args.self.now.code c.args.at.now c.requires.on.machine)

pub write-requires-clause-unowned : goal.write-requires-clause-unowned
write-requires-clause-unowned g c =
    write-open c.self.inside.memory.cells c.args.seat c.in-Some-Write.l.0 c.other_owner.result c.other_owner.ensures c.in-None.is

pub invariant_of-self-in-None : goal.invariant_of-self-in-None
invariant_of-self-in-None g c =
    let told : (g.M.Runner.meaning.stage c.args.self.now.code c.args.at.now).want ≡ Some (wants.Write c.in-Some-Write.l) = search rules in
    let sets : value_to_set (g.M.Runner.meaning.stage (arc_value c.self.inside.code) c.args.at.now)
    ≡ Some (g.M.Runner.meaning.value_of (arc_value c.self.inside.code) c.wanted.result.now) = search rules in
    let good : g.M.Runner.meaning.is_value (arc_value c.self.inside.code) c.wanted.result.now = search rules in
    record {
      whole = whole-written g.M.Runner.meaning
          g.M.Value.Copied.same g.met.M.Runner.same_values g.met.M.Runner.value_shown _ c.args.self.now c.self.view_is c.self.invariant.whole c.args.seat c.args.at.now
          c.in-Some-Write.l c.requires.on c.requires.writes.outside told (g.met.M.Runner.sound c.args.self.now.code c.args.at.now c.requires.on.machine) c.requires.left
          c.wanted.result.now c.in_ok-value-in-None.value c.unit_value-unit.result good sets c.in_ok-value-in-None.ensures
          (c.unit_value-unit.ensures.good (arc_value c.self.inside.code)) (c.unit_value-unit.ensures.stands (arc_value c.self.inside.code))
          c.write.new.self c.in_ok-write-in-None.ensures.contents c.other_owner.result c.other_owner.ensures c.in-None.is c.requires.going c.requires.early;
      places = c.self.invariant.places;
    }

pub returns-in_ok-write-in-None-clause-answer : goal.returns-in_ok-write-in-None-clause-answer
returns-in_ok-write-in-None-clause-answer g c =
    let told : (g.M.Runner.meaning.stage c.args.self.now.code c.args.at.now).want ≡ Some (wants.Write c.in-Some-Write.l) = search rules in
    let sets : value_to_set (g.M.Runner.meaning.stage (arc_value c.self.inside.code) c.args.at.now)
    ≡ Some (g.M.Runner.meaning.value_of (arc_value c.self.inside.code) c.wanted.result.now) = search rules in
    let good : g.M.Runner.meaning.is_value (arc_value c.self.inside.code) c.wanted.result.now = search rules in
    answer-written g.M.Runner.meaning
    g.M.Value.Copied.same g.met.M.Runner.same_values g.met.M.Runner.value_shown _ c.args.self.now c.self.view_is c.self.invariant.whole c.args.seat c.args.at.now
    c.in-Some-Write.l c.requires.on c.requires.writes.outside told (g.met.M.Runner.sound c.args.self.now.code c.args.at.now c.requires.on.machine) c.requires.left
    c.wanted.result.now c.in_ok-value-in-None.value c.unit_value-unit.result good sets c.in_ok-value-in-None.ensures
    (c.unit_value-unit.ensures.good (arc_value c.self.inside.code)) (c.unit_value-unit.ensures.stands (arc_value c.self.inside.code))
    c.write.new.self c.in_ok-write-in-None.ensures.contents c.other_owner.result c.other_owner.ensures c.in-None.is

pub returns-in_ok-write-in-None-clause-event : goal.returns-in_ok-write-in-None-clause-event
returns-in_ok-write-in-None-clause-event g c =
    let told : (g.M.Runner.meaning.stage c.args.self.now.code c.args.at.now).want ≡ Some (wants.Write c.in-Some-Write.l) = search rules in
    let sets : value_to_set (g.M.Runner.meaning.stage (arc_value c.self.inside.code) c.args.at.now)
    ≡ Some (g.M.Runner.meaning.value_of (arc_value c.self.inside.code) c.wanted.result.now) = search rules in
    let good : g.M.Runner.meaning.is_value (arc_value c.self.inside.code) c.wanted.result.now = search rules in
    (λ k v e set _. makes-written g.M.Runner.meaning
    g.M.Value.Copied.same g.met.M.Runner.same_values g.met.M.Runner.value_shown _ c.args.self.now c.self.view_is c.self.invariant.whole c.args.seat c.args.at.now
    c.in-Some-Write.l c.requires.on c.requires.writes.outside told (g.met.M.Runner.sound c.args.self.now.code c.args.at.now c.requires.on.machine) c.requires.left
    c.wanted.result.now c.in_ok-value-in-None.value c.unit_value-unit.result good sets c.in_ok-value-in-None.ensures
    (c.unit_value-unit.ensures.good (arc_value c.self.inside.code)) (c.unit_value-unit.ensures.stands (arc_value c.self.inside.code))
    c.write.new.self c.in_ok-write-in-None.ensures.contents c.other_owner.result c.other_owner.ensures c.in-None.is c.requires.going c.requires.early k v e set)

pub returns-in_ok-write-in-None-clause-runs : goal.returns-in_ok-write-in-None-clause-runs
returns-in_ok-write-in-None-clause-runs g c =
    let told : (g.M.Runner.meaning.stage c.args.self.now.code c.args.at.now).want ≡ Some (wants.Write c.in-Some-Write.l) = search rules in
    let sets : value_to_set (g.M.Runner.meaning.stage (arc_value c.self.inside.code) c.args.at.now)
    ≡ Some (g.M.Runner.meaning.value_of (arc_value c.self.inside.code) c.wanted.result.now) = search rules in
    let good : g.M.Runner.meaning.is_value (arc_value c.self.inside.code) c.wanted.result.now = search rules in
    runs-written g.M.Runner.meaning
    g.M.Value.Copied.same g.met.M.Runner.same_values g.met.M.Runner.value_shown _ c.args.self.now c.self.view_is c.self.invariant.whole c.args.seat c.args.at.now
    c.in-Some-Write.l c.requires.on c.requires.writes.outside told (g.met.M.Runner.sound c.args.self.now.code c.args.at.now c.requires.on.machine) c.requires.left
    c.wanted.result.now c.in_ok-value-in-None.value c.unit_value-unit.result good sets c.in_ok-value-in-None.ensures
    (c.unit_value-unit.ensures.good (arc_value c.self.inside.code)) (c.unit_value-unit.ensures.stands (arc_value c.self.inside.code))
    c.write.new.self c.in_ok-write-in-None.ensures.contents c.other_owner.result c.other_owner.ensures c.in-None.is c.requires.going c.requires.early

pub returns-in-Running-clause-answer : goal.returns-in-Running-clause-answer
returns-in-Running-clause-answer g c =
    let told : (g.M.Runner.meaning.stage c.args.self.now.code c.args.at.now).want ≡ Some (wants.Write c.in-Some-Write.l) = search rules in
    answer-conflict g.M.Runner.meaning
    g.M.Value.Copied.same g.met.M.Runner.same_values g.met.M.Runner.value_shown _ c.args.self.now c.self.view_is c.self.invariant.whole c.args.seat c.args.at.now
    c.in-Some-Write.l c.requires.on c.requires.writes.outside told (g.met.M.Runner.sound c.args.self.now.code c.args.at.now c.requires.on.machine)
    c.other_owner.result c.other_owner.ensures c.in-Some.owner c.in-Some.is

pub returns-in-Running-clause-back : goal.returns-in-Running-clause-back
returns-in-Running-clause-back g c =
    let told : (g.M.Runner.meaning.stage c.args.self.now.code c.args.at.now).want ≡ Some (wants.Write c.in-Some-Write.l) = search rules in
    (λ k a owner w e is. makes-conflict g.M.Runner.meaning
    g.M.Value.Copied.same g.met.M.Runner.same_values g.met.M.Runner.value_shown _ c.args.self.now c.self.view_is c.self.invariant.whole c.args.seat c.args.at.now
    c.in-Some-Write.l c.requires.on c.requires.writes.outside told (g.met.M.Runner.sound c.args.self.now.code c.args.at.now c.requires.on.machine)
    c.other_owner.result c.other_owner.ensures c.in-Some.owner c.in-Some.is c.turn_back.new.self c.turn_back.ensures k a w e owner (one-owner c.in-Some.owner owner is))

pub returns-in-Running-clause-runs : goal.returns-in-Running-clause-runs
returns-in-Running-clause-runs g c =
    let told : (g.M.Runner.meaning.stage c.args.self.now.code c.args.at.now).want ≡ Some (wants.Write c.in-Some-Write.l) = search rules in
    runs-conflict g.M.Runner.meaning
    g.M.Value.Copied.same g.met.M.Runner.same_values g.met.M.Runner.value_shown _ c.args.self.now c.self.view_is c.self.invariant.whole c.args.seat c.args.at.now
    c.in-Some-Write.l c.requires.on c.requires.writes.outside told (g.met.M.Runner.sound c.args.self.now.code c.args.at.now c.requires.on.machine)
    c.other_owner.result c.other_owner.ensures c.in-Some.owner c.in-Some.is c.turn_back.new.self c.turn_back.ensures
