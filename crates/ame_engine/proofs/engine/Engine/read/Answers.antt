use Rattle.std.proofs.Common.{rules, ◌≡◌, Some}
use Rattle.ame_machine.specs.declared.wants.Wants.TheVariants as wants
use Rattle.ame_engine.proofs.ReadingLemmas.{read-location, whole-read, makes-read, value-read, typed-read, good-read, runs-read}
use Rattle.ame_engine.proofs.engine.Engine.read.Goals as goal

pub read-requires-clause-location : goal.read-requires-clause-location
read-requires-clause-location g c =
    let told : (g.M.Runner.meaning.stage c.args.self.now.code c.args.at.now).want ≡ Some (wants.Read c.in-Some-Read.l) = search rules in
    read-location g.M.Runner.meaning
    g.M.Value.Copied.same g.met.M.Runner.same_values g.met.M.Runner.value_shown _ c.args.self.now c.self.view_is c.self.invariant.whole c.args.seat c.args.at.now
    c.in-Some-Read.l c.requires.on c.requires.reads.outside told (g.met.M.Runner.sound c.args.self.now.code c.args.at.now c.requires.on.machine)

pub invariant_of-self-2 : goal.invariant_of-self-2
invariant_of-self-2 g c =
    let told : (g.M.Runner.meaning.stage c.args.self.now.code c.args.at.now).want ≡ Some (wants.Read c.in-Some-Read.l) = search rules in
    record {
      whole = whole-read g.M.Runner.meaning
          g.M.Value.Copied.same g.met.M.Runner.same_values g.met.M.Runner.value_shown _ c.args.self.now c.self.view_is c.self.invariant.whole c.args.seat c.args.at.now
          c.in-Some-Read.l c.requires.on c.requires.reads.outside told (g.met.M.Runner.sound c.args.self.now.code c.args.at.now c.requires.on.machine) c.requires.left
          c.in_ok-value.value c.read.new.self c.in_ok-value.ensures.value c.in_ok-value.ensures.row c.in_ok-value.ensures.others c.requires.going c.requires.early c.numbers_tell_owners.ensures;
      places = c.self.invariant.places;
    }

pub returns-clause-event : goal.returns-clause-event
returns-clause-event g c =
    let told : (g.M.Runner.meaning.stage c.args.self.now.code c.args.at.now).want ≡ Some (wants.Read c.in-Some-Read.l) = search rules in
    makes-read g.M.Runner.meaning
    g.M.Value.Copied.same g.met.M.Runner.same_values g.met.M.Runner.value_shown _ c.args.self.now c.self.view_is c.self.invariant.whole c.args.seat c.args.at.now
    c.in-Some-Read.l c.requires.on c.requires.reads.outside told (g.met.M.Runner.sound c.args.self.now.code c.args.at.now c.requires.on.machine) c.requires.left
    c.in_ok-value.value c.read.new.self c.in_ok-value.ensures.value c.in_ok-value.ensures.row c.in_ok-value.ensures.others c.requires.going c.requires.early c.numbers_tell_owners.ensures

pub returns-clause-value : goal.returns-clause-value
returns-clause-value g c =
    let told : (g.M.Runner.meaning.stage c.args.self.now.code c.args.at.now).want ≡ Some (wants.Read c.in-Some-Read.l) = search rules in
    value-read g.M.Runner.meaning
    g.M.Value.Copied.same g.met.M.Runner.same_values g.met.M.Runner.value_shown _ c.args.self.now c.self.view_is c.self.invariant.whole c.args.seat c.args.at.now
    c.in-Some-Read.l c.requires.on c.requires.reads.outside told (g.met.M.Runner.sound c.args.self.now.code c.args.at.now c.requires.on.machine) c.requires.left
    c.in_ok-value.value c.read.new.self c.in_ok-value.ensures.value c.in_ok-value.ensures.row c.in_ok-value.ensures.others

pub returns-clause-typed : goal.returns-clause-typed
returns-clause-typed g c =
    let told : (g.M.Runner.meaning.stage c.args.self.now.code c.args.at.now).want ≡ Some (wants.Read c.in-Some-Read.l) = search rules in
    typed-read g.M.Runner.meaning
    g.M.Value.Copied.same g.met.M.Runner.same_values g.met.M.Runner.value_shown _ c.args.self.now c.self.view_is c.self.invariant.whole c.args.seat c.args.at.now
    c.in-Some-Read.l c.requires.on c.requires.reads.outside told (g.met.M.Runner.sound c.args.self.now.code c.args.at.now c.requires.on.machine) c.requires.left
    c.in_ok-value.value c.read.new.self c.in_ok-value.ensures.value c.in_ok-value.ensures.row c.in_ok-value.ensures.others

pub returns-clause-good : goal.returns-clause-good
returns-clause-good g c =
    let told : (g.M.Runner.meaning.stage c.args.self.now.code c.args.at.now).want ≡ Some (wants.Read c.in-Some-Read.l) = search rules in
    good-read g.M.Runner.meaning
    g.M.Value.Copied.same g.met.M.Runner.same_values g.met.M.Runner.value_shown _ c.args.self.now c.self.view_is c.self.invariant.whole c.args.seat c.args.at.now
    c.in-Some-Read.l c.requires.on c.requires.reads.outside told (g.met.M.Runner.sound c.args.self.now.code c.args.at.now c.requires.on.machine) c.requires.left
    c.in_ok-value.value c.read.new.self c.in_ok-value.ensures.value c.in_ok-value.ensures.row c.in_ok-value.ensures.others

pub returns-clause-runs : goal.returns-clause-runs
returns-clause-runs g c =
    let told : (g.M.Runner.meaning.stage c.args.self.now.code c.args.at.now).want ≡ Some (wants.Read c.in-Some-Read.l) = search rules in
    runs-read g.M.Runner.meaning
    g.M.Value.Copied.same g.met.M.Runner.same_values g.met.M.Runner.value_shown _ c.args.self.now c.self.view_is c.self.invariant.whole c.args.seat c.args.at.now
    c.in-Some-Read.l c.requires.on c.requires.reads.outside told (g.met.M.Runner.sound c.args.self.now.code c.args.at.now c.requires.on.machine) c.requires.left
    c.in_ok-value.value c.read.new.self c.in_ok-value.ensures.value c.in_ok-value.ensures.row c.in_ok-value.ensures.others c.requires.going c.requires.early c.numbers_tell_owners.ensures
