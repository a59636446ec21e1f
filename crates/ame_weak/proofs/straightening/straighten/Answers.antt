use Rattle.std.specs.Prelude.{map}
use Rattle.ame_term.specs.View.{tree_of, typ_of}
use Rattle.ame_laws.proofs.Typed.Started.{accepted}
use Rattle.ame_weak.specs.Straightened.{IsStraightened, LeadsToTheEnd, MakesTheCalls}
use Rattle.ame_weak.proofs.StraightenedLemmas.{if-ok, leads-there, makes-calls}
use Rattle.ame_weak.proofs.straightening.straighten.Goals as goal

pub returns-clause-replays : goal.returns-clause-replays
returns-clause-replays c = λ tried.
    let a = c.args.accepted.now in
    let p = tree_of a.program.term in
    let refs = map typ_of a.ref_tys.items in
    if-ok (IsStraightened p c.args.labels.now c.args.tries.now) (LeadsToTheEnd p c.args.labels.now)
    (leads-there a.devices a.program.places.items p refs
    (accepted a.devices a.program.places.items p refs a.typed) a.program.source a.program.numbered c.args.labels.now c.args.tries.now tried)
    c.told.result c.told.ensures

pub returns-clause-calls : goal.returns-clause-calls
returns-clause-calls c = λ tried.
    let a = c.args.accepted.now in
    let p = tree_of a.program.term in
    let refs = map typ_of a.ref_tys.items in
    if-ok (IsStraightened p c.args.labels.now c.args.tries.now) (MakesTheCalls p c.args.labels.now)
    (makes-calls a.devices a.program.places.items p refs
    (accepted a.devices a.program.places.items p refs a.typed) a.program.source a.program.numbered c.args.labels.now c.args.tries.now tried)
    c.told.result c.told.ensures
