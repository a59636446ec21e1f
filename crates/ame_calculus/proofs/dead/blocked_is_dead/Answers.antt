use Rattle.std.specs.Prelude.{map}
use Rattle.ame_term.specs.View.{tree_of, typ_of}
use Rattle.ame_laws.proofs.Typed.Started.{accepted}
use Rattle.ame_calculus.proofs.DeadLemmas.{program-dead, program-few, program-rests, certificates-end, note-witness}
use Rattle.ame_calculus.proofs.dead.blocked_is_dead.Goals as goal

pub returns-clause-dead : goal.returns-clause-dead
returns-clause-dead c =
    let a = c.args.accepted.now in
    let p = tree_of a.program.term in
    let refs = map typ_of a.ref_tys.items in
    λ labels more s t label ran blocked e.
    let x =
    program-dead a.devices a.program.places.items p refs (accepted a.devices a.program.places.items p refs a.typed) a.program.source a.program.numbered labels s ran blocked label more t e in
    (x.0, x.1, x.2.active, x.2.leaves, x.2.ends)

pub returns-clause-few : goal.returns-clause-few
returns-clause-few c =
    let a = c.args.accepted.now in
    let p = tree_of a.program.term in
    let refs = map typ_of a.ref_tys.items in
    λ labels more s t i kinds ran blocked w e.
    program-few a.devices a.program.places.items p refs (accepted a.devices a.program.places.items p refs a.typed) a.program.source a.program.numbered labels s ran blocked more t i kinds w e

pub returns-clause-rests : goal.returns-clause-rests
returns-clause-rests c =
    let a = c.args.accepted.now in
    let p = tree_of a.program.term in
    let refs = map typ_of a.ref_tys.items in
    λ labels more s t ran blocked e idle.
    program-rests a.devices a.program.places.items p refs (accepted a.devices a.program.places.items p refs a.typed) a.program.source a.program.numbered labels s ran blocked more t e idle

pub returns-clause-certificates : goal.returns-clause-certificates
returns-clause-certificates c =
    let a = c.args.accepted.now in
    let p = tree_of a.program.term in
    let refs = map typ_of a.ref_tys.items in
    λ entries more r t e blocked goes.
    certificates-end a.devices a.program.places.items p refs (accepted a.devices a.program.places.items p refs a.typed) a.program.source a.program.numbered entries more r t e blocked goes

pub returns-clause-notes : goal.returns-clause-notes
returns-clause-notes c = note-witness
