use Rattle.std.specs.Prelude.{map}
use Rattle.ame_term.specs.View.{tree_of, typ_of}
use Rattle.ame_laws.proofs.Typed.Started.{accepted}
use Rattle.ame_weak.proofs.TryLemmas.{calls_are_told_with}
use Rattle.ame_weak.proofs.theorems.calls_are_told_with.Goals as goal

pub returns : goal.returns
returns c =
    let a = c.args.accepted.now in
    let p = tree_of a.program.term in
    let refs = map typ_of a.ref_tys.items in
    λ device labels tries w all e.
    calls_are_told_with a.devices a.program.places.items p refs
    (accepted a.devices a.program.places.items p refs a.typed) a.program.source a.program.numbered device labels tries w all e
