use Rattle.std.specs.Prelude.{map}
use Rattle.ame_term.specs.View.{tree_of, typ_of}
use Rattle.ame_laws.proofs.Typed.Started.{accepted}
use Rattle.ame_journal.proofs.TypedLemmas.{typed-replayed}
use Rattle.ame_journal.proofs.theorems.accepted_replayed_is_typed.Goals as goal

pub returns : goal.returns
returns c = λ entries r e.
    let a = c.args.accepted.now in
    let p = tree_of a.program.term in
    let refs = map typ_of a.ref_tys.items in
    typed-replayed a.devices a.program.places.items p refs entries r (accepted a.devices a.program.places.items p refs a.typed) a.program.source a.program.numbered e
