use Rattle.std.specs.Prelude.{map}
use Rattle.ame_term.specs.View.{tree_of, typ_of}
use Rattle.ame_laws.proofs.Typed.Started.{accepted}
use Rattle.ame_calculus.proofs.AgreeLemmas.{program-same}
use Rattle.ame_calculus.proofs.RenamedJournal.{replay-so}
use Rattle.ame_calculus.proofs.names.names_of_locations_do_not_matter.Goals as goal

pub returns-clause-program : goal.returns-clause-program
returns-clause-program c =
    let a = c.args.accepted.now in
    let p = tree_of a.program.term in
    let refs = map typ_of a.ref_tys.items in
    λ f. program-same a.devices a.program.places.items p refs (accepted a.devices a.program.places.items p refs a.typed) a.program.source a.program.numbered f

pub returns-clause-certificate : goal.returns-clause-certificate
returns-clause-certificate c =
    let a = c.args.accepted.now in
    let p = tree_of a.program.term in
    let refs = map typ_of a.ref_tys.items in
    λ f g entries r inverse e.
    let x =
    replay-so f g inverse p entries r
    (program-same a.devices a.program.places.items p refs (accepted a.devices a.program.places.items p refs a.typed) a.program.source a.program.numbered f) e in
    (x.behind, x.replays, x.renames, x.inside)

pub returns-clause-calls : goal.returns-clause-calls
returns-clause-calls c =
    let a = c.args.accepted.now in
    let p = tree_of a.program.term in
    let refs = map typ_of a.ref_tys.items in
    λ f g entries r device inverse e.
    (replay-so f g inverse p entries r
    (program-same a.devices a.program.places.items p refs (accepted a.devices a.program.places.items p refs a.typed) a.program.source a.program.numbered f) e).called device
