use Rattle.std.specs.Prelude.{map}
use Rattle.ame_term.specs.View.{tree_of, typ_of}
use Rattle.ame_laws.proofs.Typed.Started.{accepted}
use Rattle.ame_calculus.proofs.AlikeRuns.{program-alike}
use Rattle.ame_calculus.proofs.names.runs_are_one_but_for_names.Goals as goal

pub returns : goal.returns
returns c =
    let a = c.args.accepted.now in
    let p = tree_of a.program.term in
    let refs = map typ_of a.ref_tys.items in
    λ labels others s t first second e.
    program-alike a.devices a.program.places.items p refs (accepted a.devices a.program.places.items p refs a.typed) a.program.source a.program.numbered labels others s t first second e
