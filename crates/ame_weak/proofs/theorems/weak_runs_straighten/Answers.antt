use Rattle.std.specs.Prelude.{map}
use Rattle.ame_term.specs.View.{tree_of, typ_of}
use Rattle.ame_laws.proofs.Typed.Started.{accepted}
use Rattle.ame_weak.proofs.StraightLemmas.{weak_runs_straighten}
use Rattle.ame_weak.proofs.theorems.weak_runs_straighten.Goals as goal

pub returns : goal.returns
returns c =
    let a = c.args.accepted.now in
    let p = tree_of a.program.term in
    let refs = map typ_of a.ref_tys.items in
    weak_runs_straighten a.devices a.program.places.items p refs
    (accepted a.devices a.program.places.items p refs a.typed) a.program.source a.program.numbered
