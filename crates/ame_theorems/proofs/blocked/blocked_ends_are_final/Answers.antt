use Rattle.std.specs.Prelude.{◌++◌, map}
use Rattle.ame_term.specs.View.{tree_of, typ_of}
use Rattle.ame_laws.proofs.Typed.Started.{accepted}
use Rattle.ame_journal.proofs.LabelLemmas.{unfold-all, unfolds_all-run}
use Rattle.ame_journal.specs.Replayed.{begun_at}
use Rattle.ame_calculus.proofs.DeadLemmas.{program-rests, certificates-end}
use Rattle.ame_theorems.proofs.BlockedLemmas.{end-blocked}
use Rattle.ame_theorems.proofs.blocked.blocked_ends_are_final.Goals as goal

pub returns-clause-rests : goal.returns-clause-rests
returns-clause-rests g c =
    let a = c.args.accepted.now in
    let p = tree_of a.program.term in
    let refs = map typ_of a.ref_tys.items in
    λ signature limits value end over stop more t e idle.
    let all = unfold-all (begun_at p) (end.base ++ end.entries) over.r over.replays in
    program-rests a.devices a.program.places.items p refs (accepted a.devices a.program.places.items p refs a.typed) a.program.source a.program.numbered all.0 over.r.state
    (unfolds_all-run (begun_at p) (end.base ++ end.entries) all.0 over.r all.1) (end-blocked p signature limits value end over stop) more t e idle

pub returns-clause-certificates : goal.returns-clause-certificates
returns-clause-certificates g c =
    let a = c.args.accepted.now in
    let p = tree_of a.program.term in
    let refs = map typ_of a.ref_tys.items in
    λ signature limits value end over stop more t goes.
    certificates-end a.devices a.program.places.items p refs (accepted a.devices a.program.places.items p refs a.typed) a.program.source a.program.numbered
    (end.base ++ end.entries) more over.r t over.replays (end-blocked p signature limits value end over stop) goes
