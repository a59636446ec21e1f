use Rattle.std.proofs.Common.{◌∙◌, ap, sym}
use Rattle.std.specs.Prelude.{map}
use Rattle.ame_term.specs.View.{tree_of, typ_of}
use Rattle.ame_laws.proofs.Typed.Started.{accepted}
use Rattle.ame_weak.specs.Weak.{Weak, holding_none}
use Rattle.ame_weak.proofs.StraightLemmas.{weak_runs_straighten}
use Rattle.ame_calculus.proofs.WeakLemmas.{shown-weakly, shown-strongly}
use Rattle.ame_calculus.proofs.weak.weak_runs_show_what_strong_runs_show.Goals as goal

pub returns-clause-shows : goal.returns-clause-shows
returns-clause-shows c =
    let a = c.args.accepted.now in
    let p = tree_of a.program.term in
    let refs = map typ_of a.ref_tys.items in
    let accepts = accepted a.devices a.program.places.items p refs a.typed in
    λ s calls idle. (
      shown-weakly a.devices a.program.places.items p refs accepts a.program.source a.program.numbered s calls idle,
      shown-strongly a.devices a.program.places.items p refs accepts a.program.source a.program.numbered s calls idle,
    )

pub returns-clause-rests : goal.returns-clause-rests
returns-clause-rests c =
    let a = c.args.accepted.now in
    let p = tree_of a.program.term in
    let refs = map typ_of a.ref_tys.items in
    let accepts = accepted a.devices a.program.places.items p refs a.typed in
    λ labels w e idle.
    let r = weak_runs_straighten a.devices a.program.places.items p refs accepts a.program.source a.program.numbered labels w e idle in
    r.2 ∙ ap holding_none (sym (ap (λ (z : Weak). z.state) r.2))
