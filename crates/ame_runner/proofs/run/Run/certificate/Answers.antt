use Rattle.std.proofs.Common.{◌∙◌, ap, map, subst}
use Rattle.ame_term.specs.View.{tree_of, typ_of}
use Rattle.ame_laws.proofs.Typed.Started.{accepted}
use Rattle.ame_weak.specs.Weak.{Weak}
use Rattle.ame_runner.specs.Trial.{is_failure, IsTriedOut}
use Rattle.ame_runner.specs.View.{run_of}
use Rattle.ame_runner.proofs.HoldLemmas.{tried_fragments_hold}
use Rattle.ame_runner.proofs.ChooseLemmas.{fails-there}
use Rattle.ame_runner.proofs.run.Run.certificate.Goals as goal

pub returns-in-Fails-clause-fails : goal.returns-in-Fails-clause-fails
returns-in-Fails-clause-fails c = λ running.
    let old = run_of c.args.self.now in
    let t = c.in_ok-t-in-Fails.t in
    let tells = c.in_ok-t-in-Fails.ensures.tells in
    let a = c.args.self.now.play.accepted.now in
    let p = tree_of a.program.term in
    let refs = map typ_of a.ref_tys.items in
    let holds =
    tried_fragments_hold a.devices a.program.places.items p refs
    (accepted a.devices a.program.places.items p refs a.typed) a.program.source a.program.numbered
    old.play.labels old.play.weak c.args.number old.above 4294967295 c.in_ok-tried.tried t running.played.leads c.requires (subst (λ (w : Weak). IsTriedOut w c.args.number old.above 4294967295 c.in_ok-tried.tried) c.state.ensures c.in_ok-tried.ensures) tells in
    fails-there old.play.weak t holds (tells.failing ∙ ap is_failure c.in-Fails.is)
