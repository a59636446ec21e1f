use Rattle.std.proofs.Common.{◌≡◌, ◌+◌, length, map, refl, ap, arith}
use Rattle.ame_term.specs.View.{tree_of, typ_of}
use Rattle.ame_journal.specs.declared.entry.Entry.{Entry}
use Rattle.ame_laws.proofs.Typed.Started.{accepted}
use Rattle.ame_runner.specs.Trial.{last_turn}
use Rattle.ame_runner.specs.View.{run_of}
use Rattle.ame_runner.proofs.HoldLemmas.{tried_grow_tall, tall-within}
use Rattle.ame_runner.proofs.ChooseLemmas.{attempts-tall}
use Rattle.ame_runner.proofs.DrawLemmas.{keeps-still}
use Rattle.ame_runner.proofs.run.Run.grow.Goals as goal

pub returns-clause-runs : goal.returns-clause-runs
returns-clause-runs c = λ running.
    let old = run_of c.args.self.now in
    let tried = c.args.tried.now in
    let entry = c.in_ok-entry.entry in
    let counted = c.requires.tried.counted in
    let turn : last_turn tried.outcome ≡ 0 = ap last_turn c.requires.tall in
    let steps : entry.steps ≡ length tried.kinds.items = ap (λ (e : Entry). e.steps) c.in_ok-entry.ensures in
    let most = c.requires.tried.within in
    let within = running.within in
    let a = c.args.self.now.play.accepted.now in
    let p = tree_of a.program.term in
    let refs = map typ_of a.ref_tys.items in
    attempts-tall old (record old { turns = old.turns + tried.turns }) entry (old.turns + tried.turns) refl (omega (arith, counted, turn, steps)) (omega (arith, most, within))
    c.requires.left c.requires.idle (
      (tried_grow_tall a.devices a.program.places.items p refs
          (accepted a.devices a.program.places.items p refs a.typed) a.program.source a.program.numbered
          old.play.labels old.play.weak c.args.number old.above _ tried entry running.played.leads running.played.within c.requires.idle c.requires.tried c.requires.tall c.in_ok-entry.ensures),
      tall-within old.play.weak c.args.number old.above _ tried c.requires.tried entry c.in_ok-entry.ensures,
    )
    running

pub returns-clause-grown : goal.returns-clause-grown
returns-clause-grown c = record { tried = c.args.tried.now; attempt = c.requires.tried; tall = c.requires.tall; note = c.in_ok-entry.ensures; counted = refl }

pub returns-clause-kept : goal.returns-clause-kept
returns-clause-kept c =
    let old = run_of c.args.self.now in
    keeps-still old (record old { turns = old.turns + c.args.tried.now.turns }) c.requires.left refl refl
