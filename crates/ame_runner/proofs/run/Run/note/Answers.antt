use Rattle.std.proofs.Common.{◌≡◌, ◌+◌, ◌≤◌, ◌⊎◌, inl, inr, ◌∙◌, true, length, map, refl, ap, arith}
use Rattle.ame_term.specs.View.{tree_of, typ_of}
use Rattle.ame_laws.proofs.Typed.Started.{accepted}
use Rattle.ame_runner.specs.Run.{CourseView}
use Rattle.ame_runner.specs.View.{tries_made, aside_of, run_of}
use Rattle.ame_runner.proofs.HoldLemmas.{tried_fragments_hold, tried-within}
use Rattle.ame_runner.proofs.CountLemmas.{runs-noted, how-noted}
use Rattle.ame_runner.proofs.DrawLemmas.{comes-to-nothing}
use Rattle.ame_runner.proofs.run.Run.note.Goals as goal

pub returns-clause-runs : goal.returns-clause-runs
returns-clause-runs c = λ running.
    let old = run_of c.args.self.now in
    let tried = c.args.tried.now in
    let t = c.in_ok-t.t in
    let tells = c.in_ok-t.ensures.tells in
    let q : CourseView = record old { tries = tries_made c.add.new.self; aside = aside_of c.add.new.self; turns = old.turns + tried.turns } in
    let counted = c.requires.tried.counted in
    let turn = c.requires.turn in
    let most = c.requires.tried.within in
    let within = running.within in
    let steps = tells.steps in
    let turns : q.turns ≡ old.turns + (t.certificate.steps + 1) = omega (arith, counted, turn, steps) in
    let few : q.turns ≤ q.limit = omega (arith, most, within) in
    let a = c.args.self.now.play.accepted.now in
    let p = tree_of a.program.term in
    let refs = map typ_of a.ref_tys.items in
    let holds =
    tried_fragments_hold a.devices a.program.places.items p refs
    (accepted a.devices a.program.places.items p refs a.typed) a.program.source a.program.numbered
    old.play.labels old.play.weak c.args.number old.above _ tried t running.played.leads c.requires.idle c.requires.tried tells in
    let how : (t.failing ≡ true) ⊎ (q.turns ≡ q.limit) = elim (how-noted tried.outcome turn c.requires.low) [
      | inl fails ↦ inl (tells.failing ∙ fails)
      | inr cut ↦ inr (let all = c.requires.tried.used cut in omega (arith, all, within))
    ] in
    runs-noted old q t running c.requires.idle (c.in_ok-t.ensures.after ∙ ap length c.labels.ensures)
    (holds, tried-within old.play.weak c.args.number old.above _ tried c.requires.tried t tells)
    (λ failing. ap old.aside tells.number ∙ c.requires.free) c.in_ok-add.ensures.aside refl c.in_ok-add.ensures.tries refl refl turns few c.requires.turns c.requires.left how

pub returns-clause-tried : goal.returns-clause-tried
returns-clause-tried c =
    let tells = c.in_ok-t.ensures.tells in
    inr (record {
      tried = c.args.tried.now;
      attempt = c.requires.tried;
      nothing = comes-to-nothing c.args.tried.now.outcome c.requires.turn c.requires.low;
      t = c.in_ok-t.t;
      says = tells;
      after = c.in_ok-t.ensures.after ∙ ap length c.labels.ensures;
      play = refl;
      tries = c.in_ok-add.ensures.tries;
      aside = c.in_ok-add.ensures.aside;
      left = refl;
      above = refl;
      turns = refl;
      limit = refl;
    })
