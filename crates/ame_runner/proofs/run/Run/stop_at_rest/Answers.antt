use Rattle.std.proofs.Common.{map, refl}
use Rattle.ame_term.specs.View.{tree_of, typ_of}
use Rattle.ame_laws.proofs.Typed.Started.{accepted}
use Rattle.ame_runner.specs.View.{run_of}
use Rattle.ame_runner.proofs.ChooseLemmas.{found-finished, found-spent, found-blocked}
use Rattle.ame_runner.proofs.run.Run.stop_at_rest.Goals as goal

pub returns-then-is_over : goal.returns-then-is_over
returns-then-is_over c = found-finished (run_of c.args.self.now) c.requires (c.is_busy.ensures c.if-is_busy.false) (c.is_over.ensures.yes c.if-is_over.true)

pub certificates-requires : goal.certificates-requires
certificates-requires c = c.is_busy.ensures c.if-is_busy.false

pub returns-then-stuck : goal.returns-then-stuck
returns-then-stuck c =
    let a = c.args.self.now.play.accepted.now in
    let p = tree_of a.program.term in
    let refs = map typ_of a.ref_tys.items in
    found-blocked a.devices a.program.places.items p refs
    (accepted a.devices a.program.places.items p refs a.typed) a.program.source a.program.numbered
    (run_of c.args.self.now) c.in_ok-certificates.certificates refl c.requires (c.is_busy.ensures c.if-is_busy.false) (c.is_over.ensures.no c.if-is_over.false) (c.in_ok-stuck.ensures.yes c.if-stuck.true)
    c.in_ok-certificates.ensures.fail c.in_ok-certificates.ensures.all c.in_ok-certificates.ensures.rise

pub returns-then-is_spent : goal.returns-then-is_spent
returns-then-is_spent c =
    found-spent (run_of c.args.self.now) c.requires (c.is_busy.ensures c.if-is_busy.false) (c.is_over.ensures.no c.if-is_over.false) (c.in_ok-stuck.ensures.no c.if-stuck.false) (c.is_spent.ensures.yes c.if-is_spent.true)

pub returns : goal.returns
returns c = (c.is_busy.ensures c.if-is_busy.false, c.in_ok-stuck.ensures.no c.if-stuck.false, c.is_spent.ensures.no c.if-is_spent.false)
