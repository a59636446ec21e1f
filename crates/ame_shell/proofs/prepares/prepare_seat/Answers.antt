use Rattle.ame_shell.proofs.ReadyLemmas.{can-prepare, can-with, prepared-fits, prepared-with}
use Rattle.std.proofs.Common.{ap, arith}
use Rattle.ame_protocol.specs.declared.types.Limits.{Limits}
use Rattle.ame_shell.proofs.prepares.prepare_seat.Goals as goal

pub prepare-requires-clause-can : goal.prepare-requires-clause-can
prepare-requires-clause-can g c =
    let slice = c.requires.limits.slice in
    let turns = c.requires.limits.turns in
    can-with g.M.Runner.meaning.is_machine g.M.Runner.meaning.stage _ _ _ _ c.requires.same (ap (λ (l : Limits). l.slice) c.limits.ensures) c.args.work.now
    (can-prepare g.M.Runner.meaning c.args.engine.now c.args.seat c.args.work.now c.stands.ensures c.requires.fits (omega (arith, slice)) (omega (arith, turns)))

pub returns-clause-fits : goal.returns-clause-fits
returns-clause-fits g c =
    let is = ap (λ (l : Limits). l.slice) c.limits.ensures in
    let once = prepared-with g.M.Runner.meaning.is_machine g.M.Runner.meaning.stage _ _ _ _ c.requires.same is c.args.work.now c.prepare.new.work c.prepare.ensures.prepared in
    prepared-fits g.M.Runner.meaning c.args.engine.now c.args.seat c.args.work.now c.prepare.new.work c.requires.fits once
