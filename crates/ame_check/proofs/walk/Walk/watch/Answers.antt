use Rattle.std.proofs.Common.{◌<◌, ◌≤◌, arith}
use Rattle.ame_check.proofs.StopLemmas.{err-as, run-stopped}
use Rattle.ame_check.proofs.StandingLemmas.{watching-begins, watched-there, watched-few, watching-ends, watching-goes-on}
use Rattle.ame_check.proofs.walk.Walk.watch.Goals as goal

pub loop-made-init : goal.loop-made-init
loop-made-init g c =
    watching-begins g.M.Runner.meaning c.args.self.now.code.now c.args.self.now.entry.now.fresh c.args.self.now.cells.now.entries c.args.overlay.now.entries c.args.machine.now c.args.self.now.entry.now.steps
    c.new-reads.result.entries c.new-reads.ensures.empty c.requires.none

pub go-requires-clause-walking : goal.go-requires-clause-walking
go-requires-clause-walking g c = (
  c.requires.walking.0,
  c.requires.walking.1,
  (watched-there g.M.Runner.meaning c.args.self.now.code.now c.args.self.now.entry.now.fresh c.args.self.now.cells.now.entries c.args.overlay.now.entries c.args.machine.now c.args.self.now.entry.now.steps
      c.loop-made.overlay.entries c.loop-made.machine c.loop-made.made c.loop-made.reads.entries c.loop-made.invariant c.requires.walking).stands.walking,
)

pub go-requires-clause-below : goal.go-requires-clause-below
go-requires-clause-below g c =
    watched-few g.M.Runner.meaning c.args.self.now.code.now c.args.self.now.entry.now.fresh c.args.self.now.cells.now.entries c.args.overlay.now.entries c.args.machine.now c.args.self.now.entry.now.steps
    c.loop-made.overlay.entries c.loop-made.machine c.loop-made.made c.loop-made.reads.entries c.loop-made.invariant c.requires.walking

pub loop-made-preserved : goal.loop-made-preserved
loop-made-preserved g c =
    watching-goes-on g.M.Runner.meaning c.args.self.now.code.now c.args.self.now.entry.now.fresh c.args.self.now.cells.now.entries c.args.overlay.now.entries c.args.machine.now c.args.self.now.entry.now.steps
    c.loop-made.overlay.entries c.loop-made.machine c.loop-made.made c.loop-made.reads.entries c.loop-made.invariant (g.met.M.Runner.sound c.args.self.now.code.now) c.go.new.overlay.entries c.go.new.machine c.in_ok-want.want c.loop-made-test.true
    c.in_ok-want.ensures.whole
    c.note_read.new.reads.entries c.in_ok-note_read.ensures

pub returns-clause-watched : goal.returns-clause-watched
returns-clause-watched g c =
    watching-ends g.M.Runner.meaning c.args.self.now.code.now c.args.self.now.entry.now.fresh c.args.self.now.cells.now.entries c.args.overlay.now.entries c.args.machine.now c.args.self.now.entry.now.steps
    c.loop-made.overlay.entries c.loop-made.machine c.loop-made.made c.loop-made.reads.entries c.loop-made.invariant (omega (arith, c.loop-made.auto.made-end, c.loop-made-test.false))

pub returns-in_err-want-clause-halted : goal.returns-in_err-want-clause-halted
returns-in_err-want-clause-halted g c =
    let below : c.loop-made.made < c.args.self.now.entry.now.steps = c.loop-made-test.true in
    let within : c.loop-made.made ≤ c.args.self.now.entry.now.steps = omega arith in
    err-as c.from_residual.result c.in_err-want.field-0.0 _ c.from_residual.ensures.1
    (λ s i side n a.
    let there = c.loop-made.invariant s i side n a in
    run-stopped side i c.loop-made.made c.args.self.now.entry.now.steps c.args.self.now.entry.now.fresh s within c.in_err-want.field-0.0
    (c.in_err-want.ensures.halted s i side there.made there.stands))
