use Rattle.std.proofs.Common.{refl}
use Rattle.ame_eval.specs.Machines.{stage_by}
use Rattle.ame_machine_cases.proofs.AloneLemmas.{held-some, takes-value, held-typed, alone-read}
use Rattle.ame_machine_cases.proofs.lone.Lone.read.Goals as goal

pub feed-requires-clause-machine : goal.feed-requires-clause-machine
feed-requires-clause-machine c = c.requires.alone.2.machine

pub feed-requires-clause-wanted : goal.feed-requires-clause-wanted
feed-requires-clause-wanted c = takes-value (stage_by c.args.code.now c.args.self.now.machine).want c.args.l.0 c.in-Some.value c.requires.takes

pub feed-requires-clause-value : goal.feed-requires-clause-value
feed-requires-clause-value c =
    let m = c.args.self.now in
    let held = held-some m.cells.items c.as_slice.result.now c.args.l.0 c.in_ok-found.found c.in-Some.value c.in-Some.is c.as_slice.ensures.value c.in_ok-found.ensures in
    (held-typed c.args.code.now m c.requires.alone c.args.l.0 c.in-Some.value held).0

pub returns-in-Some : goal.returns-in-Some
returns-in-Some c =
    let m = c.args.self.now in
    let held = held-some m.cells.items c.as_slice.result.now c.args.l.0 c.in_ok-found.found c.in-Some.value c.in-Some.is c.as_slice.ensures.value c.in_ok-found.ensures in
    alone-read c.args.code.now m _ c.args.l.0 c.in-Some.value c.requires.alone held c.requires.takes refl refl c.feed.ensures.machine c.feed.ensures.stage
