use Rattle.std.proofs.Common.{map, refl, subst}
use Rattle.ame_term.specs.View.{tree_of, typ_of}
use Rattle.ame_device.specs.Calls.{all_told}
use Rattle.ame_laws.proofs.Typed.Started.{accepted}
use Rattle.ame_weak.specs.Weak.{Weak}
use Rattle.ame_runner.specs.Freeing.{HasFreed, IsOwnOf}
use Rattle.ame_runner.specs.View.{run_of}
use Rattle.ame_runner.proofs.ChooseLemmas.{goes-label, goes-fault}
use Rattle.ame_runner.proofs.DrawLemmas.{steps-free, stops-fault}
use Rattle.ame_runner.proofs.run.Run.free_or_fault.Goals as goal

pub returns-in_ok-count-in-Label-clause-goes : goal.returns-in_ok-count-in-Label-clause-goes
returns-in_ok-count-in-Label-clause-goes g c =
    let old = run_of c.args.self.now in
    let before = all_told g.D.Device.device_told c.args.devices.now.items in
    let after = all_told g.D.Device.device_told c.next_free.new.devices.items in
    let a = c.args.self.now.play.accepted.now in
    let p = tree_of a.program.term in
    let refs = map typ_of a.ref_tys.items in
    goes-label a.devices a.program.places.items p refs
    (accepted a.devices a.program.places.items p refs a.typed) a.program.source a.program.numbered
    old (run_of c.count.new.self) c.args.number c.in-Label.label before after refl
    (subst (HasFreed old.play.weak c.args.number old.above before after) c.in-Label.is
    (subst (λ (w : Weak). HasFreed w c.args.number old.above before after c.in_ok-label.field-0) c.state.ensures c.in_ok-label.ensures.freed))
    c.in_ok-count-in-Label.ensures.counts.adds.made c.in_ok-count-in-Label.ensures.runs

pub returns-in_ok-end_by-in-Fault-clause-goes : goal.returns-in_ok-end_by-in-Fault-clause-goes
returns-in_ok-end_by-in-Fault-clause-goes g c =
    let old = run_of c.args.self.now in
    let before = all_told g.D.Device.device_told c.args.devices.now.items in
    let after = all_told g.D.Device.device_told c.next_free.new.devices.items in
    let stopped = c.in_ok-end_by-in-Fault.ensures.stopped in
    goes-fault old (run_of c.end_by.new.self) c.args.number c.in-Fault.device before after
    (subst (HasFreed old.play.weak c.args.number old.above before after) c.in-Fault.is
    (subst (λ (w : Weak). HasFreed w c.args.number old.above before after c.in_ok-label.field-0) c.state.ensures c.in_ok-label.ensures.freed))
    c.in_ok-end_by-in-Fault.ensures.runs c.in_ok-end_by-in-Fault.ensures.hears stopped.none stopped.idle stopped.cause

pub returns-in_ok-count-in-Label-clause-taken : goal.returns-in_ok-count-in-Label-clause-taken
returns-in_ok-count-in-Label-clause-taken g c =
    let old = run_of c.args.self.now in
    let before = all_told g.D.Device.device_told c.args.devices.now.items in
    let after = all_told g.D.Device.device_told c.next_free.new.devices.items in
    let freed =
    subst (HasFreed old.play.weak c.args.number old.above before after) c.in-Label.is
    (subst (λ (w : Weak). HasFreed w c.args.number old.above before after c.in_ok-label.field-0) c.state.ensures c.in_ok-label.ensures.freed) in
    steps-free c.args.number old (run_of c.count.new.self) c.in-Label.label (subst (IsOwnOf c.args.number) c.in-Label.is c.in_ok-label.ensures.own) freed.0
    c.in_ok-count-in-Label.ensures.counts

pub returns-in_ok-end_by-in-Fault-clause-taken : goal.returns-in_ok-end_by-in-Fault-clause-taken
returns-in_ok-end_by-in-Fault-clause-taken g c =
    let old = run_of c.args.self.now in
    let before = all_told g.D.Device.device_told c.args.devices.now.items in
    let after = all_told g.D.Device.device_told c.next_free.new.devices.items in
    stops-fault c.args.number c.in-Fault.device old (run_of c.end_by.new.self) before after
    (subst (HasFreed old.play.weak c.args.number old.above before after) c.in-Fault.is
    (subst (λ (w : Weak). HasFreed w c.args.number old.above before after c.in_ok-label.field-0) c.state.ensures c.in_ok-label.ensures.freed))
    c.in_ok-end_by-in-Fault.ensures.out
