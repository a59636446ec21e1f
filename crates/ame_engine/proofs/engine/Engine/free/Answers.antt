use Rattle.std.proofs.Common.{◌≡◌, ℕ, subst}
use Rattle.ame_device.specs.Calls.{all_told}
use Rattle.ame_protocol.specs.declared.types.Task.{Task}
use Rattle.ame_protocol.specs.Engine.Parts.{task_at}
use Rattle.ame_protocol.specs.Engine.Simulates.{Simulates}
use Rattle.ame_engine.specs.Seen.{parts_of}
use Rattle.ame_engine.specs.Visiting.{HasComeHome, HasBeenRefused}
use Rattle.ame_engine.proofs.VisitFreeLemmas.{served-low, its-free, same-number, served-visit, served-settles, home-served}
use Rattle.ame_engine.proofs.engine.Engine.free.Goals as goal

pub returns-in-Some-Device-clause-home : goal.returns-in-Some-Device-clause-home
returns-in-Some-Device-clause-home g c = λ attempt is home.
    let here : task_at c.args.self.now.tasks c.args.seat ≡ Task.Free c.in-Free.attempt =
    its-free _ c.args.self.now c.self.view_is c.args.seat c.requires.on.stands.attempt c.requires.on.stands.has _ c.in-Free.attempt c.index.ensures c.in-Free.is in
    subst (λ (n : ℕ). HasComeHome g.M.Runner.meaning c.args.seat n
    (g.M.Runner.meaning.stage c.args.self.now.code c.args.at) (all_told g.D.Device.device_told c.args.devices.now.items)
    (all_told g.D.Device.device_told c.visit_device.new.devices.items) c.args.self.now c.visit_device.new.self)
    (same-number _ c.in-Free.attempt attempt here is) (c.visit_device.ensures.home home)

pub returns-in-Some-Device-clause-refused : goal.returns-in-Some-Device-clause-refused
returns-in-Some-Device-clause-refused g c = λ attempt k is fault.
    let here : task_at c.args.self.now.tasks c.args.seat ≡ Task.Free c.in-Free.attempt =
    its-free _ c.args.self.now c.self.view_is c.args.seat c.requires.on.stands.attempt c.requires.on.stands.has _ c.in-Free.attempt c.index.ensures c.in-Free.is in
    subst (λ (n : ℕ). HasBeenRefused g.M.Runner.meaning c.args.seat n k
    (g.M.Runner.meaning.stage c.args.self.now.code c.args.at) (all_told g.D.Device.device_told c.args.devices.now.items)
    (all_told g.D.Device.device_told c.visit_device.new.devices.items) c.args.self.now c.visit_device.new.self)
    (same-number _ c.in-Free.attempt attempt here is) (c.visit_device.ensures.refused k fault)

pub end_visit-requires-clause-settles : goal.end_visit-requires-clause-settles
end_visit-requires-clause-settles g c =
    let stands = subst (λ x. Simulates (parts_of g.M.Runner.meaning x)) c.self.view_is c.self.invariant.whole.state.stands in
    let here : task_at c.args.self.now.tasks c.args.seat ≡ Task.Free c.in-Free.attempt =
    its-free _ c.args.self.now c.self.view_is c.args.seat c.requires.on.stands.attempt c.requires.on.stands.has _ c.in-Free.attempt c.index.ensures c.in-Free.is in
    served-settles g.M.Runner.meaning
    c.args.self.now stands c.args.seat c.args.at c.requires.on c.requires.visits (g.met.M.Runner.sound c.args.self.now.code c.args.at c.requires.on.machine)
    c.in-Free.attempt here c.serve.new.at c.in_ok-change.change c.in_ok-change.ensures

pub end_visit-requires-clause-visit : goal.end_visit-requires-clause-visit
end_visit-requires-clause-visit g c =
    let stands = subst (λ x. Simulates (parts_of g.M.Runner.meaning x)) c.self.view_is c.self.invariant.whole.state.stands in
    let here : task_at c.args.self.now.tasks c.args.seat ≡ Task.Free c.in-Free.attempt =
    its-free _ c.args.self.now c.self.view_is c.args.seat c.requires.on.stands.attempt c.requires.on.stands.has _ c.in-Free.attempt c.index.ensures c.in-Free.is in
    served-visit g.M.Runner.meaning
    c.args.self.now stands c.args.seat c.args.at c.requires.on c.requires.visits (g.met.M.Runner.sound c.args.self.now.code c.args.at c.requires.on.machine)
    c.in-Free.attempt here c.serve.new.at c.in_ok-change.change c.in_ok-change.ensures

pub returns-clause-home : goal.returns-clause-home
returns-clause-home g c = λ attempt is _.
    let stands = subst (λ x. Simulates (parts_of g.M.Runner.meaning x)) c.self.view_is c.self.invariant.whole.state.stands in
    let here : task_at c.args.self.now.tasks c.args.seat ≡ Task.Free c.in-Free.attempt =
    its-free _ c.args.self.now c.self.view_is c.args.seat c.requires.on.stands.attempt c.requires.on.stands.has _ c.in-Free.attempt c.index.ensures c.in-Free.is in
    subst (λ (n : ℕ). HasComeHome g.M.Runner.meaning c.args.seat n
    (g.M.Runner.meaning.stage c.args.self.now.code c.args.at) (all_told g.D.Device.device_told c.args.devices.now.items)
    (all_told g.D.Device.device_told c.args.devices.now.items) c.args.self.now c.end_visit.new.self)
    (same-number _ c.in-Free.attempt attempt here is)
    (home-served g.M.Runner.meaning
    c.args.self.now stands c.args.seat c.args.at c.requires.on c.requires.visits (g.met.M.Runner.sound c.args.self.now.code c.args.at c.requires.on.machine)
    c.in-Free.attempt here c.serve.new.at c.in_ok-change.change c.in_ok-change.ensures
    (all_told g.D.Device.device_told c.args.devices.now.items) c.end_visit.new.self c.in_ok-end_visit.ensures.event)

pub end_visit-requires-clause-low : goal.end_visit-requires-clause-low
end_visit-requires-clause-low g c =
    let stands = subst (λ x. Simulates (parts_of g.M.Runner.meaning x)) c.self.view_is c.self.invariant.whole.state.stands in
    let here : task_at c.args.self.now.tasks c.args.seat ≡ Task.Free c.in-Free.attempt =
    its-free _ c.args.self.now c.self.view_is c.args.seat c.requires.on.stands.attempt c.requires.on.stands.has _ c.in-Free.attempt c.index.ensures c.in-Free.is in
    served-low g.M.Runner.meaning
    c.args.self.now stands c.args.seat c.args.at c.requires.on c.requires.visits (g.met.M.Runner.sound c.args.self.now.code c.args.at c.requires.on.machine)
    c.in-Free.attempt here c.serve.new.at c.in_ok-change.change c.in_ok-change.ensures
