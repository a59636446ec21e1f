use Rattle.std.proofs.Common.{◌≡◌, ◌+◌, ℤ, Some, Ok, Err, w64, to_z, of_z, ap, ◌∙◌, subst, arith, rules}
use Rattle.std.proofs.lemmas.Int.{ints, to_z-of_z}
use Rattle.std.specs.Arc.{arc_value}
use Rattle.ame_term.specs.Tree.{Val}
use Rattle.ame_machine.specs.Move.{after_input}
use Rattle.ame_device.specs.declared.fault.DeviceFail.{DeviceFail}
use Rattle.ame_device.specs.Calls.{all_told, CallsOne}
use Rattle.ame_device.proofs.ListLemmas.{wanting-leaves}
use Rattle.ame_engine.proofs.PlaceLemmas.{places-freed}
use Rattle.ame_engine.proofs.VisitEndLemmas.{end-task, called-fit}
use Rattle.ame_engine.proofs.VisitCallLemmas.{call-within, call-steps, call-led, call-busy, whole-called, home-called}
use Rattle.ame_engine.proofs.engine.Engine.visit_device.Goals as goal

pub call_device-requires : goal.call_device-requires
call_device-requires g c =
    call-within g.M.Runner.meaning
    _ c.args.self.now c.self.view_is c.self.invariant.whole c.args.seat c.args.attempt c.requires.task c.requires.left
    c.args.at c.requires.on c.requires.visits (g.met.M.Runner.sound c.args.self.now.code c.args.at c.requires.on.machine) c.args.device c.args.argument c.requires.wants
    _ c.requires.devices

pub answered-requires : goal.answered-requires
answered-requires g c =
    call-steps g.M.Runner.meaning
    _ c.args.self.now c.self.view_is c.self.invariant.whole c.args.seat c.args.attempt c.requires.task c.requires.left
    c.args.at c.requires.on c.requires.visits (g.met.M.Runner.sound c.args.self.now.code c.args.at c.requires.on.machine) c.args.device c.args.argument c.requires.wants
    c.in_ok-entry.entry (c.in_ok-entry.ensures (arc_value c.self.inside.code)) c.requires.steps

pub push-requires-clause-fit : goal.push-requires-clause-fit
push-requires-clause-fit g c =
    called-fit g.M.Runner.meaning
    _ c.args.self.now c.self.view_is c.self.invariant.whole c.args.seat c.args.attempt c.requires.task c.requires.left
    c.in_ok-entry.entry c.answered.result c.args.at _ (c.in_ok-entry.ensures (arc_value c.self.inside.code)) c.answered.ensures

pub send_home-requires : goal.send_home-requires
send_home-requires g c =
    call-busy g.M.Runner.meaning
    _ c.args.self.now c.self.view_is c.self.invariant.whole c.args.seat c.args.attempt c.requires.task c.requires.left
    c.args.at c.requires.on c.requires.visits (g.met.M.Runner.sound c.args.self.now.code c.args.at c.requires.on.machine) c.args.device c.args.argument c.requires.wants

pub invariant_of-self-in-Ok : goal.invariant_of-self-in-Ok
invariant_of-self-in-Ok g c =
    let answer : to_z w64 (of_z w64 c.in-Ok.answer) ≡ c.in-Ok.answer = grind (arith, ints, to_z-of_z) in
    let argument : to_z w64 (of_z w64 c.args.argument) ≡ c.args.argument = grind (arith, ints, to_z-of_z) in
    let called = subst (λ (n : ℤ). CallsOne (all_told g.D.Device.device_told c.args.devices.now.items) c.args.device n (Ok c.in-Ok.answer)
    (all_told g.D.Device.device_told c.call_device.new.devices.items)) argument c.in-Ok.ensures in
    let same : c.deref.result.now ≡ arc_value c.self.inside.code = search rules in
    let machine = subst (λ k. g.M.Runner.meaning.is_machine k c.feed.new.self) same c.feed.ensures.machine in
    let told : after_input (g.M.Runner.meaning.stage c.deref.result.now c.args.at).want (Val.Int c.in-Ok.answer) (g.M.Runner.meaning.stage c.deref.result.now c.args.at)
    ≡ Some (g.M.Runner.meaning.stage c.deref.result.now c.feed.new.self) =
    subst (λ (n : ℤ). after_input (g.M.Runner.meaning.stage c.deref.result.now c.args.at).want (Val.Int n) (g.M.Runner.meaning.stage c.deref.result.now c.args.at)
    ≡ Some (g.M.Runner.meaning.stage c.deref.result.now c.feed.new.self)) answer c.feed.ensures.stage in
    let fed = subst (λ k. after_input (g.M.Runner.meaning.stage k c.args.at).want (Val.Int c.in-Ok.answer) (g.M.Runner.meaning.stage k c.args.at) ≡ Some (g.M.Runner.meaning.stage k c.feed.new.self)) same told in
    let entry : c.answered.result ≡ record c.in_ok-entry.entry { steps = c.in_ok-entry.entry.steps + 1; answer = Some c.in-Ok.answer } =
    c.answered.ensures ∙ ap (λ (n : ℤ). record c.in_ok-entry.entry { steps = c.in_ok-entry.entry.steps + 1; answer = Some n }) answer in
    record {
      whole = whole-called g.M.Runner.meaning
          _ c.args.self.now c.self.view_is c.self.invariant.whole c.args.seat c.args.attempt c.requires.task c.requires.left
          c.args.at c.requires.on c.requires.visits (g.met.M.Runner.sound c.args.self.now.code c.args.at c.requires.on.machine) c.args.device c.args.argument c.requires.wants
          c.in-Ok.answer c.feed.new.self machine fed _ _ called
          c.in_ok-entry.entry c.answered.result (c.in_ok-entry.ensures (arc_value c.self.inside.code)) entry
          c.push.new.self.entries c.room.new.self.entries c.room.ensures.entries c.push.ensures.entries
          c.send_home.new.pool (c.send_home.ensures.shown (arc_value c.self.inside.code)) (c.send_home.ensures.rests (arc_value c.self.inside.code)) c.requires.going;
      places = places-freed c.self.inside.tasks.items c.args.seat _ _ c.args.attempt (end-task g.M.Runner.meaning
          _ c.args.self.now c.self.view_is c.self.invariant.whole c.args.seat c.args.attempt c.requires.task c.requires.left) c.self.invariant.places;
    }

pub returns-in-Ok-clause-home : goal.returns-in-Ok-clause-home
returns-in-Ok-clause-home g c =
    let answer : to_z w64 (of_z w64 c.in-Ok.answer) ≡ c.in-Ok.answer = grind (arith, ints, to_z-of_z) in
    let argument : to_z w64 (of_z w64 c.args.argument) ≡ c.args.argument = grind (arith, ints, to_z-of_z) in
    let called = subst (λ (n : ℤ). CallsOne (all_told g.D.Device.device_told c.args.devices.now.items) c.args.device n (Ok c.in-Ok.answer)
    (all_told g.D.Device.device_told c.call_device.new.devices.items)) argument c.in-Ok.ensures in
    let same : c.deref.result.now ≡ arc_value c.self.inside.code = search rules in
    let machine = subst (λ k. g.M.Runner.meaning.is_machine k c.feed.new.self) same c.feed.ensures.machine in
    let told : after_input (g.M.Runner.meaning.stage c.deref.result.now c.args.at).want (Val.Int c.in-Ok.answer) (g.M.Runner.meaning.stage c.deref.result.now c.args.at)
    ≡ Some (g.M.Runner.meaning.stage c.deref.result.now c.feed.new.self) =
    subst (λ (n : ℤ). after_input (g.M.Runner.meaning.stage c.deref.result.now c.args.at).want (Val.Int n) (g.M.Runner.meaning.stage c.deref.result.now c.args.at)
    ≡ Some (g.M.Runner.meaning.stage c.deref.result.now c.feed.new.self)) answer c.feed.ensures.stage in
    let fed = subst (λ k. after_input (g.M.Runner.meaning.stage k c.args.at).want (Val.Int c.in-Ok.answer) (g.M.Runner.meaning.stage k c.args.at) ≡ Some (g.M.Runner.meaning.stage k c.feed.new.self)) same told in
    let entry : c.answered.result ≡ record c.in_ok-entry.entry { steps = c.in_ok-entry.entry.steps + 1; answer = Some c.in-Ok.answer } =
    c.answered.ensures ∙ ap (λ (n : ℤ). record c.in_ok-entry.entry { steps = c.in_ok-entry.entry.steps + 1; answer = Some n }) answer in
    λ _. home-called g.M.Runner.meaning
    _ c.args.self.now c.self.view_is c.self.invariant.whole c.args.seat c.args.attempt c.requires.task c.requires.left
    c.args.at c.requires.on c.requires.visits (g.met.M.Runner.sound c.args.self.now.code c.args.at c.requires.on.machine) c.args.device c.args.argument c.requires.wants
    c.in-Ok.answer c.feed.new.self machine fed _ _ called
    c.in_ok-entry.entry c.answered.result (c.in_ok-entry.ensures (arc_value c.self.inside.code)) entry
    c.push.new.self.entries c.room.new.self.entries c.room.ensures.entries c.push.ensures.entries
    c.send_home.new.pool (c.send_home.ensures.shown (arc_value c.self.inside.code)) (c.send_home.ensures.rests (arc_value c.self.inside.code)) c.requires.going

pub returns-clause-quiet : goal.returns-clause-quiet
returns-clause-quiet g c =
    let lacks = subst (λ (f : DeviceFail). CallsOne (all_told g.D.Device.device_told c.args.devices.now.items) c.args.device
    (to_z w64 (of_z w64 c.args.argument)) (Err f) (all_told g.D.Device.device_told c.call_device.new.devices.items))
    c.in-Err-NoMemory.field-0-is c.in-Err-NoMemory.ensures in
    wanting-leaves _ _ _ _ lacks

pub refuse-requires-clause-calls : goal.refuse-requires-clause-calls
refuse-requires-clause-calls g c =
    call-led g.M.Runner.meaning
    _ c.args.self.now c.self.view_is c.self.invariant.whole c.args.seat c.args.attempt c.requires.task c.requires.left
    c.args.at c.requires.on c.requires.visits (g.met.M.Runner.sound c.args.self.now.code c.args.at c.requires.on.machine) c.args.device c.args.argument c.requires.wants
    c.room.new.self.entries c.room.ensures.entries
