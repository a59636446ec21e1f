-- The devices of a process, after a run.
use Rattle.std.proofs.Common.{◌≡◌, ◌≢◌, ◌∙◌, ℕ, List, [], ◌∷◌, Option, Some, None, length, refl, subst, arith}
use Rattle.std.specs.Prelude.{IfSome}
use Rattle.ame_term.specs.Tree.{Tree}
use Rattle.ame_journal.specs.declared.entry.Entry.{Entry}
use Rattle.ame_code.specs.FlatCode.{FlatCode}
use Rattle.ame_code.specs.Code.{program_of}
use Rattle.ame_value.specs.declared.val.Val.{Val}
use Rattle.ame_cli.specs.declared.command.Command.{Command}
use Rattle.ame_protocol.specs.declared.stop.Stop.{Stop}
use Rattle.ame_engine.specs.Ending.{End}
use Rattle.ame_device.specs.declared.told.DeviceKind.{DeviceKind}
use Rattle.ame_device.specs.declared.told.Told.{Told}
use Rattle.ame_device.specs.Calls.{all_told}
use Rattle.ame_shell.specs.Ends.{Ends}
use Rattle.ame_shell.specs.Heard.{HaveHeardSince}
use Rattle.ame_app.specs.declared.standard.StandardDevice.{StandardDevice}
use Rattle.ame_app.specs.Calls.{Call}
use Rattle.ame_app.specs.RunResult.{end_in}
use Rattle.ame_app.specs.Reported.{RunView, Reported}
use Rattle.ame_app.specs.Headline.{Headline, DevicesTell, DevicesTellOf}
use Rattle.ame_app.specs.Answered.{IsPromised}
use Rattle.ame_app.specs.Standard.{told_by, two_new, CountAndAdd, CountAndAddIfAble}

tells-able : (command : Command) (code : FlatCode) (end : End Val) (before after : Ends) → end.stop ≢ Some Stop.NoMemory
    → DevicesTellOf command code end before after → DevicesTell code end before after
tells-able (Command.Run options) code end before after able d = d
tells-able (Command.Bench seed size options) code end before after able d = d
tells-able (Command.Sim seed options) code end before after able d = d
tells-able (Command.Replay options) code end before after able d = d
tells-able Command.Check code end before after able d = d
tells-able (Command.Resume options) code end before after able d = d
tells-able (Command.Weak seed turns) code end before after able d = d.able able

-- what a counter and an adder heard since they were new
counts-and-adds : (program : Tree) (base entries : List Entry) (devices : List StandardDevice)
    → HaveHeardSince program base entries two_new (all_told told_by devices) → CountAndAdd devices
counts-and-adds program base entries [] h = absurd (let count : length {A = Told} [] ≡ length two_new = h.count in omega (arith, count))
counts-and-adds program base entries (x ∷ []) h = absurd (let count : length (told_by x ∷ []) ≡ length two_new = h.count in omega (arith, count))
counts-and-adds program base entries (StandardDevice.Counter a ∷ StandardDevice.Adder b ∷ []) h = (h.answers 0 refl, h.answers 1 refl)
counts-and-adds program base entries (StandardDevice.Counter a ∷ StandardDevice.Counter b ∷ []) h =
    absurd (let clash : DeviceKind.Counter ≡ DeviceKind.Adder = h.kinds 1 in cc)
counts-and-adds program base entries (StandardDevice.Adder a ∷ y ∷ []) h =
    absurd (let clash : DeviceKind.Adder ≡ DeviceKind.Counter = h.kinds 0 in cc)
counts-and-adds program base entries (x ∷ y ∷ z ∷ rest) h =
    absurd (let count : length (told_by x ∷ told_by y ∷ told_by z ∷ all_told told_by rest) ≡ length two_new = h.count in omega (arith, count))

run-counts : (call : Call) (report : Reported) (run : Option RunView) (before after : Ends) (devices : List StandardDevice)
    → before.told ≡ two_new → after.told ≡ all_told told_by devices
    → IfSome run (λ r. Headline call report r (end_in r.left) before after) → IfSome run (λ r. CountAndAddIfAble r devices)
run-counts call report None before after devices first last h = tt
run-counts call report (Some run) before after devices first last h = λ able.
    let end = end_in run.left in
    let tells = tells-able h.command h.compiled end before after able h.devices in
    let program = program_of h.compiled in
    counts-and-adds program end.base end.entries devices
    (subst (λ (ts : List Told). HaveHeardSince program end.base end.entries ts (all_told told_by devices)) first
    (subst (λ (ts : List Told). HaveHeardSince program end.base end.entries before.told ts) last tells.heard))

-- so they do in a call that has its promises
pub promised-counts : (call : Call) (report : Reported) (before after : Ends) (devices : List StandardDevice)
    → before.told ≡ two_new → after.told ≡ all_told told_by devices
    → IsPromised call report before after → IfSome report.run (λ r. CountAndAddIfAble r devices)
promised-counts call report before after devices first last p = run-counts call report report.run before after devices first last p.ran
