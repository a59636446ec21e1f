-- The devices of a process.
use Rattle.std.specs.Prelude.{◌≡◌, ◌≢◌, ◌⊎◌, ℕ, List, [], ◌∷◌, take, Option, Some, None}
use Rattle.ame_device.specs.declared.told.DeviceKind.{DeviceKind}
use Rattle.ame_device.specs.declared.told.Told.{Told}
use Rattle.ame_device.specs.Calls.{told}
use Rattle.ame_device.specs.Kinds.{AreAnswersOf}
use Rattle.ame_protocol.specs.declared.stop.Stop.{Stop}
use Rattle.ame_shell.specs.Ends.{Ends}
use Rattle.ame_app.specs.declared.standard.StandardDevice.{StandardDevice}
use Rattle.ame_app.specs.declared.status.Status.{Status}
use Rattle.ame_app.specs.RunResult.{end_in}
use Rattle.ame_app.specs.Reported.{RunView, Reported}

-- the kind of a device, the calls that it heard, and its count of faults
abbrev pub told_by : StandardDevice → Told
told_by (StandardDevice.Counter device) = told DeviceKind.Counter (Some device.heard) device.faults
told_by (StandardDevice.Adder device) = told DeviceKind.Adder (Some device.heard) device.faults

-- a counter and an adder that heard nothing yet
abbrev pub two_new : List Told
two_new = told DeviceKind.Counter (Some []) 0 ∷ told DeviceKind.Adder (Some []) 0 ∷ []

-- what a sink shows, and both new devices, or none
abbrev pub with_new : ℕ → Option (List ℕ) → ℕ → Ends
with_new count written faults = record { written = written; write_faults = faults; told = take count two_new }

-- device 0 is a counter, and answered 1, 2, 3 and so on; device 1 is an adder, and answered the running sums of its arguments
abbrev pub CountAndAdd : List StandardDevice → Type 0
CountAndAdd (StandardDevice.Counter counter ∷ StandardDevice.Adder adder ∷ []) =
    AreAnswersOf DeviceKind.Counter counter.heard × AreAnswersOf DeviceKind.Adder adder.heard
CountAndAdd _ = ⊥

-- so they do in a run that didn't run out of memory
abbrev pub CountAndAddIfAble : RunView → List StandardDevice → Type 0
CountAndAddIfAble run devices = (end_in run.left).stop ≢ Some Stop.NoMemory → CountAndAdd devices

-- there was no memory for the devices: none come back, no run was begun, and the status is out of memory
pub record HasNoDevices (count : ℕ) (report : Reported) : Type 0 where
  pub none : count ≡ 0
  pub unbegun : report.run ≡ None
  pub told : report.status ≢ Status.WriteFault → report.status ≡ Status.NoMemory

-- the two new devices come back, unless there was no memory for them
abbrev pub ComeBack : ℕ → Reported → Type 0
ComeBack count report = (count ≡ 2) ⊎ HasNoDevices count report
