-- The effect of a call on the report of a device.
use Rattle.std.specs.Prelude.{◌≡◌, ℕ, ℤ, ◌+◌, pos, ⊤, List, [], ◌∷◌, ◌++◌, Option, Some, Ok, Err, Result, IfSome, length, map, option_map, slice_get, slice_set}
use Rattle.ame_io.specs.Counts.{HasRisen}
use Rattle.ame_device.specs.declared.told.DeviceKind.{DeviceKind}
use Rattle.ame_device.specs.declared.told.Heard.{Heard}
use Rattle.ame_device.specs.declared.told.Told.{Told}
use Rattle.ame_device.specs.declared.fault.DeviceFail.{DeviceFail}
use Rattle.ame_device.specs.Sums.{wrapping_sum}

-- the report of a device: its kind, the calls that it answered, and its count of faults
abbrev pub told : DeviceKind → Option (List Heard) → ℕ → Told
told kind heard faults = record { kind = kind; heard = heard; faults = faults }

-- a call that was answered
abbrev pub answered : ℤ → ℤ → Heard
answered argument answer = record { argument = argument; answer = answer }

-- the calls and one more, if they are reported
abbrev pub one_more : Option (List Heard) → Heard → Option (List Heard)
one_more heard call = option_map (λ calls. calls ++ call ∷ []) heard

-- the arguments of calls
abbrev pub arguments : List Heard → List ℤ
arguments heard = map (λ call. call.argument) heard

-- the answer of a device of this kind after these calls: a counter's is their number and one more, an adder's the sum of all arguments
abbrev pub IsAnswerOf : DeviceKind → List Heard → ℤ → ℤ → Type 0
IsAnswerOf DeviceKind.Counter heard argument answer = answer ≡ pos (length heard + 1)
IsAnswerOf DeviceKind.Adder heard argument answer = answer ≡ wrapping_sum (arguments heard ++ argument ∷ [])
IsAnswerOf DeviceKind.Other heard argument answer = ⊤

-- An answer is that of the device's kind, and is reported after the calls before it. If there is none, nothing more was
-- heard, and the count rose if the device failed, and stayed if memory ran out. The kind stays.
abbrev pub AnswersCall : Told → ℤ → Result ℤ DeviceFail → Told → Type 0
AnswersCall before argument (Ok answer) after =
    (after ≡ told before.kind (one_more before.heard (answered argument answer)) before.faults)
    × IfSome before.heard (λ calls. IsAnswerOf before.kind calls argument answer)
AnswersCall before argument (Err DeviceFail.Failed) after =
    (after.heard ≡ before.heard) × HasRisen before.faults after.faults × (after.kind ≡ before.kind)
AnswersCall before argument (Err DeviceFail.NoMemory) after = after ≡ before

-- device k of a list was called, and the others are as before
pub record CallsOne (before : List Told) (k : ℕ) (argument : ℤ) (result : Result ℤ DeviceFail) (after : List Told) : Type 0 where
  pub was : Told
  pub is : Told
  pub found : slice_get before k ≡ Some was
  pub answers : AnswersCall was argument result is
  pub others : after ≡ slice_set before k is

-- the reports of the devices of a list
abbrev pub all_told : {D : Type 0} → (D → Told) → List D → List Told
all_told tell devices = map tell devices

-- the calls of a list of devices, by the report of each
abbrev pub CallsDevice : {D : Type 0} → (D → Told) → List D → ℕ → ℤ → Result ℤ DeviceFail → List D → Type 0
CallsDevice tell before k argument result after = CallsOne (all_told tell before) k argument result (all_told tell after)
