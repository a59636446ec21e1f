-- The answers of a device of each kind.
use Rattle.std.specs.Prelude.{◌≡◌, ℕ, ℤ, ◌+◌, pos, ⊤, List, [], ◌∷◌, IfSome, map}
use Rattle.ame_device.specs.declared.told.DeviceKind.{DeviceKind}
use Rattle.ame_device.specs.declared.told.Heard.{Heard}
use Rattle.ame_device.specs.declared.told.Told.{Told}
use Rattle.ame_device.specs.Calls.{arguments}
use Rattle.ame_device.specs.Sums.{running_sums}

-- a number after this one for each call, in order
abbrev pub counts_after : ℕ → List Heard → List ℤ
counts_after n [] = []
counts_after n (call ∷ calls) = pos (n + 1) ∷ counts_after (n + 1) calls

-- a counter answers 1, 2, 3, and so on; an adder the running sums of its arguments
abbrev pub AreAnswersOf : DeviceKind → List Heard → Type 0
AreAnswersOf DeviceKind.Counter calls = map (λ call. call.answer) calls ≡ counts_after 0 calls
AreAnswersOf DeviceKind.Adder calls = map (λ call. call.answer) calls ≡ running_sums (pos 0) (arguments calls)
AreAnswersOf DeviceKind.Other calls = ⊤

-- a device that reports its calls answered each as its kind does
abbrev pub AnswersByKind : Told → Type 0
AnswersByKind device = IfSome device.heard (λ calls. AreAnswersOf device.kind calls)
