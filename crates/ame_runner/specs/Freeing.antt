-- Members that go on under `unprotected`.
use Rattle.std.specs.Prelude.{◌≡◌, ℕ, ℤ, ◌⊎◌, List, [], Some, Ok, Err, ⊤}
use Rattle.ame_term.specs.State.{State}
use Rattle.ame_term.specs.declared.semantics.StepKind.{StepKind}
use Rattle.ame_term.specs.declared.semantics.Label.{Label}
use Rattle.ame_device.specs.declared.told.Told.{Told}
use Rattle.ame_device.specs.declared.fault.DeviceFail.{DeviceFail}
use Rattle.ame_device.specs.Calls.{CallsOne}
use Rattle.ame_journal.specs.Calls.{label_call}
use Rattle.ame_strong.specs.Next.{next_of}
use Rattle.ame_strong.specs.declared.next_label.Next.TheVariants as next
use Rattle.ame_weak.specs.Weak.{Weak}
use Rattle.ame_runner.specs.Labels.{label_location}
use Rattle.ame_runner.specs.declared.freeing.FreeStep.{FreeStep}

-- a label calls no device, in whatever state
abbrev pub IsSilent : Label → Type 0
IsSilent label = (k : ℕ) (s : State) → label_call k s label ≡ []

-- a member calls a device, which answers or fails
pub record CallsFor (w : Weak) (i device : ℕ) (before after : List Told) (label : Label) : Type 0 where
  pub argument : ℤ
  pub answer : ℤ
  pub stands : next_of w.state (Some i) ≡ next.Device device argument
  pub is : label ≡ Label.Free i (StepKind.Device answer)
  pub called : CallsOne before device argument (Ok answer) after

pub record FailsFor (w : Weak) (i device : ℕ) (before after : List Told) : Type 0 where
  pub argument : ℤ
  pub stands : next_of w.state (Some i) ≡ next.Device device argument
  pub called : CallsOne before device argument (Err DeviceFail.Failed) after

-- what a label does to devices
abbrev pub HasCalledFor : Weak → ℕ → List Told → List Told → Label → Type 0
HasCalledFor w i before after label = (IsSilent label × (after ≡ before)) ⊎ ((device : ℕ) × CallsFor w i device before after label)

-- a label makes no location but this one
abbrev pub MakesOnly : ℕ → Label → Type 0
MakesOnly l label = (m : ℕ) → label_location label ≡ Some m → m ≡ l

-- A member goes on by a label, which makes this location or none, or the device that it calls fails.
abbrev pub HasFreed : Weak → ℕ → ℕ → List Told → List Told → FreeStep → Type 0
HasFreed w i fresh before after (FreeStep.Label label) = MakesOnly fresh label × HasCalledFor w i before after label
HasFreed w i fresh before after (FreeStep.Fault device) = FailsFor w i device before after

-- a label is one by which member i goes on under `unprotected`
abbrev pub IsLabelOf : ℕ → Label → Type 0
IsLabelOf i (Label.Close j) = j ≡ i
IsLabelOf i (Label.Free j kind) = j ≡ i
IsLabelOf i _ = ⊥

abbrev pub IsOwnOf : ℕ → FreeStep → Type 0
IsOwnOf i (FreeStep.Label label) = IsLabelOf i label
IsOwnOf i (FreeStep.Fault device) = ⊤
