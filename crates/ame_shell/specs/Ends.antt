-- The ends of a run: its sink and its devices.
use Rattle.std.specs.Prelude.{ℕ, List, Option, None, slice_index_or}
use Rattle.ame_device.specs.declared.told.DeviceKind.{DeviceKind}
use Rattle.ame_device.specs.declared.told.Told.{Told}
use Rattle.ame_device.specs.Calls.{all_told}

-- The bytes of the sink, if it shows them, its count of faults, and what each device shows.
pub record Ends : Type 0 where
  pub written : Option (List ℕ)
  pub write_faults : ℕ
  pub told : List Told

-- what a sink and a list of devices show
abbrev pub ends_of : {K D : Type 0} → (K → Option (List ℕ)) → (K → ℕ) → (D → Told) → K → List D → Ends
ends_of written faults tell sink devices = record { written = written sink; write_faults = faults sink; told = all_told tell devices }

-- what device k of a list shows; nothing if there is none
abbrev pub told_at : List Told → ℕ → Told
told_at devices k = slice_index_or devices k (record { kind = DeviceKind.Other; heard = None; faults = 0 })

-- A sink and devices as they are, and what they show.
pub record IoView (K D : Type 0) : Type 0 where
  pub sink : K
  pub devices : List D
  pub ends : Ends

-- a sink and devices, with what they show
abbrev pub io_of :
    {K D : Type 0} → (K → Option (List ℕ)) → (K → ℕ) → (D → Told) → K → List D → IoView K D
io_of written faults tell sink devices =
    record { sink = sink; devices = devices; ends = ends_of written faults tell sink devices }
