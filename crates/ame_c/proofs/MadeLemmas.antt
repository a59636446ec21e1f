-- The start of a call from C.
use Rattle.std.proofs.Common.{◌≡◌, ◌∙◌, ℕ, List, [], ◌∷◌, length, Option, Some, refl, ap}
use Rattle.ame_device.specs.declared.told.Told.{Told}
use Rattle.ame_device.specs.Calls.{all_told}
use Rattle.ame_shell.specs.Ends.{Ends}
use Rattle.ame_app.specs.declared.standard.StandardDevice.{StandardDevice}
use Rattle.ame_app.specs.Standard.{told_by, two_new}
use Rattle.ame_c.specs.Devices.{new_ends}

abbrev pub as-ends : Option (List ℕ) → ℕ → List Told → Ends
as-ends written faults devices = record { written = written; write_faults = faults; told = devices }

-- a sink without bytes and two such devices
pub new-before : (written : Option (List ℕ)) (faults : ℕ) (devices : List Told) → written ≡ Some [] → faults ≡ 0 → devices ≡ two_new
    → as-ends written faults devices ≡ new_ends
new-before written faults devices none good two =
    ap (λ (w : Option (List ℕ)). as-ends w faults devices) none
    ∙ ap (λ (f : ℕ). as-ends (Some []) f devices) good ∙ ap (λ (d : List Told). as-ends (Some []) 0 d) two

pub two-devices : (devices : List StandardDevice) → all_told told_by devices ≡ two_new → length devices ≡ 2
two-devices [] e = absurd (cc)
two-devices (x ∷ []) e = absurd (cc)
two-devices (x ∷ y ∷ []) e = refl
two-devices (x ∷ y ∷ z ∷ rest) e = absurd (cc)
