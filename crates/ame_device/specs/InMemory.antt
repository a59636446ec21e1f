-- The view of a device in memory in contracts.
use Rattle.std.specs.Prelude.{ℕ, List}
use Rattle.ame_device.specs.declared.told.Heard.{Heard}

-- the calls that were answered, in order, and how many failed
pub record Calls : Type 0 where
  pub heard : List Heard
  pub faults : ℕ
