-- The most devices that there may be.
use Rattle.std.specs.Prelude.{ℕ}

abbrev pub max_devices : ℕ
max_devices = 16
