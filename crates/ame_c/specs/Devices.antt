-- The devices of a program that is called from C: those of a process.
use Rattle.std.specs.Prelude.{ℕ, [], Some}
use Rattle.ame_shell.specs.Ends.{Ends}
use Rattle.ame_app.specs.Standard.{with_new}

-- how many there are
abbrev pub device_count : ℕ
device_count = 2

-- what a call begins with: nothing is written, and the devices heard nothing
abbrev pub new_ends : Ends
new_ends = with_new device_count (Some []) 0
