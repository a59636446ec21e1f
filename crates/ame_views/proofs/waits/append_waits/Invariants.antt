use Rattle.std.proofs.Common.{◌≡◌, ◌++◌, take}
use Rattle.std.specs.List.{flat_map}
use Rattle.ame_views.specs.Waits.{wait_line}
use Rattle.ame_views.proofs.waits.append_waits.Given as goal

abbrev pub invariant-loop-certificate : goal.invariant-loop-certificate
invariant-loop-certificate l = l.page ≡ l.initial.page ++ flat_map wait_line (take l.certificate-index l.certificates)
