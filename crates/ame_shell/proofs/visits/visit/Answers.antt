use Rattle.std.proofs.Common.{length, ap, arith}
use Rattle.std.proofs.lemmas.List.{length-map}
use Rattle.ame_shell.proofs.visits.visit.Goals as goal

pub free-requires-clause-devices : goal.free-requires-clause-devices
free-requires-clause-devices g c =
    let all = length-map c.io.inside.devices.items g.D.Device.device_told in
    let same = ap (λ io. length io.ends.told) c.io.view_is in
    let len = c.has_its_length.ensures in
    let enough = c.requires.devices in
    omega (arith, all, same, len, enough)
