use Rattle.std.proofs.lemmas.Int.{to_z-of_z}
use Rattle.std.proofs.lemmas.Option.{slice_get_read}
use Rattle.ame_device.proofs.ListLemmas.{calls-one}
use Rattle.ame_device.proofs.list.call_device.Goals as goal

pub returns : goal.returns
returns g c =
    let found = slice_get_read c.args.devices.now.items _ c.args.number _ c.args.devices.now.ok.0 c.requires c.index_mut.ensures.value in
    calls-one _ c.args.devices.now.items c.args.number _ _ _ c.args.argument c.call.result found (to_z-of_z _ _ c.ranges.argument) c.call.ensures.answers
