use Rattle.ame_rows.proofs.LookupLemmas.{get_there}
use Rattle.ame_rows.proofs.AccessLemmas.{open_not_owned}
use Rattle.ame_rows.proofs.access.write.Goals as goal

pub unreachable-requires : goal.unreachable-requires
unreachable-requires g c =
    let there = get_there c.args.store.now c.args.l.0 c.requires.location in
    let tells = c.in-Owned.ensures.answer there.0 there.1 in
    open_not_owned c.args.seat _ there.0 tells.0 tells.1 (c.requires.unowned there.0 there.1)
