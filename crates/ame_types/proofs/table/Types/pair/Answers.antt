use Rattle.std.proofs.Common.{◌≡◌, Some, ap, ◌∙◌}
use Rattle.ame_types.proofs.SharedLemmas.{listed}
use Rattle.ame_types.proofs.table.Types.pair.Goals as goal

pub returns-clause-listed : goal.returns-clause-listed
returns-clause-listed c =
    let e : c.in_ok-first.first.now ≡ c.args.first = c.in_ok-first.ensures in
    let f : c.in_ok-second.second.now ≡ c.args.second = c.in_ok-second.ensures in
    let stays = c.in_ok-number.ensures.stays in
    rw (e, f) (c.in_ok-number.ensures.listed ∙ ap Some c.pair_key.ensures, listed stays _ c.requires.first, listed stays _ c.requires.second)
