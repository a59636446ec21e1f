use Rattle.std.proofs.Common.{◌≡◌, Some, ap, ◌∙◌}
use Rattle.ame_types.proofs.SharedLemmas.{listed}
use Rattle.ame_types.proofs.table.Types.reference.Goals as goal

pub returns-clause-listed : goal.returns-clause-listed
returns-clause-listed c =
    let e : c.in_ok-content.content.now ≡ c.args.content = c.in_ok-content.ensures in
    rw e (c.in_ok-number.ensures.listed ∙ ap Some c.ref_key.ensures, listed c.in_ok-number.ensures.stays _ c.requires)
