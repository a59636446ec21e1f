use Rattle.std.proofs.Common.{◌∙◌}
use Rattle.ame_types.proofs.SharedLemmas.{same}
use Rattle.ame_types.proofs.table.Types.same.Goals as goal

pub returns : goal.returns
returns c =
    (rw (c.mark.ensures, c.mark-2.ensures) at c.eq.ensures)
    ∙ same c.args.self.now.keys.keys c.len-keys.ensures.unique c.args.a.now c.args.b.now c.requires.a c.requires.b
