use Rattle.std.proofs.Common.{◌∙◌, ap, sym, map, ◌++◌, decimal}
use Rattle.ame_journal.proofs.line.take_fresh.Goals as goal

pub returns : goal.returns
returns c =
    let stays = c.in_default.ensures in
    record {
      taken = c.loop-location.invariant.0 ∙ ap (λ ws. map decimal (map (λ l. l.0) c.loop-location.fresh.items) ++ ws) (sym stays.0);
      each = c.loop-location.invariant.1;
      none = λ l rest low e. stays.1 (record { 0 = l }) rest low (sym stays.0 ∙ e);
    }
