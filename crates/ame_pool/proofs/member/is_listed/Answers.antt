use Rattle.std.proofs.Common.{◌∙◌, ◌==◌, sym, ap}
use Rattle.ame_pool.proofs.Words.{has}
use Rattle.ame_pool.proofs.FindLemmas.{list_any-map}
use Rattle.ame_pool.proofs.member.is_listed.Goals as goal

pub returns : goal.returns
returns c = c.is_among.ensures ∙ sym (list_any-map (λ k. k.0) (λ k. k == c.args.l.0) c.as_slice.result.now) ∙ ap (has c.args.l.0) (sym c.as_slice.ensures)
