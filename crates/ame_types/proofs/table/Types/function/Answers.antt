use Rattle.std.proofs.Common.{◌≡◌, Some, ap, ◌∙◌}
use Rattle.ame_types.proofs.SharedLemmas.{listed}
use Rattle.ame_types.proofs.table.Types.function.Goals as goal

pub returns-clause-listed : goal.returns-clause-listed
returns-clause-listed c =
    let e : c.in_ok-param.param.now ≡ c.args.param = c.in_ok-param.ensures in
    let f : c.in_ok-answer.answer.now ≡ c.args.answer = c.in_ok-answer.ensures in
    let stays = c.in_ok-number.ensures.stays in
    rw (e, f) (c.in_ok-number.ensures.listed ∙ ap Some c.fun_key.ensures, listed stays _ c.requires.param, listed stays _ c.requires.answer)
