use Rattle.std.proofs.Common.{◌≡◌, ◌∙◌, false, sym, ap}
use Rattle.std.proofs.lemmas.Option.{same_Some}
use Rattle.ame_pool.proofs.Words.{nat_lt, may_begin_beside}
use Rattle.ame_pool.proofs.ChoiceLemmas.{all_begin}
use Rattle.ame_pool.proofs.registry.may_begin.Goals as goal

pub returns-then-let_all_begin : goal.returns-then-let_all_begin
returns-then-let_all_begin g c m found = sym (all_begin (nat_lt 0 c.args.counts.now.protected) (nat_lt 0 c.args.counts.now.exhausted) (sym c.if-let_all_begin.ensures) m)

pub returns : goal.returns
returns g c m found =
    let same : c.member.result.now ≡ m = same_Some c.member.result.now m (c.member.ensures ∙ found) in
    c.may_begin.ensures ∙ ap (may_begin_beside (nat_lt 0 c.args.counts.now.protected) (nat_lt 0 c.args.counts.now.exhausted) false) same
