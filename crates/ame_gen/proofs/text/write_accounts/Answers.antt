use Rattle.std.proofs.Common.{◌≡◌, ◌++◌, sym, ◌∙◌, ap, append-nil, arith}
use Rattle.std.specs.List.{flat_map, range_with_len}
use Rattle.ame_gen.specs.Template.{account_line}
use Rattle.ame_gen.proofs.TextLemmas.{range-more}
use Rattle.ame_gen.proofs.text.write_accounts.Goals as goal

pub loop-account-init : goal.loop-account-init
loop-account-init c = sym (append-nil _)

pub loop-account-preserved : goal.loop-account-preserved
loop-account-preserved c =
    range-more (account_line c.args.start) c.args.text.now.items c.loop-account.text.items _ c.loop-account.account c.loop-account.invariant c.in_ok-write_account.ensures

pub returns : goal.returns
returns c =
    let all : c.loop-account.account ≡ 8 = omega arith in
    c.loop-account.invariant ∙ ap (λ n. c.args.text.now.items ++ flat_map (account_line c.args.start) (range_with_len 0 n)) all
