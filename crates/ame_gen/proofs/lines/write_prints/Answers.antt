use Rattle.std.proofs.Common.{◌≡◌, ◌++◌, sym, ◌∙◌, ap, append-nil, arith}
use Rattle.std.specs.List.{flat_map, range_with_len}
use Rattle.ame_gen.specs.Template.{print_of}
use Rattle.ame_gen.proofs.TextLemmas.{range-more, print-parts}
use Rattle.ame_gen.proofs.lines.write_prints.Goals as goal

pub loop-account-init : goal.loop-account-init
loop-account-init c = sym (append-nil _)

pub loop-account-preserved : goal.loop-account-preserved
loop-account-preserved c =
    let i = c.loop-account.account in
    let text = c.loop-account.text.items in
    range-more print_of c.args.text.now.items text _ i c.loop-account.invariant
    (print-parts i text c.write_before.new.text.items _ c.in_ok-write_before.ensures c.in_ok-write.ensures)

pub returns : goal.returns
returns c =
    let all : c.loop-account.account ≡ 8 = omega arith in
    c.loop-account.invariant ∙ ap (λ n. c.args.text.now.items ++ flat_map print_of (range_with_len 0 n)) all
