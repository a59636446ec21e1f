use Rattle.std.proofs.Common.{◌≡◌, ◌≤◌, ◌+◌, ◌*◌, ◌++◌, length, ap, ◌∙◌, arith}
use Rattle.ame_gen.specs.Balances.{initial_balance}
use Rattle.ame_gen.specs.Template.{program_text, account_lines, transfer_lines, report_line}
use Rattle.ame_gen.proofs.TextLemmas.{text-parts}
use Rattle.ame_gen.proofs.LengthLemmas.{length-text}
use Rattle.ame_gen.proofs.text.generate.Goals as goal

whole : (c : goal.In_ok-write-2) → c.write-2.new.text.items ≡ program_text c.args.seed c.args.size
whole c =
    text-parts (account_lines (initial_balance c.args.size)) (transfer_lines c.args.seed c.args.size) (report_line c.args.size) _ _ _ _ _
    (c.in_ok-write_accounts.ensures ∙ ap (λ t. t ++ account_lines (initial_balance c.args.size)) c.new-text.ensures.items) c.in_ok-write.ensures c.in_ok-write_transfers.ensures c.in_ok-write_report.ensures c.in_ok-write-2.ensures

pub returns-clause-text : goal.returns-clause-text
returns-clause-text c = whole c

pub returns-clause-small : goal.returns-clause-small
returns-clause-small c =
    let most : length c.write-2.new.text.items ≤ 123 * c.args.size + 393 = omega (arith, length-text c.args.seed c.args.size c.requires.most, ap length (whole c)) in
    omega arith
