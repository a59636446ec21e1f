use Rattle.ame_gen.proofs.TextLemmas.{on_ok, transfer-parts}
use Rattle.ame_gen.proofs.lines.write_transfer.Goals as goal

pub returns : goal.returns
returns c =
    on_ok _ _ c.write.result (λ last. transfer-parts c.args.transfer _ _ _ _ _ _ _ _ _ _
    c.in_ok-write_before.ensures c.in_ok-write_before-2.ensures c.in_ok-write_before-3.ensures c.in_ok-write_before-4.ensures
    c.in_ok-write_before-5.ensures c.in_ok-write_before-6.ensures c.in_ok-write_before-7.ensures c.in_ok-write_before-8.ensures last) c.write.ensures
