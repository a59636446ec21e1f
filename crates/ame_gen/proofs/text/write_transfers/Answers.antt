use Rattle.std.proofs.Common.{◌≡◌, ◌++◌, sym, ◌∙◌, ap, arith}
use Rattle.ame_gen.specs.Stream.{next}
use Rattle.ame_gen.specs.Transfers.{transfer}
use Rattle.ame_gen.specs.Template.{transfer_line, transfer_lines}
use Rattle.ame_gen.proofs.TextLemmas.{stream-thrice, transfer-drawn, transfers-more}
use Rattle.ame_gen.proofs.text.write_transfers.Goals as goal

pub loop-preserved : goal.loop-preserved
loop-preserved c =
    let seed = c.args.seed in
    let i = c.loop.counter in
    let text = c.loop.text.items in
    let drawn : c.draw_transfer.result ≡ transfer seed i = c.draw_transfer.ensures.drawn ∙ transfer-drawn seed i c.loop.numbers c.loop.invariant.1 in (
      transfers-more seed i c.args.text.now.items text _ c.loop.invariant.0 (c.in_ok-write_transfer.ensures ∙ ap (λ t. text ++ transfer_line t) drawn),
      c.draw_transfer.ensures.after ∙ ap (λ x. next (next (next x))) c.loop.invariant.1 ∙ sym (stream-thrice seed i),
    )

pub returns : goal.returns
returns c =
    let all : c.loop.counter ≡ c.args.size = omega arith in
    c.loop.invariant.0 ∙ ap (λ n. c.args.text.now.items ++ transfer_lines c.args.seed n) all
