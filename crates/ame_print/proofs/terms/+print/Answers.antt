use Rattle.std.proofs.Common.{sym, ap, ◌∙◌, arith, take}
use Rattle.ame_term.specs.View.{tree_of, trees_of}
use Rattle.ame_print.specs.Printer.{with_tokens, spelling_of}
use Rattle.ame_print.specs.Tokens.{term_tokens, row_tokens}
use Rattle.ame_print.proofs.Sizes.{part_is_smaller}
use Rattle.ame_print.proofs.RowLemmas.{row_more}
use Rattle.ame_print.proofs.PrinterLemmas.{append}
use Rattle.ame_print.proofs.terms.+print.Goals as goal

pub row-term-requires : goal.row-term-requires
row-term-requires t c = (omega (arith, part_is_smaller c.args.parts.now c.loop-part.part-index c.part-item.result c.loop-part-test.true c.part-item.is), tt)

pub row-loop-part-preserved : goal.row-loop-part-preserved
row-loop-part-preserved t c =
    let all = spelling_of c.args.names.now in
    let row = row_tokens all in
    let so_far = trees_of (take c.loop-part.part-index c.args.parts.now) in
    c.in_ok-term.ensures
    ∙ ap (λ page. with_tokens page (term_tokens all (tree_of c.part-item.result))) c.loop-part.invariant
    ∙ sym (append c.args.page.now (row so_far) (term_tokens all (tree_of c.part-item.result)))
    ∙ ap (with_tokens c.args.page.now) (sym (row_more all c.args.parts.now c.loop-part.part-index c.part-item.result c.loop-part-test.true c.part-item.is))
