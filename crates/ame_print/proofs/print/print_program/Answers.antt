use Rattle.std.proofs.Common.{sym, ap, subst, ◌∙◌}
use Rattle.ame_term.specs.View.{tree_of}
use Rattle.ame_parse.specs.Text.{source_of}
use Rattle.ame_print.specs.Again.{ReadsAs}
use Rattle.ame_print.specs.Printer.{spelling_of}
use Rattle.ame_print.specs.Tokens.{term_text}
use Rattle.ame_print.proofs.print.print_program.Goals as goal

pub returns-clause-again : goal.returns-clause-again
returns-clause-again c = λ from read.
    let exact = c.in_ok-text.ensures ∙ ap (λ names. term_text (spelling_of names) (tree_of c.args.program.now.term)) c.as_slice.ensures.value in
    subst (λ text. ReadsAs text (source_of c.args.program.now)) (sym exact) (c.printed_is_read.ensures from (source_of c.args.program.now) read)
