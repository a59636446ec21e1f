use Rattle.std.proofs.Common.{refl}
use Rattle.ame_term.specs.View.{tree_of}
use Rattle.ame_journal.specs.Replayed.{begun_at}
use Rattle.ame_print.specs.Printer.{spelling_of}
use Rattle.ame_labels.proofs.StepperLemmas.{shows-begin, shows-more}
use Rattle.ame_labels.proofs.steps.rows_of.Goals as goal

pub loop-index-init : goal.loop-index-init
loop-index-init c =
    shows-begin (spelling_of c.args.program.names.items) (tree_of c.args.program.term)
    (record { state = c.in_ok-start.field-0; inside = c.new.result; names = c.args.program.names; page = c.new-2.result }) c.in_ok-start.ensures.start c.new.ensures.empty
    c.new-2.ensures refl

pub loop-index-preserved : goal.loop-index-preserved
loop-index-preserved c =
    shows-more (spelling_of c.args.program.names.items) (begun_at (tree_of c.args.program.term)) c.args.entries.now c.loop-index.index c.loop-index-test.true
    c.index-entries-index.result c.index-entries-index.is c.loop-index.stepper c.append_entry_heading.new.page c.entry.new.self c.loop-index.invariant
    c.in_ok-append_entry_heading.ensures (c.in_ok-is_made.ensures c.if-not-is_made.false)
