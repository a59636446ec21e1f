use Rattle.std.proofs.Common.{ℕ, ◌-◌, ◌++◌, length, take, ap, ◌∙◌, subst}
use Rattle.ame_term.specs.View.{tree_of}
use Rattle.ame_journal.specs.Replayed.{Replayed, begun_at}
use Rattle.ame_print.specs.Printer.{spelling_of}
use Rattle.ame_labels.specs.Front.{rest_words}
use Rattle.ame_labels.specs.Stepped.{ShowsSteps}
use Rattle.ame_labels.proofs.StepperLemmas.{told-some}
use Rattle.ame_labels.proofs.steps.steps_of.Goals as goal

pub returns : goal.returns
returns c =
    let names = spelling_of c.args.program.names.items in
    let begun = begun_at (tree_of c.args.program.term) in
    let entries = c.args.entries.now in
    let counted = c.shown_count-count.ensures.value in
    let shown =
    told-some (λ (rows : _). (r : Replayed) × ShowsSteps names begun (take c.shown_count-count.result entries) rows r) c.in_ok-rows.field-0 c.in-Some.rows c.in-Some.is
    c.in_ok-rows.ensures in
    record {
      led = shown.0;
      rows = c.in-Some.rows;
      shows = subst (λ (k : ℕ). ShowsSteps names begun (take k entries) c.in-Some.rows shown.0) counted shown.1;
      is = c.into_bytes.ensures ∙ c.in_ok-append_rest.ensures ∙ ap (λ (k : ℕ). c.in-Some.rows ++ rest_words (length entries - k)) counted;
    }
