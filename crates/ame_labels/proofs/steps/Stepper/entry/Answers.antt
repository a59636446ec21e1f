use Rattle.std.proofs.Common.{ap}
use Rattle.ame_journal.specs.Totals.{is_note}
use Rattle.ame_labels.proofs.StepperLemmas.{makes-note}
use Rattle.ame_labels.proofs.steps.Stepper.entry.Goals as goal

pub returns-in-Stuck : goal.returns-in-Stuck
returns-in-Stuck c = λ e r stands. makes-note r c.args.entry.now c.args.self.now stands (ap is_note c.in-Stuck.is)

pub returns-in-Cut : goal.returns-in-Cut
returns-in-Cut c = λ e r stands. makes-note r c.args.entry.now c.args.self.now stands (ap is_note c.in-Cut.is)

pub returns-in-Tall : goal.returns-in-Tall
returns-in-Tall c = λ e r stands. makes-note r c.args.entry.now c.args.self.now stands (ap is_note c.in-Tall.is)
