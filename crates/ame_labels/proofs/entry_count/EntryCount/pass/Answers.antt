use Rattle.std.proofs.Common.{sym, subst, OnOk}
use Rattle.ame_term.specs.declared.semantics.Label.{Label}
use Rattle.ame_labels.specs.Ledger.{LedgerPasses}
use Rattle.ame_labels.proofs.LedgerLemmas.{steps-there}
use Rattle.ame_labels.proofs.entry_count.EntryCount.pass.Goals as goal

pub returns-in-Activate : goal.returns-in-Activate
returns-in-Activate c = subst (λ (l : Label). LedgerPasses l c.args.self.now c.begin.new.self) (sym c.in-Activate.is) c.begin.ensures

pub returns-in-Step : goal.returns-in-Step
returns-in-Step c = subst (λ (l : Label). LedgerPasses l c.args.self.now c.args.self.now) (sym c.in-Step.is) (steps-there c.args.self.now _)

pub returns-in-Leave : goal.returns-in-Leave
returns-in-Leave c = subst (λ (l : Label). OnOk c.leave.result (LedgerPasses l c.args.self.now c.leave.new.self)) (sym c.in-Leave.is) c.leave.ensures

pub returns-in-End : goal.returns-in-End
returns-in-End c = subst (λ (l : Label). OnOk c.end.result (LedgerPasses l c.args.self.now c.end.new.self)) (sym c.in-End.is) c.end.ensures

pub returns-in-Close : goal.returns-in-Close
returns-in-Close c = subst (λ (l : Label). OnOk c.close.result (LedgerPasses l c.args.self.now c.close.new.self)) (sym c.in-Close.is) c.close.ensures

pub returns-in-Free : goal.returns-in-Free
returns-in-Free c = subst (λ (l : Label). OnOk c.free.result (LedgerPasses l c.args.self.now c.free.new.self)) (sym c.in-Free.is) c.free.ensures
