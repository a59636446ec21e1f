use Rattle.std.proofs.Common.{refl}
use Rattle.ame_protocol.specs.declared.stop.Stop.{Stop}
use Rattle.ame_shell.specs.Outcomes.{IsOutcomeOf, IsMade}
use Rattle.ame_shell.proofs.HandLemmas.{stopped-undoes}
use Rattle.ame_shell.proofs.DoneLemmas.{undoing-works, none-at}
use Rattle.ame_shell.proofs.spends.spend_undoing.Goals as goal

pub returns-in-Ok-clause-can : goal.returns-in-Ok-clause-can
returns-in-Ok-clause-can g c =
    stopped-undoes g.M.Runner.meaning c.args.engine.now c.spend.new.self c.args.seat Stop.Spent c.requires.can.busy (c.spend.ensures.undoing c.no_machine.ensures).1

pub returns-in-Ok-clause-done : goal.returns-in-Ok-clause-done
returns-in-Ok-clause-done g c = λ told. record {
  event = IsMade.makes _ _
      (IsOutcomeOf.spent c.requires.spent c.requires.can.busy (λ s met. absurd (none-at s met)) (c.spend.ensures.undoing c.no_machine.ensures).1)
      (c.spend.ensures.halts (λ valid. undoing-works c.args.engine.now c.args.seat c.requires.can c.requires.spent.going));
  quiet = λ _. refl;
}

pub returns-in-Err-clause-can : goal.returns-in-Err-clause-can
returns-in-Err-clause-can g c = absurd (let ok = (c.spend.ensures.undoing c.no_machine.ensures).0 in let err = c.in-Err.is in cc)

pub returns-in-Err-clause-done : goal.returns-in-Err-clause-done
returns-in-Err-clause-done g c = absurd (let ok = (c.spend.ensures.undoing c.no_machine.ensures).0 in let err = c.in-Err.is in cc)

pub returns-in-Err-clause-due : goal.returns-in-Err-clause-due
returns-in-Err-clause-due g c = absurd (let ok = (c.spend.ensures.undoing c.no_machine.ensures).0 in let err = c.in-Err.is in cc)
