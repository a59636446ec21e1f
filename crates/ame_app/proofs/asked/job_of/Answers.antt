use Rattle.std.proofs.Common.{List, ℕ, sym, subst}
use Rattle.std.specs.Arc.{arc_value}
use Rattle.ame_app.specs.Jobs.{IsTextStatus}
use Rattle.ame_app.specs.Texts.{IsProgramOf}
use Rattle.ame_app.proofs.CodeLemmas.{text-refused, text-other}
use Rattle.ame_app.proofs.asked.job_of.Goals as goal

pub returns-in-Ok-clause-job : goal.returns-in-Ok-clause-job
returns-in-Ok-clause-job c = λ call asks devices.
    let code = arc_value c.in-Ok.code in
    record {
      asked = asks;
      program = subst (λ (n : ℕ). IsProgramOf c.args.taken.text.items n code.accepted) (sym devices)
          (subst (λ (t : List ℕ). IsProgramOf t c.args.devices code.accepted) c.deref.ensures.value c.in-Ok.ensures.program);
    }

pub returns-in-Err-clause-refused : goal.returns-in-Err-clause-refused
returns-in-Err-clause-refused c = λ call asks devices.
    let told = c.in-Err.told in
    let text = c.args.taken.text.items in
    let why = subst (λ (n : ℕ). IsTextStatus text n told) (sym devices)
    (subst (λ (t : List ℕ). IsTextStatus t c.args.devices told) c.deref.ensures.value c.in-Err.ensures.refused) in
    record {
      cause = text-refused c.spells_one_command.ensures call c.args.command c.args.taken.front text asks told why;
      named = asks.spelled;
      most = asks.most;
    }

pub returns-in-Err-clause-other : goal.returns-in-Err-clause-other
returns-in-Err-clause-other c = text-other c.deref.result.now c.args.devices c.in-Err.told c.in-Err.ensures.refused
