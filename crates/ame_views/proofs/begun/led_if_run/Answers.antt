use Rattle.ame_code.specs.Code.{program_of}
use Rattle.ame_views.proofs.FaultLemmas.{undefined_told, tall_told}
use Rattle.ame_views.proofs.begun.led_if_run.Goals as goal

pub returns-in-Err-Undefined-clause-none : goal.returns-in-Err-Undefined-clause-none
returns-in-Err-Undefined-clause-none c =
    undefined_told (program_of c.args.code.now) c.args.entries.now c.in-Err-Undefined.field-0 c.in-Err-Undefined.ensures.halted _ _ c.in-Err-Undefined.field-0-is

pub returns-in-Err-Tall-clause-none : goal.returns-in-Err-Tall-clause-none
returns-in-Err-Tall-clause-none c =
    tall_told (program_of c.args.code.now) c.args.entries.now c.in-Err-Tall.field-0 c.in-Err-Tall.ensures.halted _ c.in-Err-Tall.field-0-is
