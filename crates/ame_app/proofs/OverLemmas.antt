-- Runs that are over, by the options for which the words ask.
use Rattle.std.proofs.Common.{◌≡◌, subst}
use Rattle.ame_laws.specs.Typed.Listed.{signature_of}
use Rattle.ame_protocol.specs.declared.types.Limits.{Limits}
use Rattle.ame_engine.specs.Ending.{End}
use Rattle.ame_shell.specs.Ends.{Ends}
use Rattle.ame_shell.specs.Over.{IsOver}
use Rattle.ame_code.specs.FlatCode.{FlatCode}
use Rattle.ame_code.specs.Code.{program_of}
use Rattle.ame_value.specs.declared.val.Val.{Val}
use Rattle.ame_eval.specs.Values.{value_meant}
use Rattle.ame_cli.specs.declared.command.Options.{Options}
use Rattle.ame_app.specs.Headline.{limits_of}
use Rattle.ame_app.specs.Jobs.{IsOverWith}

-- a run of a share of the code, with limits for which options ask
pub over-with : (options : Options) (code share : FlatCode) (limits : Limits) (before after : Ends) (end : End Val) → share ≡ code → limits ≡ limits_of options
    → IsOver (program_of share) (signature_of share.accepted) limits (value_meant share) before end after → IsOverWith options code before end after
over-with options code share limits before after end same asked over =
    subst (λ (k : FlatCode). IsOverWith options k before end after) same
    (subst (λ (l : Limits). IsOver (program_of share) (signature_of share.accepted) l (value_meant share) before end after) asked over)
