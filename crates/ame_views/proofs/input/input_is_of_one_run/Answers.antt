use Rattle.std.proofs.Common.{◌∙◌, sym}
use Rattle.ame_views.proofs.InputLemmas.{one_run}
use Rattle.ame_views.proofs.input.input_is_of_one_run.Goals as goal

pub returns : goal.returns
returns c = λ input program other entries others one two.
    one_run entries others program other one.spellable two.spellable (sym one.spelled ∙ two.spelled)
