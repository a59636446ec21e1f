use Rattle.ame_theorems.proofs.DoomedLemmas.{doomed-show}
use Rattle.ame_theorems.proofs.doomed.doomed_attempts_show_nothing.Goals as goal

pub returns : goal.returns
returns c = λ e s seat d is may h. doomed-show s seat d e is may h
