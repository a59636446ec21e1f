use Rattle.ame_shell.proofs.WorkLemmas.{running-low, stepped-low, visited-low}
use Rattle.ame_certified.proofs.machines.machines_make_low_events.Goals as goal

pub returns-clause-running : goal.returns-clause-running
returns-clause-running c = λ s seat attempt m. running-low s.parts seat attempt m

pub returns-clause-free : goal.returns-clause-free
returns-clause-free c = λ s seat attempt m h task inside low. stepped-low s.parts seat attempt m h task inside low

pub returns-clause-visit : goal.returns-clause-visit
returns-clause-visit c = λ s seat attempt m h task inside on low other. visited-low s.parts seat attempt m h task inside on low other
