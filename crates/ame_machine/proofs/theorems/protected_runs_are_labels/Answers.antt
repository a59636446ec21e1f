use Rattle.ame_machine.proofs.Run.ReplayLemmas.{active_run}
use Rattle.ame_machine.proofs.theorems.protected_runs_are_labels.Goals as goal

pub returns : goal.returns
returns c = λ s i term inputs n p idle member calm ran agrees.
    let a = active_run s i term inputs member idle calm n p ran agrees in
    (a.behind, a.way, a.after_run, a.member)
