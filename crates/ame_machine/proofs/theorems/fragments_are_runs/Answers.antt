use Rattle.std.proofs.Common.{◌≡◌, ℕ, Some, ◌∙◌, subst}
use Rattle.ame_term.specs.Frame.{Side}
use Rattle.ame_machine.specs.Run.Local.{local}
use Rattle.ame_machine.proofs.Run.LabelRunLemmas.{fragment_run}
use Rattle.ame_machine.proofs.theorems.fragments_are_runs.Goals as goal

pub returns : goal.returns
returns c = λ s i term kinds n fresh u member are e.
    let x = fragment_run s i term kinds u member are.answered e in
    let r = x.run_to in
    (r.inputs, r.place, subst (λ (k : ℕ). local Side.Protected term r.inputs k ≡ Some r.place) are.count r.ran, r.used, r.agrees, r.after_run, r.member, r.made ∙ are.made, x.active_then)
