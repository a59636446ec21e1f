use Rattle.std.proofs.Common.{◌≡◌, ℕ, sym, ap, ◌∙◌, subst}
use Rattle.ame_protocol.specs.declared.types.Task.{Task}
use Rattle.ame_protocol.specs.Engine.Parts.{task_at}
use Rattle.ame_shell.specs.Shell.{Opening, shell_view, IsShell, IsOverFrom}
use Rattle.ame_worker.specs.Shared.{opening_from}
use Rattle.ame_team.proofs.run.resume_by_workers.Goals as goal

pub give_up-requires : goal.give_up-requires
give_up-requires g c = record {
  idle =
      subst (λ shell. (seat : ℕ) → task_at shell.engine.tasks seat ≡ Task.Idle)
      (sym (c.into_shell.ensures ∙ ap (λ shared. shared.shell.value) c.in-Err.ensures.back)) c.in_ok-shared.ensures.idle;
}

pub returns-in-Err-clause-over : goal.returns-in-Err-clause-over
returns-in-Err-clause-over g c =
    let r = g.M.Runner.meaning in
    let left = c.give_up.result in
    let opened = c.in_ok-shared.ensures.opens in
    let opening = opening_from (shell_view c.in_ok-shared.shared.made.value) in
    subst (λ (o : Opening g.row.M-Code.Denot). IsOverFrom r o left.ended left.io.ends) opened.opened
    (c.give_up.ensures.over opening
    (subst (λ sh. IsShell r opening (shell_view sh)) (sym (c.into_shell.ensures ∙ ap (λ shared. shared.shell.value) c.in-Err.ensures.back)) opened.unused.shell))
