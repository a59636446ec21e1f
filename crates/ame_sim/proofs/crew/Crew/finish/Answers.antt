use Rattle.std.proofs.Common.{◌≡◌, ℕ, sym, subst}
use Rattle.ame_protocol.specs.declared.types.Task.{Task}
use Rattle.ame_protocol.specs.Engine.Parts.{task_at}
use Rattle.ame_shell.specs.Shell.{IsShell}
use Rattle.ame_sim.proofs.crew.Crew.finish.Goals as goal

pub finish-requires-clause-idle : goal.finish-requires-clause-idle
finish-requires-clause-idle g c =
    subst (λ v. (seat : ℕ) → task_at v.core.tasks seat ≡ Task.Idle) (sym c.self.view_is) c.requires.idle

pub returns-clause-over : goal.returns-clause-over
returns-clause-over g c = λ opening h.
    c.finish.ensures.over opening (subst (λ v. IsShell g.M.Runner.meaning opening v) (sym c.self.view_is) h)
