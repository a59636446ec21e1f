use Rattle.std.proofs.Common.{◌≡◌, ℕ, sym, subst}
use Rattle.ame_protocol.specs.declared.types.Task.{Task}
use Rattle.ame_protocol.specs.Engine.Parts.{task_at}
use Rattle.ame_shell.specs.Shell.{IsShell}
use Rattle.ame_shell.proofs.OverLemmas.{lacking-keeps}
use Rattle.ame_shell.proofs.shell.Shell.give_up.Goals as goal

pub finish-requires-clause-idle : goal.finish-requires-clause-idle
finish-requires-clause-idle g c = subst (λ core. (seat : ℕ) → task_at core.tasks seat ≡ Task.Idle) (sym c.stop.ensures.stops) c.requires.idle

pub returns-clause-over : goal.returns-clause-over
returns-clause-over g c = λ opening h.
    let r = g.M.Runner.meaning in
    let was = c.args.self in
    c.finish.ensures.over opening
    (subst (λ core. IsShell r opening (record { core = core; sent = was.sent; ends = was.io.ends }))
    (sym c.stop.ensures.stops) (lacking-keeps r opening _ h))
