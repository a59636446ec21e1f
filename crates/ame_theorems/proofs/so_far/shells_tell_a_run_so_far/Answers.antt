use Rattle.ame_shell.specs.Shell.{shell_view}
use Rattle.ame_theorems.proofs.SoFarLemmas.{shell-shown}
use Rattle.ame_theorems.proofs.so_far.shells_tell_a_run_so_far.Goals as goal

pub returns : goal.returns
returns g c = λ opening h none.
    shell-shown g.M.Runner.meaning opening (shell_view c.args.shell.now)
    c.stands.ensures h none
