use Rattle.ame_shell.proofs.OverLemmas.{is-over}
use Rattle.ame_shell.proofs.shell.Shell.finish.Goals as goal

pub returns : goal.returns
returns g c = record {
  told = c.finish.ensures.told;
  over = λ opening h.
      is-over g.M.Runner.meaning opening _ c.finish.result h c.finish.ensures.told c.finish.ensures.ends;
}
