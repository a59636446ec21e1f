use Rattle.std.specs.BTreeSet.{contains}
use Rattle.std.specs.Ordering.{nat_cmp}
use Rattle.ame_weak.specs.View.{weak_of}
use Rattle.ame_runner.specs.View.{aside_of, run_of}
use Rattle.ame_runner.proofs.ChooseLemmas.{listed-so}
use Rattle.ame_runner.proofs.run.Run.who_may.Goals as goal

pub returns : goal.returns
returns c =
    listed-so c.candidates.result (weak_of c.state.result.now) (run_of c.args.self.now).play.weak (contains nat_cmp c.aside.result.now) (aside_of c.args.self.now.notes) c.candidates.ensures
    c.state.ensures c.aside.ensures
