use Rattle.ame_engine.specs.Seen.{parts_of}
use Rattle.ame_theorems.proofs.RowLemmas.{machine-under-way}
use Rattle.ame_theorems.proofs.doomed.machines_on_valid_rows_are_under_way.Goals as goal

pub returns : goal.returns
returns g c = λ seat m attempt r on task valid there calm.
    machine-under-way (parts_of g.M.Runner.meaning c.args.engine.now) c.stands.ensures r seat attempt (g.M.Runner.meaning.stage c.args.engine.now.code m) there task on.stands
    valid calm
