use Rattle.ame_check.proofs.StartLemmas.{starts}
use Rattle.ame_check.proofs.replay.Replay.start.Goals as goal

pub returns : goal.returns
returns g c =
    starts g.M.Runner.meaning c.args.code.now (g.met.M.Runner.accepted c.args.code.now) c.in_ok-start.field-0 c.new.result.entries c.insert.new.self.entries c.new-members.result.entries c.new-2.result.items
    c.in_ok-start.ensures.machine c.in_ok-start.ensures.stage c.new.ensures.empty c.new-members.ensures.empty c.in_ok-insert.ensures.entries c.new-2.ensures.items
