use Rattle.ame_engine.proofs.HaltLemmas.{makes-halted, outside-apart}
use Rattle.ame_engine.proofs.engine.Engine.stop.Goals as goal

pub keep-requires-clause-apart : goal.keep-requires-clause-apart
keep-requires-clause-apart g c = outside-apart c.args.why c.requires

pub returns-clause-halts : goal.returns-clause-halts
returns-clause-halts g c = λ going.
    makes-halted g.M.Runner.meaning c.args.self.now c.keep.new.self going c.args.why c.keep.ensures (outside-apart c.args.why c.requires)
    (c.stops_have_causes.ensures.outside c.args.why c.requires going) (c.stops_have_causes.ensures.leaves c.args.why c.requires)
