use Rattle.std.proofs.Common.{◌<◌}
use Rattle.std.proofs.lemmas.List.Elements.{All-more}
use Rattle.ame_term.specs.declared.types.Loc.{Loc}
use Rattle.ame_protocol.specs.Engine.Simulates.{most_opened}
use Rattle.ame_engine.proofs.FarLemmas.{near-all, near-none}
use Rattle.ame_engine.proofs.engine.resume.is_near.Goals as goal

pub returns-then-l-ge-MOST_CELLS-clause-no : goal.returns-then-l-ge-MOST_CELLS-clause-no
returns-then-l-ge-MOST_CELLS-clause-no c = λ e near.
    near-none c.args.entry.now.fresh c.as_slice-l-items.result.now c.loop-l.l-index (record { 0 = 0 }) c.as_slice-l-items.ensures c.loop-l-test.true c.if-l-ge-MOST_CELLS.true near

pub loop-l-preserved : goal.loop-l-preserved
loop-l-preserved c = All-more (λ (z : Loc). z.0 < most_opened) c.as_slice-l-items.result.now c.loop-l.l-index (record { 0 = 0 }) c.loop-l-test.true c.loop-l.invariant c.if-l-ge-MOST_CELLS.false

pub returns-clause-yes : goal.returns-clause-yes
returns-clause-yes c = λ yes. near-all c.args.entry.now.fresh c.as_slice-l-items.result.now c.loop-l.l-index c.as_slice-l-items.ensures c.loop-l.invariant c.loop-l-test.false
