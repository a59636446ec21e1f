use Rattle.std.proofs.Common.{ap}
use Rattle.std.specs.Arc.{arc_value}
use Rattle.ame_worker.proofs.OpenLemmas.{if-ok-by, opened-started}
use Rattle.ame_worker.proofs.shared.Shared.open.Goals as goal

pub returns-clause-opens : goal.returns-clause-opens
returns-clause-opens g c =
    if-ok-by c.around.result _ _
    (opened-started g.M.Runner.meaning c.in-Ok.engine (arc_value c.args.code) c.args.limits c.args.io c.in-Ok.ensures.code c.in-Ok.ensures.parts c.in-Ok.ensures.state)
    c.around.ensures.fresh

pub returns-clause-kept : goal.returns-clause-kept
returns-clause-kept g c = if-ok-by c.around.result _ _ (λ shared around. ap (λ s. s.io) around.shell) c.around.ensures.fresh
