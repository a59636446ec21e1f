use Rattle.std.proofs.Common.{sym}
use Rattle.ame_views.proofs.BegunLemmas.{seen-from}
use Rattle.ame_views.proofs.begun.beginning_of.Goals as goal

pub returns-in-Some-clause-seen : goal.returns-in-Some-clause-seen
returns-in-Some-clause-seen c =
    seen-from c.args.replay.now.members.entries c.args.number c.in-Some.fragment.now (sym c.in-Some.ensures.value) c.start_of.result c.start_of.ensures.begins
