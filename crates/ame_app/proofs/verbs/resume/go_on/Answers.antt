use Rattle.std.proofs.Common.{◌∙◌, refl, sym, ap, subst}
use Rattle.std.specs.Arc.{arc_value}
use Rattle.ame_journal.specs.Totals.{without_notes}
use Rattle.ame_journal.specs.Replay.{replay}
use Rattle.ame_code.specs.Code.{program_of}
use Rattle.ame_engine.specs.Resuming.{AreActs}
use Rattle.ame_app.specs.Headline.{limits_of}
use Rattle.ame_app.specs.Verbs.Check.{entries_before}
use Rattle.ame_app.proofs.ResumeLemmas.{acts-are, acts-lead, goes-on}
use Rattle.ame_app.proofs.verbs.resume.go_on.Goals as goal

pub engine_on-requires-clause-acts : goal.engine_on-requires-clause-acts
engine_on-requires-clause-acts c =
    subst AreActs (sym (c.in_ok-base.ensures ∙ ap without_notes c.entries_before.ensures.entries)) (acts-are (entries_before c.args.front.now))

pub engine_on-requires-clause-leads : goal.engine_on-requires-clause-leads
engine_on-requires-clause-leads c =
    let leads = c.requires.leads in
    let lead = acts-lead (program_of (arc_value c.args.code.now)) (entries_before c.args.front.now) leads.0 leads.1 in (
      lead.0,
      ap (replay (program_of (arc_value c.args.code.now))) (c.in_ok-base.ensures ∙ ap without_notes c.entries_before.ensures.entries) ∙ lead.1,
    )

pub returns-in-Ok : goal.returns-in-Ok
returns-in-Ok c =
    let leads = c.requires.leads in
    goes-on c.args.options c.args.front.now (arc_value c.args.code.now) (limits_of c.args.options) c.in_ok-base.base.entries leads.0 c.in-Ok.engine refl
    (c.in_ok-base.ensures ∙ ap without_notes c.entries_before.ensures.entries) leads.1 c.in-Ok.ensures.near c.in-Ok.ensures.on.code_is c.in-Ok.ensures.on.resumed
