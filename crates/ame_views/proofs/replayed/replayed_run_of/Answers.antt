use Rattle.std.proofs.Common.{ℕ, List, ap, ◌∙◌, subst}
use Rattle.ame_views.specs.Begun.{TellsForms}
use Rattle.ame_views.specs.Starters.{starter_in}
use Rattle.ame_views.proofs.replayed.replayed_run_of.Goals as goal

pub returns-clause-entries : goal.returns-clause-entries
returns-clause-entries c = λ fragment.
    ap (λ (es : List ℕ). starter_in es fragment) c.in_ok-starters.ensures.entries ∙ c.in_ok-led.ensures.starters fragment

pub returns-clause-forms : goal.returns-clause-forms
returns-clause-forms c =
    subst (λ (text : List ℕ). TellsForms text c.args.code.now c.args.entries.now c.in_ok-starters.starters.items) c.in_ok-index.ensures
    (c.in_ok-starters.ensures.forms c.args.entries.now c.in_ok-led.ensures.begun c.in_ok-led.ensures.all)

pub returns-clause-fragments : goal.returns-clause-fragments
returns-clause-fragments c = (c.in_ok-led.ensures.stands.led, c.in_ok-led.ensures.stands.replayed, c.in_ok-led.ensures.stands.shows.next)
