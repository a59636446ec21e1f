use Rattle.std.proofs.Common.{◌≡◌, ℕ, ◌++◌, Option, rules, ap, ◌∙◌}
use Rattle.std.specs.Prelude.{codes, decimal, slice_get}
use Rattle.ame_why.specs.declared.position.Position.{Position}
use Rattle.ame_why.specs.Position.{position_words}
use Rattle.ame_views.specs.Standings.{made_words}
use Rattle.ame_views.proofs.StandingsLemmas.{added-four}
use Rattle.ame_views.proofs.standing_lines.append_made.Goals as goal

pub returns : goal.returns
unfolding made_words
returns c =
    let same : c.from.result ≡ c.args.l = search rules in
    added-four c.args.page.now c.add.new.self c.add_number.new.self c.add-2.new.self c.append_position.new.page
    (codes "  it read location ") (decimal c.args.l) (codes " (created at ") (position_words (slice_get c.args.forms.now c.args.form.0))
    c.in_ok-add.ensures
    (c.in_ok-add_number.ensures ∙ ap (λ (n : ℕ). c.add.new.self ++ decimal n) same)
    c.in_ok-add-2.ensures
    (c.in_ok-append_position.ensures ∙ ap (λ (o : Option Position). c.add-2.new.self ++ position_words o) c.position_at.ensures)
