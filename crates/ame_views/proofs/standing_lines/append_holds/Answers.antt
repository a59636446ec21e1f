use Rattle.std.proofs.Common.{ℕ, List, ◌++◌, ap, ◌∙◌}
use Rattle.std.specs.Prelude.{codes}
use Rattle.ame_value.specs.View.{flat_value}
use Rattle.ame_views.specs.Stored.{held_words}
use Rattle.ame_views.specs.Standings.{holds_words}
use Rattle.ame_views.proofs.StandingsLemmas.{added-three}
use Rattle.ame_views.proofs.standing_lines.append_holds.Goals as goal

pub returns : goal.returns
unfolding holds_words
returns c =
    added-three c.args.page.now c.add.new.self c.add-2.new.self c.add-3.new.self
    (codes "), which now holds ") (held_words (flat_value c.args.value.now)) (codes "\n")
    c.in_ok-add.ensures
    (c.in_ok-add-2.ensures ∙ ap (λ (xs : List ℕ). c.add.new.self ++ xs) (c.deref.ensures.value ∙ c.in_ok-held.ensures))
    c.in_ok-add-3.ensures
