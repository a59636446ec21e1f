use Rattle.ame_value.specs.View.{flat_value}
use Rattle.ame_views.proofs.StoredLemmas.{parts}
use Rattle.ame_views.proofs.stored.+plain.Given as goal

abbrev pub decreases-plain : goal.decreases-plain
decreases-plain l = parts (flat_value l.value.now)
