use Rattle.std.proofs.Common.{◌≡◌, ap, sym, ◌∙◌, arith}
use Rattle.ame_value.specs.View.{flat_value, pair_value}
use Rattle.ame_views.proofs.StoredLemmas.{first_falls, second_falls}
use Rattle.ame_views.proofs.stored.+plain.Goals as goal

pub plain-requires : goal.plain-requires
plain-requires t c =
    let whole : flat_value c.args.value.now ≡ pair_value c.deref.result.now = ap flat_value c.in-Pair.is ∙ ap pair_value (sym c.deref.ensures) in
    let less = first_falls (flat_value c.args.value.now) (flat_value c.first.result.now) c.deref.result.now whole c.first.ensures in
    let before = c.decreases in
    (omega arith, tt)

pub plain-requires-in-Pair : goal.plain-requires-in-Pair
plain-requires-in-Pair t c =
    let again = c.deref-in-Pair.result.now in
    let whole : flat_value c.args.value.now ≡ pair_value again = ap flat_value c.in-Pair.is ∙ ap pair_value (sym c.deref-in-Pair.ensures) in
    let less = second_falls (flat_value c.args.value.now) (flat_value c.second.result.now) again whole c.second.ensures in
    let before = c.decreases in
    (omega arith, tt)
