use Rattle.std.proofs.Common.{◌≡◌, take}
use Rattle.std.specs.List.{flat_map}
use Rattle.ame_views.specs.Forms.{form_position}
use Rattle.ame_views.proofs.forms.positions.Given as goal

abbrev pub invariant-loop-token : goal.invariant-loop-token
invariant-loop-token l = l.places.items ≡ flat_map (form_position l.lines.text.now) (take l.token-index l.tokens)
