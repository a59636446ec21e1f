use Rattle.std.proofs.Common.{◌≡◌, ◌++◌, take}
use Rattle.std.specs.List.{flat_map}
use Rattle.ame_views.specs.Forms.{form_row}
use Rattle.ame_views.proofs.forms.append_forms.Given as goal

abbrev pub invariant-loop-one : goal.invariant-loop-one
invariant-loop-one l = l.page ≡ l.initial.page ++ flat_map (form_row l.places) (take l.one-index l.made)
