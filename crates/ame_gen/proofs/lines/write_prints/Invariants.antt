use Rattle.std.proofs.Common.{◌≡◌, ◌++◌}
use Rattle.std.specs.List.{flat_map, range_with_len}
use Rattle.ame_gen.specs.Template.{print_of}
use Rattle.ame_gen.proofs.lines.write_prints.Given as goal

abbrev pub invariant-loop-account : goal.invariant-loop-account
invariant-loop-account l = l.text.items ≡ l.initial.text.items ++ flat_map print_of (range_with_len 0 l.account)
