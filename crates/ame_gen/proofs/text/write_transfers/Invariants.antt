use Rattle.std.proofs.Common.{◌≡◌, ◌++◌, ◌*◌}
use Rattle.ame_gen.specs.Stream.{stream_at}
use Rattle.ame_gen.specs.Template.{transfer_lines}
use Rattle.ame_gen.proofs.text.write_transfers.Given as goal

-- each transfer took three numbers
abbrev pub invariant-loop : goal.invariant-loop
invariant-loop l = (l.text.items ≡ l.initial.text.items ++ transfer_lines l.seed l.counter) × (l.numbers ≡ stream_at l.seed (3 * l.counter))
