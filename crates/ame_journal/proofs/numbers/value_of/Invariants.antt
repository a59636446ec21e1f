use Rattle.std.proofs.Common.{◌≡◌, ◌-◌, ◌^◌, min, take}
use Rattle.ame_journal.specs.Words.{digits_number}
use Rattle.ame_journal.proofs.numbers.value_of.Given as goal

abbrev pub invariant-loop-digit : goal.invariant-loop-digit
invariant-loop-digit l = l.value ≡ min (digits_number (take l.digit-index l.digits)) (2 ^ 64 - 1)
