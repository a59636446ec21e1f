use Rattle.std.proofs.Common.{refl}
use Rattle.ame_journal.proofs.WordLemmas.{too_great}
use Rattle.ame_journal.proofs.words.Words.seat.Goals as goal

pub returns-then-seat-ge32 : goal.returns-then-seat-ge32
returns-then-seat-ge32 c =
    (refl, λ x rest low. let a = c.in_ok-first.ensures in let b = c.in_ok-seat.ensures in too_great _ rest _ c.in_ok-seat.seat x 32 a b.0 b.1 c.if-seat-ge32.true low)
