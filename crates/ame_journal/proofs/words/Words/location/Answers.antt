use Rattle.std.proofs.Common.{refl, ◌^◌, arith}
use Rattle.ame_journal.proofs.WordLemmas.{too_great}
use Rattle.ame_journal.proofs.words.Words.location.Goals as goal

pub returns-then-location : goal.returns-then-location
returns-then-location c =
    (refl, λ x rest low. let a = c.in_ok-first.ensures in let b = c.in_ok-location.ensures in too_great _ rest _ c.in_ok-location.location x.0 (2 ^ 32) a b.0 b.1 (omega arith) low)
