use Rattle.std.proofs.Common.{subst, sym}
use Rattle.ame_journal.proofs.SpellingLemmas.{from_ok}
use Rattle.ame_journal.proofs.TextLemmas.{one_more, IsUnderWay}
use Rattle.ame_journal.proofs.journal.Journal.from_text.Goals as goal

pub loop-rest-preserved : goal.loop-rest-preserved
loop-rest-preserved c =
    let read = rw c.in-Ok-Some.field-0-is at c.in-Ok-Some.ensures in
    let added = from_ok _ c.add.result c.if-is_err.ensures.negation c.add.ensures in
    subst (λ entries. IsUnderWay c.args.text.now entries c.in-Ok-Some.behind.now) (sym added)
    (one_more c.args.text.now c.loop-rest.journal.entries c.loop-rest.rest.now c.in-Ok-Some.behind.now c.in-Ok-Some.entry c.loop-rest.invariant read)
