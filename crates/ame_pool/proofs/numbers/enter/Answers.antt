use Rattle.std.proofs.Common.{◌≡◌, ◌∙◌, subst, rules}
use Rattle.ame_pool.proofs.Words.{IsEntryOf, IsEntryGap, insert}
use Rattle.ame_pool.proofs.EntryLemmas.{at_entry, at_gap}
use Rattle.ame_pool.proofs.numbers.enter.Goals as goal

pub returns-in-Ok-clause-items : goal.returns-in-Ok-clause-items
returns-in-Ok-clause-items c =
    (at_entry c.args.numbers.now.items c.requires.rising c.args.entry c.in-Ok.place c.args.entry
    (subst (λ es. IsEntryOf c.args.entry.number es c.in-Ok.place) c.as_slice.ensures.value c.in-Ok.ensures.found)).1

pub returns-in-Err-clause-items : goal.returns-in-Err-clause-items
returns-in-Err-clause-items c =
    let items : c.insert.new.self.items ≡ insert c.args.numbers.now.items c.in-Err.place c.args.entry = search rules in
    items ∙ (at_gap c.args.numbers.now.items c.args.entry c.in-Err.place
    (subst (λ es. IsEntryGap c.args.entry.number es c.in-Err.place) c.as_slice.ensures.value c.in-Err.ensures.absent)).1
