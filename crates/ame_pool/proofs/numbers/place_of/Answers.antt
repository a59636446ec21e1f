use Rattle.std.proofs.Common.{rules}
use Rattle.std.proofs.lemmas.List.Sorted.{answers_always}
use Rattle.ame_pool.proofs.EntryLemmas.{searched}
use Rattle.ame_pool.proofs.numbers.place_of.Goals as goal

pub returns-in-None-clause-found : goal.returns-in-None-clause-found
returns-in-None-clause-found c =
    let facts = c.binary_search_by_key.ensures in
    let by_number = facts.position (λ e. e.number) (answers_always _ _ _ (λ f a r g called. search rules)) in
    (searched c.args.numbers.now c.requires c.args.number _ facts.bound by_number).0

pub returns-in-None-clause-absent : goal.returns-in-None-clause-absent
returns-in-None-clause-absent c =
    let facts = c.binary_search_by_key.ensures in
    let by_number = facts.position (λ e. e.number) (answers_always _ _ _ (λ f a r g called. search rules)) in
    (searched c.args.numbers.now c.requires c.args.number _ facts.bound by_number).1
