use Rattle.std.proofs.Common.{◌≡◌, [], ◌∷◌, ◌++◌, OnOk, ap, sym, subst, ◌∙◌, append-nil}
use Rattle.std.proofs.lemmas.Result.{on_ok_weaker, on_err_weaker}
use Rattle.ame_baton.specs.Batons.{knows}
use Rattle.ame_baton.specs.Tallies.{CountsSeat, IsAsBefore}
use Rattle.ame_baton.proofs.Counting.{Known, may_count, gave_added, gave_row}
use Rattle.ame_baton.proofs.tally.count.Goals as goal

pub give-requires-clause-may : goal.give-requires-clause-may
give-requires-clause-may g c = let k = knows c.take-tally.new.seat in
    let ok = subst (λ n. OnOk c.add-counted.result (CountsSeat n c.take-tally.result c.add-counted.new.self)) c.number.ensures c.add-counted.ensures.ok in
    may_count (knows c.args.seat.now) k c.take-tally.result c.add-counted.new.self c.take-tally.ensures.taken c.add-counted.result ok c.add-counted.ensures.err

pub returns-clause-counted : goal.returns-clause-counted
returns-clause-counted g c = let before : Known = knows c.args.seat.now in let taken = c.take-tally.ensures.taken in let n = c.number.result in
    let t = c.take-tally.result in let t' = c.add-counted.new.self in let after : Known = knows c.give.new.seat in
    let all : CountsSeat n t t' → after.own ≡ before.own ++ before.number ∷ [] = λ is. gave_added before (knows c.take-tally.new.seat) t t' taken (λ row. Unit {0}) after (n ∷ []) c.give.ensures.given is.log
    ∙ ap (λ m. before.own ++ m ∷ []) (c.number.ensures ∙ ap (λ (x : Known). x.number) taken.rest) in
    on_ok_weaker c.add-counted.result all c.add-counted.ensures.ok

pub returns-clause-refused : goal.returns-clause-refused
returns-clause-refused g c = let before : Known = knows c.args.seat.now in let taken = c.take-tally.ensures.taken in
    let t = c.take-tally.result in let t' = c.add-counted.new.self in let after : Known = knows c.give.new.seat in
    let all : IsAsBefore t t' → after.own ≡ before.own = λ is. gave_added before (knows c.take-tally.new.seat) t t' taken (λ row. Unit {0}) after [] c.give.ensures.given (is.log ∙ sym (append-nil t.log.items))
    ∙ append-nil before.own in
    on_err_weaker c.add-counted.result all c.add-counted.ensures.err

pub returns-clause-row : goal.returns-clause-row
returns-clause-row g c =
    let all : IsAsBefore c.take-tally.result c.add-counted.new.self → (knows c.give.new.seat).row ≡ (knows c.args.seat.now).row = λ is. gave_row (knows c.args.seat.now) (knows c.take-tally.new.seat)
    c.take-tally.result c.add-counted.new.self c.take-tally.ensures.taken (λ row. Unit {0}) (knows c.give.new.seat) c.give.ensures.given is.last in
    on_err_weaker c.add-counted.result all c.add-counted.ensures.err
