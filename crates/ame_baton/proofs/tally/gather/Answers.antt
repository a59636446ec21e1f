use Rattle.std.proofs.Common.{◌≡◌, ◌∷◌, [], slice_get, map, refl, ap, rules}
use Rattle.ame_baton.specs.Seats.{left_by}
use Rattle.ame_baton.specs.Batons.{knows}
use Rattle.ame_baton.proofs.Counting.{counted_at_end}
use Rattle.ame_baton.proofs.tally.gather.Goals as goal

pub returns-clause-first : goal.returns-clause-first
returns-clause-first g c = counted_at_end _ _ c.end.result 0 _ (left_by (knows c.args.first)) c.end.ensures refl refl

pub returns-clause-second : goal.returns-clause-second
returns-clause-second g c = let pushed : c.push.new.self.items ≡ c.args.second ∷ [] = search rules in
    counted_at_end _ _ c.end.result 1 _ (left_by (knows c.args.second)) c.end.ensures (ap (λ l. slice_get (map (λ s. left_by (knows s)) l) 0) pushed) refl
