use Rattle.std.proofs.Common.{◌≡◌, ◌+◌, false, IsSome, is_some, length, map, ap, subst, ◌∙◌, arith}
use Rattle.crossbeam_queue.specs.Passes.{view}
use Rattle.ame_baton.specs.Seats.{left_by}
use Rattle.ame_baton.specs.Rule.{Popped}
use Rattle.ame_baton.specs.Batons.{knows}
use Rattle.ame_baton.proofs.Pops.{takes, elsewhere}
use Rattle.ame_baton.proofs.Readiness.{length_map, ends}
use Rattle.ame_baton.proofs.turn.Baton.end.Goals as goal

pub pop_as-requires-clause-rule : goal.pop_as-requires-clause-rule
pop_as-requires-clause-rule g c = let r = g.S.Rowed in let kept = rw c.into_pass-pass.ensures at c.join_all.ensures.kept in
    let seated : IsSome (view c.join_all.new.pass).fixed = ap (λ k. is_some k.fixed) kept ∙ c.args.first.seated in
    let free : (view c.join_all.new.pass).holds ≡ false = ap (λ k. k.holds) kept ∙ c.requires.first.free in (
      takes r.stands_for r.empty_row r.seat_of _ _ seated,
      elsewhere r.stands_for r.empty_row r.seat_of _ _ seated free,
    )

pub returns : goal.returns
returns g c = let r = g.S.Rowed in let first = c.args.first in let kept = rw c.into_pass-pass.ensures at c.join_all.ensures.kept in
    let short = length_map (λ s. left_by (knows s)) c.args.rest.items in let size = c.args.rest.ok.0 in let made = c.requires.all in
    let all : (knows first).made ≡ length (map (λ s. left_by (knows s)) c.args.rest.items) + 1 = omega (arith, short, size, made) in
    ends r.stands_for r.empty_row r.seat_of (knows first) (map (λ s. left_by (knows s)) c.args.rest.items) c.in-Some.state (view c.pop_as.new.pass) c.requires.first.numbered all
    (subst (λ k. Popped r.stands_for r.empty_row r.seat_of k c.in-Some.state (view c.pop_as.new.pass)) kept c.in-Some.ensures.rule)
