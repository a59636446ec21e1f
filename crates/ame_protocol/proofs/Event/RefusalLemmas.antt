-- The answers that turned a member back are the events of a run in which a seat turns back.
use Rattle.std.proofs.Common.{List, [], ap, arith, cond, refl, ◌+◌, ◌∷◌, ◌≡◌, ◌≤◌, ◌*◌, length}
use Rattle.std.specs.Prelude.{count_by}
use Rattle.std.proofs.lemmas.List.Sums.{sum_by-cons}
use Rattle.ame_pool.specs.Standings.{max_rollbacks}
use Rattle.ame_protocol.proofs.Bounds.FewBounds.{refusals-bounded}
use Rattle.ame_protocol.specs.Event.After.{after, counted_by}
use Rattle.ame_protocol.specs.Event.Bounds.{refusals}
use Rattle.ame_protocol.specs.Event.Counting.{Counted}
use Rattle.ame_protocol.specs.Event.Event.{Event, Find, Reverse}
use Rattle.ame_protocol.specs.Event.Runs.{Follows, is_back}
use Rattle.ame_protocol.specs.Event.Sound.{Sound}
use Rattle.ame_protocol.specs.Event.EngineState.{EngineState}
use Rattle.ame_protocol.proofs.Event.CountLemmas.{conflict-refused, invalid-refused, undone-refused}
use Rattle.ame_protocol.proofs.Event.RunLemmas.{sound-along}

one-refused : (e : Event) (s : EngineState) → refusals (counted_by e s) ≡ refusals s.counters + cond (is_back e) 1 0
one-refused (Event.Begin seat number) s = omega arith
one-refused (Event.Read seat l) s = omega arith
one-refused (Event.Write seat l v) s = omega arith
one-refused (Event.Alloc seat sort ty v) s = omega arith
one-refused (Event.Check seat attempt steps) s = omega arith
one-refused (Event.TurnBack seat attempt (Reverse.Met l owner)) s = conflict-refused s.counters
one-refused (Event.TurnBack seat attempt (Reverse.Stale Find.Check)) s = invalid-refused Counted.Check s.counters refl
one-refused (Event.TurnBack seat attempt (Reverse.Stale Find.Commit)) s = invalid-refused Counted.Commit s.counters refl
one-refused (Event.TurnBack seat attempt (Reverse.Stale Find.Block)) s = invalid-refused Counted.Block s.counters refl
one-refused (Event.TurnBack seat attempt (Reverse.Stale Find.Tall)) s = invalid-refused Counted.Tall s.counters refl
one-refused (Event.End seat attempt steps place woken) s = omega arith
one-refused (Event.Leave seat attempt steps place woken) s = omega arith
one-refused (Event.Note seat attempt steps place) s = omega arith
one-refused (Event.Visit seat attempt steps place inside memory) s = omega arith
one-refused (Event.Refuse seat attempt device) s = omega arith
one-refused (Event.Undo seat attempt) s = let same = undone-refused s.parts.stopped s.counters in omega (arith, same)
one-refused (Event.Home seat attempt) s = let same = undone-refused s.parts.stopped s.counters in omega (arith, same)
one-refused (Event.Cut seat attempt steps place) s = omega arith
one-refused (Event.Tall seat attempt steps place) s = omega arith
one-refused (Event.Halt why) s = omega arith

pub run-refused : (es : List Event) (s end : EngineState) → Follows s es end → refusals end.counters ≡ refusals s.counters + count_by is_back es
run-refused [] s end run = let same = ap (λ (x : EngineState). refusals x.counters) run in omega (arith, same)
run-refused (e ∷ es) s end run =
    let rest = run-refused es (after e s) end run.1 in
    let first = one-refused e s in
    let more : count_by is_back (e ∷ es) ≡ cond (is_back e) 1 0 + count_by is_back es = sum_by-cons (λ (x : Event). cond (is_back x) 1 0) e es in
    omega (arith, rest, first, more)

-- So a run from a sound state turns seats back at most eight times for each member that there ever was, and for each entry.
pub run-backs : (es : List Event) (s end : EngineState) → Follows s es end → Sound s → refusals s.counters + count_by is_back es
    ≤ max_rollbacks * (end.parts.next + length end.parts.entries)
run-backs es s end run h =
    let later = sound-along es s end run h in
    let few = refusals-bounded (refusals end.counters) end.parts later.stands later.bounds.few later.pool.rising later.pool.few in
    let told = run-refused es s end run in omega (arith, few, told)
