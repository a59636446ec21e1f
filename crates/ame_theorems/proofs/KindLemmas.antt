-- The counters of a run count its entries and its events by their kinds.
use Rattle.std.proofs.Common.{◌≡◌, ℕ, ◌+◌, ◌∷◌, [], List, Bool, true, false, cond, None, ap, arith}
use Rattle.std.specs.Prelude.{count_by}
use Rattle.std.proofs.lemmas.List.Sums.{sum_by-cons, sum_by-append}
use Rattle.ame_journal.specs.declared.entry.Entry.{Entry}
use Rattle.ame_journal.specs.declared.entry.EntryKind.{EntryKind}
use Rattle.ame_protocol.specs.declared.counters.Counters.{Counters}
use Rattle.ame_protocol.specs.Event.After.{after, counted_by}
use Rattle.ame_protocol.specs.Event.Counting.{one_undone, nothing_counted}
use Rattle.ame_protocol.specs.Event.Event.{Event, Find, Reverse}
use Rattle.ame_protocol.specs.Event.Runs.{Follows, entries_along, entries_told}
use Rattle.ame_protocol.specs.Event.EngineState.{EngineState}
use Rattle.ame_theorems.proofs.StoppedLemmas.{faults-kept}
use Rattle.ame_theorems.specs.Kinds.{is_ran, is_free, is_stuck, is_tall, entries_of, is_fault, is_alloc, is_at_commit, is_at_block, is_at_tall, is_refused, CountsByKind}

undone-frees : (stopped : Bool) (c : Counters) → (one_undone stopped c).frees ≡ c.frees + (0 + 0)
undone-frees true c = omega arith
undone-frees false c = omega arith

undone-commits : (stopped : Bool) (c : Counters) → (one_undone stopped c).commits ≡ c.commits + (0 + 0)
undone-commits true c = omega arith
undone-commits false c = omega arith

undone-blocks : (stopped : Bool) (c : Counters) → (one_undone stopped c).blocks ≡ c.blocks + (0 + 0)
undone-blocks true c = omega arith
undone-blocks false c = omega arith

undone-talls : (stopped : Bool) (c : Counters) → (one_undone stopped c).talls ≡ c.talls + (0 + 0)
undone-talls true c = omega arith
undone-talls false c = omega arith

undone-allocs : (stopped : Bool) (c : Counters) → (one_undone stopped c).allocs ≡ c.allocs + 0
undone-allocs true c = omega arith
undone-allocs false c = omega arith

-- an event counts one for each of its entries of a kind, and one if this is so of it
abbrev CountsOne : (EntryKind → Bool) → (Event → Bool) → (Counters → ℕ) → Event → EngineState → Type 0
CountsOne told also of e s = of (counted_by e s) ≡ of s.counters + (entries_of told (entries_told e) + cond (also e) 1 0)

one-freed : (e : Event) (s : EngineState) → CountsOne is_free is_fault (λ c. c.frees) e s
one-freed (Event.Begin seat number) s = omega arith
one-freed (Event.Read seat l) s = omega arith
one-freed (Event.Write seat l v) s = omega arith
one-freed (Event.Alloc seat sort ty v) s = omega arith
one-freed (Event.Check seat attempt steps) s = omega arith
one-freed (Event.TurnBack seat attempt (Reverse.Met l owner)) s = omega arith
one-freed (Event.TurnBack seat attempt (Reverse.Stale Find.Check)) s = omega arith
one-freed (Event.TurnBack seat attempt (Reverse.Stale Find.Commit)) s = omega arith
one-freed (Event.TurnBack seat attempt (Reverse.Stale Find.Block)) s = omega arith
one-freed (Event.TurnBack seat attempt (Reverse.Stale Find.Tall)) s = omega arith
one-freed (Event.End seat attempt steps place woken) s = omega arith
one-freed (Event.Leave seat attempt steps place woken) s = omega arith
one-freed (Event.Note seat attempt steps place) s = omega arith
one-freed (Event.Visit seat attempt steps place inside memory) s = omega arith
one-freed (Event.Refuse seat attempt device) s = omega arith
one-freed (Event.Undo seat attempt) s = undone-frees s.parts.stopped s.counters
one-freed (Event.Home seat attempt) s = undone-frees s.parts.stopped s.counters
one-freed (Event.Cut seat attempt steps place) s = omega arith
one-freed (Event.Tall seat attempt steps place) s = omega arith
one-freed (Event.Halt why) s = omega arith

one-committed : (e : Event) (s : EngineState) → CountsOne is_ran (is_refused is_at_commit) (λ c. c.commits) e s
one-committed (Event.Begin seat number) s = omega arith
one-committed (Event.Read seat l) s = omega arith
one-committed (Event.Write seat l v) s = omega arith
one-committed (Event.Alloc seat sort ty v) s = omega arith
one-committed (Event.Check seat attempt steps) s = omega arith
one-committed (Event.TurnBack seat attempt (Reverse.Met l owner)) s = omega arith
one-committed (Event.TurnBack seat attempt (Reverse.Stale Find.Check)) s = omega arith
one-committed (Event.TurnBack seat attempt (Reverse.Stale Find.Commit)) s = omega arith
one-committed (Event.TurnBack seat attempt (Reverse.Stale Find.Block)) s = omega arith
one-committed (Event.TurnBack seat attempt (Reverse.Stale Find.Tall)) s = omega arith
one-committed (Event.End seat attempt steps place woken) s = omega arith
one-committed (Event.Leave seat attempt steps place woken) s = omega arith
one-committed (Event.Note seat attempt steps place) s = omega arith
one-committed (Event.Visit seat attempt steps place inside memory) s = omega arith
one-committed (Event.Refuse seat attempt device) s = omega arith
one-committed (Event.Undo seat attempt) s = undone-commits s.parts.stopped s.counters
one-committed (Event.Home seat attempt) s = undone-commits s.parts.stopped s.counters
one-committed (Event.Cut seat attempt steps place) s = omega arith
one-committed (Event.Tall seat attempt steps place) s = omega arith
one-committed (Event.Halt why) s = omega arith

one-blocked : (e : Event) (s : EngineState) → CountsOne is_stuck (is_refused is_at_block) (λ c. c.blocks) e s
one-blocked (Event.Begin seat number) s = omega arith
one-blocked (Event.Read seat l) s = omega arith
one-blocked (Event.Write seat l v) s = omega arith
one-blocked (Event.Alloc seat sort ty v) s = omega arith
one-blocked (Event.Check seat attempt steps) s = omega arith
one-blocked (Event.TurnBack seat attempt (Reverse.Met l owner)) s = omega arith
one-blocked (Event.TurnBack seat attempt (Reverse.Stale Find.Check)) s = omega arith
one-blocked (Event.TurnBack seat attempt (Reverse.Stale Find.Commit)) s = omega arith
one-blocked (Event.TurnBack seat attempt (Reverse.Stale Find.Block)) s = omega arith
one-blocked (Event.TurnBack seat attempt (Reverse.Stale Find.Tall)) s = omega arith
one-blocked (Event.End seat attempt steps place woken) s = omega arith
one-blocked (Event.Leave seat attempt steps place woken) s = omega arith
one-blocked (Event.Note seat attempt steps place) s = omega arith
one-blocked (Event.Visit seat attempt steps place inside memory) s = omega arith
one-blocked (Event.Refuse seat attempt device) s = omega arith
one-blocked (Event.Undo seat attempt) s = undone-blocks s.parts.stopped s.counters
one-blocked (Event.Home seat attempt) s = undone-blocks s.parts.stopped s.counters
one-blocked (Event.Cut seat attempt steps place) s = omega arith
one-blocked (Event.Tall seat attempt steps place) s = omega arith
one-blocked (Event.Halt why) s = omega arith

one-tall : (e : Event) (s : EngineState) → CountsOne is_tall (is_refused is_at_tall) (λ c. c.talls) e s
one-tall (Event.Begin seat number) s = omega arith
one-tall (Event.Read seat l) s = omega arith
one-tall (Event.Write seat l v) s = omega arith
one-tall (Event.Alloc seat sort ty v) s = omega arith
one-tall (Event.Check seat attempt steps) s = omega arith
one-tall (Event.TurnBack seat attempt (Reverse.Met l owner)) s = omega arith
one-tall (Event.TurnBack seat attempt (Reverse.Stale Find.Check)) s = omega arith
one-tall (Event.TurnBack seat attempt (Reverse.Stale Find.Commit)) s = omega arith
one-tall (Event.TurnBack seat attempt (Reverse.Stale Find.Block)) s = omega arith
one-tall (Event.TurnBack seat attempt (Reverse.Stale Find.Tall)) s = omega arith
one-tall (Event.End seat attempt steps place woken) s = omega arith
one-tall (Event.Leave seat attempt steps place woken) s = omega arith
one-tall (Event.Note seat attempt steps place) s = omega arith
one-tall (Event.Visit seat attempt steps place inside memory) s = omega arith
one-tall (Event.Refuse seat attempt device) s = omega arith
one-tall (Event.Undo seat attempt) s = undone-talls s.parts.stopped s.counters
one-tall (Event.Home seat attempt) s = undone-talls s.parts.stopped s.counters
one-tall (Event.Cut seat attempt steps place) s = omega arith
one-tall (Event.Tall seat attempt steps place) s = omega arith
one-tall (Event.Halt why) s = omega arith

one-alloc : (e : Event) (s : EngineState) → (counted_by e s).allocs ≡ s.counters.allocs + cond (is_alloc e) 1 0
one-alloc (Event.Begin seat number) s = omega arith
one-alloc (Event.Read seat l) s = omega arith
one-alloc (Event.Write seat l v) s = omega arith
one-alloc (Event.Alloc seat sort ty v) s = omega arith
one-alloc (Event.Check seat attempt steps) s = omega arith
one-alloc (Event.TurnBack seat attempt (Reverse.Met l owner)) s = omega arith
one-alloc (Event.TurnBack seat attempt (Reverse.Stale Find.Check)) s = omega arith
one-alloc (Event.TurnBack seat attempt (Reverse.Stale Find.Commit)) s = omega arith
one-alloc (Event.TurnBack seat attempt (Reverse.Stale Find.Block)) s = omega arith
one-alloc (Event.TurnBack seat attempt (Reverse.Stale Find.Tall)) s = omega arith
one-alloc (Event.End seat attempt steps place woken) s = omega arith
one-alloc (Event.Leave seat attempt steps place woken) s = omega arith
one-alloc (Event.Note seat attempt steps place) s = omega arith
one-alloc (Event.Visit seat attempt steps place inside memory) s = omega arith
one-alloc (Event.Refuse seat attempt device) s = omega arith
one-alloc (Event.Undo seat attempt) s = undone-allocs s.parts.stopped s.counters
one-alloc (Event.Home seat attempt) s = undone-allocs s.parts.stopped s.counters
one-alloc (Event.Cut seat attempt steps place) s = omega arith
one-alloc (Event.Tall seat attempt steps place) s = omega arith
one-alloc (Event.Halt why) s = omega arith

module _ (told : EntryKind → Bool) (also : Event → Bool) (of : Counters → ℕ) (one : (e : Event) (s : EngineState) → CountsOne told also of e s) where
  -- so along a run
  counts-along : (es : List Event) (s end : EngineState) → Follows s es end → of end.counters ≡ of s.counters + (entries_of told (entries_along es) + count_by also es)
  counts-along [] s end run = let same = ap (λ (x : EngineState). of x.counters) run in omega (arith, same)
  counts-along (e ∷ es) s end run =
      let rest = counts-along es (after e s) end run.1 in
      let first = one e s in
      let more : count_by also (e ∷ es) ≡ cond (also e) 1 0 + count_by also es = sum_by-cons (λ (x : Event). cond (also x) 1 0) e es in
      let both : entries_of told (entries_along (e ∷ es)) ≡ entries_of told (entries_told e) + entries_of told (entries_along es) =
      sum_by-append (λ (entry : Entry). cond (told entry.kind) 1 0) (entries_told e) (entries_along es) in
      omega (arith, rest, first, more, both)

allocs-along : (es : List Event) (s end : EngineState) → Follows s es end → end.counters.allocs ≡ s.counters.allocs + count_by is_alloc es
allocs-along [] s end run = let same = ap (λ (x : EngineState). x.counters.allocs) run in omega (arith, same)
allocs-along (e ∷ es) s end run =
    let rest = allocs-along es (after e s) end run.1 in
    let first = one-alloc e s in
    let more : count_by is_alloc (e ∷ es) ≡ cond (is_alloc e) 1 0 + count_by is_alloc es = sum_by-cons (λ (x : Event). cond (is_alloc x) 1 0) e es in
    omega (arith, rest, first, more)

-- from where nothing is counted
pub kinds-counted : (es : List Event) (s end : EngineState) → Follows s es end → s.counters ≡ nothing_counted → s.stop ≡ None
    → CountsByKind es (entries_along es) end.counters end.stop
kinds-counted es s end run none going = record {
  frees =
      let all = counts-along is_free is_fault (λ c. c.frees) one-freed es s end run in
      let zero = ap (λ (c : Counters). c.frees) none in
      let faults = faults-kept es s end run going in
      omega (arith, all, zero, faults);
  faults = faults-kept es s end run going;
  commits =
      let all = counts-along is_ran (is_refused is_at_commit) (λ c. c.commits) one-committed es s end run in
      let zero = ap (λ (c : Counters). c.commits) none in
      omega (arith, all, zero);
  blocks =
      let all = counts-along is_stuck (is_refused is_at_block) (λ c. c.blocks) one-blocked es s end run in
      let zero = ap (λ (c : Counters). c.blocks) none in
      omega (arith, all, zero);
  talls =
      let all = counts-along is_tall (is_refused is_at_tall) (λ c. c.talls) one-tall es s end run in
      let zero = ap (λ (c : Counters). c.talls) none in
      omega (arith, all, zero);
  allocs = let all = allocs-along es s end run in let zero = ap (λ (c : Counters). c.allocs) none in omega (arith, all, zero);
}
