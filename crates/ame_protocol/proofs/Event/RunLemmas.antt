-- Runs of events.
use Rattle.std.proofs.Common.{if◌then◌else◌, Bool, List, None, [], ap, append_assoc, arith, false, length}
use Rattle.std.proofs.Common.{refl, subst, sym, true, ◌++◌, ◌+◌, ◌∙◌, ◌∷◌, ◌≡◌, ◌≤◌}
use Rattle.std.proofs.lemmas.List.{append-nil}
use Rattle.ame_journal.specs.declared.entry.Entry.{Entry}
use Rattle.ame_rows.specs.LettingGo.{undone_last}
use Rattle.ame_protocol.specs.Engine.Events.{brought_home, one_turn, undo_turn, with_memory, with_task, with_try}
use Rattle.ame_protocol.specs.Engine.Parts.{Parts, task_at}
use Rattle.ame_protocol.specs.declared.types.Task.{Task}
use Rattle.ame_protocol.specs.Event.Undoing.{reason_to_undo}
use Rattle.ame_protocol.specs.Event.After.{after}
use Rattle.ame_protocol.specs.Event.Event.{Event}
use Rattle.ame_protocol.specs.Event.May.{May}
use Rattle.ame_protocol.specs.Event.Runs.{Follows, entries_along, entries_told}
use Rattle.ame_protocol.specs.Event.Sound.{Sound}
use Rattle.ame_protocol.specs.Event.EngineState.{EngineState}
use Rattle.ame_protocol.proofs.Event.ActLemmas.{not-stopped}
use Rattle.ame_protocol.proofs.Event.SoundLemmas.{sound-after}

pub sound-along : (es : List Event) (s end : EngineState) → Follows s es end → Sound s → Sound end
sound-along [] s end run h = subst Sound (sym run) h
sound-along (e ∷ es) s end run h = sound-along es (after e s) end run.1 (sound-after e s run.0 h)

pub follows-more : (es : List Event) (s end : EngineState) (e : Event) → Follows s es end → May e end → Follows s (es ++ e ∷ []) (after e end)
follows-more [] s end e run may = (subst (May e) run may, ap (after e) run)
follows-more (first ∷ es) s end e run may = (run.0, follows-more es (after first s) end e run.1 may)

-- Limits, which no event changes

undo-limits : (parts : Parts) → (undo_turn parts).limits ≡ parts.limits
undo-limits parts = by parts.stopped
  where
    by : (b : Bool) → (if b then parts else one_turn parts).limits ≡ parts.limits
    by true = refl
    by false = refl

pub limits-stay : (e : Event) (s : EngineState) → (after e s).parts.limits ≡ s.parts.limits
limits-stay (Event.Begin seat number) s = refl
limits-stay (Event.Read seat l) s = refl
limits-stay (Event.Write seat l v) s = refl
limits-stay (Event.Alloc seat sort ty v) s = refl
limits-stay (Event.Check seat attempt steps) s = refl
limits-stay (Event.TurnBack seat attempt why) s = refl
limits-stay (Event.End seat attempt steps place woken) s = refl
limits-stay (Event.Leave seat attempt steps place woken) s = refl
limits-stay (Event.Note seat attempt steps place) s = refl
limits-stay (Event.Visit seat attempt steps place inside memory) s = refl
limits-stay (Event.Refuse seat attempt device) s = refl
limits-stay (Event.Undo seat attempt) s = undo-limits (with_task seat (Task.Undoing attempt (reason_to_undo (task_at s.parts.tasks seat)))
    (with_memory (undone_last seat s.parts.memory) s.parts))
limits-stay (Event.Home seat attempt) s = undo-limits (with_task seat Task.Idle (record s.parts {
  memory = undone_last seat s.parts.memory;
  pool = brought_home (reason_to_undo (task_at s.parts.tasks seat)) attempt.tried.number s.parts.pool;
  tried = with_try attempt s.parts.tried;
}))
limits-stay (Event.Cut seat attempt steps place) s = refl
limits-stay (Event.Tall seat attempt steps place) s = refl
limits-stay (Event.Halt why) s = refl

-- The entries of a run

undo-tells : (parts : Parts) → (undo_turn parts).entries ≡ parts.entries
undo-tells parts = by parts.stopped
  where
    by : (b : Bool) → (if b then parts else one_turn parts).entries ≡ parts.entries
    by true = refl
    by false = refl

event-tells : (e : Event) (s : EngineState) → (after e s).parts.entries ≡ s.parts.entries ++ entries_told e
event-tells (Event.Begin seat number) s = sym (append-nil s.parts.entries)
event-tells (Event.Read seat l) s = sym (append-nil s.parts.entries)
event-tells (Event.Write seat l v) s = sym (append-nil s.parts.entries)
event-tells (Event.Alloc seat sort ty v) s = sym (append-nil s.parts.entries)
event-tells (Event.Check seat attempt steps) s = sym (append-nil s.parts.entries)
event-tells (Event.TurnBack seat attempt why) s = sym (append-nil s.parts.entries)
event-tells (Event.End seat attempt steps place woken) s = refl
event-tells (Event.Leave seat attempt steps place woken) s = refl
event-tells (Event.Note seat attempt steps place) s = refl
event-tells (Event.Visit seat attempt steps place inside memory) s = refl
event-tells (Event.Refuse seat attempt device) s = sym (append-nil s.parts.entries)
event-tells (Event.Undo seat attempt) s = undo-tells (with_task seat (Task.Undoing attempt (reason_to_undo (task_at s.parts.tasks seat)))
    (with_memory (undone_last seat s.parts.memory) s.parts)) ∙ sym (append-nil s.parts.entries)
event-tells (Event.Home seat attempt) s = undo-tells (with_task seat Task.Idle (record s.parts {
  memory = undone_last seat s.parts.memory;
  pool = brought_home (reason_to_undo (task_at s.parts.tasks seat)) attempt.tried.number s.parts.pool;
  tried = with_try attempt s.parts.tried;
})) ∙ sym (append-nil s.parts.entries)
event-tells (Event.Cut seat attempt steps place) s = refl
event-tells (Event.Tall seat attempt steps place) s = refl
event-tells (Event.Halt why) s = sym (append-nil s.parts.entries)

pub run-tells : (es : List Event) (s end : EngineState) → Follows s es end → end.parts.entries ≡ s.parts.entries ++ entries_along es
run-tells [] s end run = ap (λ (x : EngineState). x.parts.entries) run ∙ sym (append-nil s.parts.entries)
run-tells (e ∷ es) s end run =
    run-tells es (after e s) end run.1 ∙ ap (λ (xs : List Entry). xs ++ entries_along es) (event-tells e s)
    ∙ append_assoc s.parts.entries (entries_told e) (entries_along es)

-- The turns of a run

-- a kept stop stays kept
stop-stays : (e : Event) (s : EngineState) → (after e s).stop ≡ None → s.stop ≡ None
stop-stays (Event.Begin seat number) s none = none
stop-stays (Event.Read seat l) s none = none
stop-stays (Event.Write seat l v) s none = none
stop-stays (Event.Alloc seat sort ty v) s none = none
stop-stays (Event.Check seat attempt steps) s none = none
stop-stays (Event.TurnBack seat attempt why) s none = none
stop-stays (Event.End seat attempt steps place woken) s none = none
stop-stays (Event.Leave seat attempt steps place woken) s none = none
stop-stays (Event.Note seat attempt steps place) s none = none
stop-stays (Event.Visit seat attempt steps place inside memory) s none = none
stop-stays (Event.Refuse seat attempt device) s none = absurd (cc)
stop-stays (Event.Undo seat attempt) s none = none
stop-stays (Event.Home seat attempt) s none = none
stop-stays (Event.Cut seat attempt steps place) s none = absurd (cc)
stop-stays (Event.Tall seat attempt steps place) s none = absurd (cc)
stop-stays (Event.Halt why) s none = absurd (cc)

undo-turns : (parts : Parts) → parts.stopped ≡ false → (undo_turn parts).turns ≡ parts.turns + 1
undo-turns parts going = ap (λ (b : Bool). (if b then parts else one_turn parts).turns) going

event-turns : (e : Event) (s : EngineState) → Sound s → (after e s).stop ≡ None → (after e s).parts.turns ≡ s.parts.turns + 1
event-turns (Event.Begin seat number) s h none = refl
event-turns (Event.Read seat l) s h none = refl
event-turns (Event.Write seat l v) s h none = refl
event-turns (Event.Alloc seat sort ty v) s h none = refl
event-turns (Event.Check seat attempt steps) s h none = refl
event-turns (Event.TurnBack seat attempt why) s h none = refl
event-turns (Event.End seat attempt steps place woken) s h none = refl
event-turns (Event.Leave seat attempt steps place woken) s h none = refl
event-turns (Event.Note seat attempt steps place) s h none = refl
event-turns (Event.Visit seat attempt steps place inside memory) s h none = refl
event-turns (Event.Refuse seat attempt device) s h none = absurd (cc)
event-turns (Event.Undo seat attempt) s h none = undo-turns (with_task seat (Task.Undoing attempt (reason_to_undo (task_at s.parts.tasks seat)))
    (with_memory (undone_last seat s.parts.memory) s.parts)) (not-stopped s h none)
event-turns (Event.Home seat attempt) s h none = undo-turns (with_task seat Task.Idle (record s.parts {
  memory = undone_last seat s.parts.memory;
  pool = brought_home (reason_to_undo (task_at s.parts.tasks seat)) attempt.tried.number s.parts.pool;
  tried = with_try attempt s.parts.tried;
})) (not-stopped s h none)
event-turns (Event.Cut seat attempt steps place) s h none = absurd (cc)
event-turns (Event.Tall seat attempt steps place) s h none = absurd (cc)
event-turns (Event.Halt why) s h none = absurd (cc)

run-going : (es : List Event) (s end : EngineState) → Follows s es end → end.stop ≡ None → s.stop ≡ None
run-going [] s end run none = ap (λ (x : EngineState). x.stop) (sym run) ∙ none
run-going (e ∷ es) s end run none = stop-stays e s (run-going es (after e s) end run.1 none)

-- while no stop is kept each event is a turn
pub run-counts : (es : List Event) (s end : EngineState) → Follows s es end → Sound s → end.stop ≡ None → end.parts.turns ≡ s.parts.turns + length es
run-counts [] s end run h none = let same = ap (λ (x : EngineState). x.parts.turns) run in omega (arith, same)
run-counts (e ∷ es) s end run h none =
    let rest = run-counts es (after e s) end run.1 (sound-after e s run.0 h) none in
    let one = event-turns e s h (run-going es (after e s) end run.1 none) in
    let more : length (e ∷ es) ≡ length es + 1 = omega arith in omega (arith, rest, one, more)

-- no event is more than one
undo-few : (parts : Parts) → (undo_turn parts).turns ≤ parts.turns + 1
undo-few parts = by parts.stopped
  where
    by : (b : Bool) → (if b then parts else one_turn parts).turns ≤ parts.turns + 1
    by true = omega arith
    by false = omega arith

event-few : (e : Event) (s : EngineState) → (after e s).parts.turns ≤ s.parts.turns + 1
event-few (Event.Begin seat number) s = omega arith
event-few (Event.Read seat l) s = omega arith
event-few (Event.Write seat l v) s = omega arith
event-few (Event.Alloc seat sort ty v) s = omega arith
event-few (Event.Check seat attempt steps) s = omega arith
event-few (Event.TurnBack seat attempt why) s = omega arith
event-few (Event.End seat attempt steps place woken) s = omega arith
event-few (Event.Leave seat attempt steps place woken) s = omega arith
event-few (Event.Note seat attempt steps place) s = omega arith
event-few (Event.Visit seat attempt steps place inside memory) s = omega arith
event-few (Event.Refuse seat attempt device) s = omega arith
event-few (Event.Undo seat attempt) s = undo-few (with_task seat (Task.Undoing attempt (reason_to_undo (task_at s.parts.tasks seat)))
    (with_memory (undone_last seat s.parts.memory) s.parts))
event-few (Event.Home seat attempt) s = undo-few (with_task seat Task.Idle (record s.parts {
  memory = undone_last seat s.parts.memory;
  pool = brought_home (reason_to_undo (task_at s.parts.tasks seat)) attempt.tried.number s.parts.pool;
  tried = with_try attempt s.parts.tried;
}))
event-few (Event.Cut seat attempt steps place) s = omega arith
event-few (Event.Tall seat attempt steps place) s = omega arith
event-few (Event.Halt why) s = omega arith

pub run-few : (es : List Event) (s end : EngineState) → Follows s es end → end.parts.turns ≤ s.parts.turns + length es
run-few [] s end run = let same = ap (λ (x : EngineState). x.parts.turns) run in omega (arith, same)
run-few (e ∷ es) s end run =
    let rest = run-few es (after e s) end run.1 in
    let one = event-few e s in
    let more : length (e ∷ es) ≡ length es + 1 = omega arith in omega (arith, rest, one, more)
