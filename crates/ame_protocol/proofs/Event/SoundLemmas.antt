-- A state that has just started is sound, and stays so after each event.
use Rattle.std.proofs.Common.{IsSomeAnd, IsTrue, None, Some, [], arith, false, refl, true, ℕ, ◌<◌, ◌≡◌, ◌≤◌, All, Option, sym, subst, option_and_then}
use Rattle.std.proofs.lemmas.List.Elements.{All-cons, All-nil}
use Rattle.ame_term.specs.Tree.{Tree}
use Rattle.ame_machine.specs.Sound.{IsAccepted}
use Rattle.ame_term.specs.Signature.{Signature}
use Rattle.ame_pool.specs.Calls.{newcomer, IsAt}
use Rattle.ame_pool.specs.Members.{is_busy, find, is_ready}
use Rattle.ame_pool.specs.Standings.{max_rollbacks}
use Rattle.ame_pool.specs.declared.member.Member.{Member}
use Rattle.ame_protocol.specs.Engine.Events.{started}
use Rattle.ame_protocol.specs.declared.types.Limits.{Limits}
use Rattle.ame_protocol.proofs.Bounds.PaidEvents.{row-clear}
use Rattle.ame_protocol.proofs.Engine.StartLemmas.{started_stands, task-idle}
use Rattle.ame_protocol.proofs.Waits.OnceEvents.{start-once}
use Rattle.ame_protocol.specs.Event.Counting.{nothing_counted, CountsTurns}
use Rattle.ame_protocol.proofs.Event.BoundLemmas.{idle-bounded}
use Rattle.ame_protocol.proofs.Event.CauseLemmas.{started-cause}
use Rattle.ame_protocol.proofs.Event.CountLemmas.{none-counted}
use Rattle.ame_protocol.proofs.Event.LoneLemmas.{lone-idle}
use Rattle.ame_protocol.specs.Event.After.{after}
use Rattle.ame_protocol.specs.Event.Event.{Event}
use Rattle.ame_protocol.specs.Event.May.{May}
use Rattle.ame_protocol.specs.Event.Sound.{Sound}
use Rattle.ame_protocol.specs.Event.EngineState.{EngineState, started_state}
use Rattle.ame_protocol.proofs.Event.ActLemmas.{sound-allocated, sound-begun, sound-read, sound-written}
use Rattle.ame_protocol.proofs.Event.RowLemmas.{sound-checked, sound-ended, sound-left, sound-noted, sound-turned}
use Rattle.ame_protocol.proofs.Event.StopLemmas.{sound-cut, sound-halted, sound-tall}
use Rattle.ame_protocol.proofs.Event.UndoLemmas.{sound-gone, sound-undone}
use Rattle.ame_protocol.proofs.Event.VisitLemmas.{sound-refused, sound-visited}
use Rattle.ame_pool.specs.declared.member.MemberStanding.{MemberStanding}
use Rattle.ame_pool.proofs.MemberLemmas.{find_passes}
use Rattle.ame_rows.specs.MemoryView.{row_at, no_log}
use Rattle.ame_protocol.specs.Engine.Parts.{Parts, task_at}
use Rattle.ame_protocol.specs.declared.types.Task.{Task}
use Rattle.ame_protocol.specs.Engine.Simulates.{Simulates}
use Rattle.ame_protocol.specs.Waits.Once.{AreNotedOnce}
use Rattle.ame_protocol.specs.Waits.Waiting.{watch_list, watched_by}
use Rattle.ame_protocol.specs.Event.Rollbacks.{IsGoodPool}
use Rattle.ame_protocol.proofs.Event.SeatedLemmas.{seated-none}
use Rattle.ame_protocol.proofs.Engine.AloneEvents.{rest-alone}
use Rattle.ame_protocol.proofs.Waits.TaskLemmas.{nobody-waiting}

-- If each seat is idle and each member ready, nothing was counted yet, and no entry was added

module _ (parts : Parts) (stands : Simulates parts) (pool : IsGoodPool parts.pool) (once : AreNotedOnce parts) (slice : 1 ≤ parts.limits.slice)
    (idle : (seat : ℕ) → task_at parts.tasks seat ≡ Task.Idle) (clear : (seat : ℕ) → row_at parts.memory.rows seat ≡ no_log)
    (ready : All (λ m. IsTrue (is_ready m)) parts.pool.members) (unused : parts.turns ≡ 0) (untried : parts.tried ≡ []) (untold : parts.entries ≡ [])
    (going : parts.stopped ≡ false) where
  ready-found : (i : ℕ) (m : Member Tree) → find i parts.pool.members ≡ Some m → IsTrue (is_ready m)
  ready-found i m e = find_passes (λ (x : Member Tree). IsTrue (is_ready x)) i parts.pool.members ready m e

  none-busy : (i : ℕ) → IsAt is_busy i parts.pool → ⊥
  none-busy i h = by (find i parts.pool.members) refl h
    where
      calm : (m : Member Tree) (x : MemberStanding) → IsTrue (is_ready (record m { standing = x })) → IsTrue (is_busy (record m { standing = x })) → ⊥
      calm m MemberStanding.Ready r b = let clash : false ≡ true = b in cc
      calm m (MemberStanding.Busy w) r b = let clash : false ≡ true = r in cc
      calm m (MemberStanding.Parked locs) r b = let clash : false ≡ true = r in cc

      by : (o : Option (Member Tree)) → find i parts.pool.members ≡ o → IsSomeAnd o (λ m. IsTrue (is_busy m)) → ⊥
      by None e b = b
      by (Some m) e b = calm m m.standing (ready-found i m e) b

  none-waits : (i : ℕ) → watched_by i parts.pool ≡ None
  none-waits i = by (find i parts.pool.members) refl
    where
      calm : (m : Member Tree) (x : MemberStanding) → IsTrue (is_ready (record m { standing = x })) → watch_list x ≡ None
      calm m MemberStanding.Ready r = refl
      calm m (MemberStanding.Busy w) r = absurd (let clash : false ≡ true = r in cc)
      calm m (MemberStanding.Parked locs) r = absurd (let clash : false ≡ true = r in cc)

      by : (o : Option (Member Tree)) → find i parts.pool.members ≡ o → option_and_then (λ (m : Member Tree). watch_list m.standing) o ≡ None
      by None e = refl
      by (Some m) e = calm m m.standing (ready-found i m e)

  pub sound-idle : Sound (record { parts = parts; counters = nothing_counted; stop = None; certificates = [] })
  sound-idle = record {
    stopped = going;
    stands = stands;
    pool = pool;
    alone = rest-alone parts idle;
    lone = lone-idle parts nothing_counted idle (record { conflicts = refl; invalids = refl });
    bounds = idle-bounded parts nothing_counted refl untried slice unused idle clear;
    waiting = nobody-waiting parts none-waits;
    once = once;
    caused = started-cause parts untold;
    counters = subst (λ (n : ℕ). CountsTurns n nothing_counted) (sym unused) none-counted;
    seated = seated-none parts none-busy;
  }

pub sound-start : (program : Tree) (signature : Signature) (limits : Limits) → IsAccepted signature program
    → 1 ≤ limits.slice → Sound (started_state program signature limits)
sound-start program signature limits accepted slice =
    sound-idle (started program signature limits 0) (started_stands program signature limits 0 accepted)
    (record {
      rising = (All-nil (λ (m : Member Tree). 0 < m.number), tt);
      few = All-cons (λ (m : Member Tree). m.rollbacks ≤ max_rollbacks) (newcomer 0 program false) [] (omega arith)
          (All-nil (λ (m : Member Tree). m.rollbacks ≤ max_rollbacks));
    }) (start-once program signature limits 0) slice (task-idle limits.seats) (row-clear limits.seats)
    (All-cons (λ (m : Member Tree). IsTrue (is_ready m)) (newcomer 0 program false) [] refl (All-nil (λ (m : Member Tree). IsTrue (is_ready m)))) refl refl refl refl

pub sound-after : (e : Event) (s : EngineState) → May e s → Sound s → Sound (after e s)
sound-after (Event.Begin seat number) s m h = sound-begun s h m.0 seat number m.1
sound-after (Event.Read seat l) s m h = sound-read s h m.0 seat l m.1 m.2
sound-after (Event.Write seat l v) s m h = sound-written s h m.0 seat l v m.1 m.2
sound-after (Event.Alloc seat sort ty v) s m h = sound-allocated s h m.0 seat sort ty v m.1
sound-after (Event.Check seat attempt steps) s m h = sound-checked s h m.0 seat attempt m.1.1.task steps m.1.0 m.1.1 m.2 m.3
sound-after (Event.TurnBack seat attempt why) s m h = sound-turned s h m.0 seat attempt m.1 why m.2
sound-after (Event.End seat attempt steps place woken) s m h = sound-ended s h m.0 seat attempt m.1.task steps place m.1 m.2 woken m.4 m.3
sound-after (Event.Leave seat attempt steps place woken) s m h = sound-left s h m.0 seat attempt m.1.task steps place m.1 m.2 woken m.4 m.3
sound-after (Event.Note seat attempt steps place) s m h = sound-noted s h m.0 seat attempt m.1.task steps place m.1 m.2 m.3
sound-after (Event.Visit seat attempt steps place inside memory) s m h = sound-visited s h m.0 seat attempt m.1.task steps place inside memory m.1
sound-after (Event.Refuse seat attempt device) s m h = sound-refused s h m.0 seat attempt m.1 device m.2
sound-after (Event.Undo seat attempt) s m h = sound-undone s h seat attempt m.0 m.1
sound-after (Event.Home seat attempt) s m h = sound-gone s h seat attempt m.0 m.1
sound-after (Event.Cut seat attempt steps place) s m h = sound-cut s h m.0 seat attempt m.2.0 steps place m.2.1 m.1
sound-after (Event.Tall seat attempt steps place) s m h = sound-tall s h m.0.going seat attempt m.1.0 steps place m.1.1 m.0.left m.1.2
sound-after (Event.Halt why) s m h = sound-halted s h why m
