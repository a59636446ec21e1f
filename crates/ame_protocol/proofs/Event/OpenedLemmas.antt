-- A state that is opened from a base is sound.
use Rattle.std.proofs.Common.{All, IsSomeAnd, IsTrue, List, None, Option, Some, [], ◌∷◌, ◌++◌, append-nil, arith, false, refl, subst, suc, sym, ap, true, zero, ℕ, ◌∙◌, ◌≡◌, ◌≤◌}
use Rattle.std.specs.Prelude.{slice_get}
use Rattle.std.proofs.lemmas.List.Elements.{All-head, All-tail, All-weaker}
use Rattle.ame_term.specs.Tree.{Tree, Val}
use Rattle.ame_term.specs.Signature.{Signature}
use Rattle.ame_laws.specs.Typed.StoreTyping.{StoreTyping}
use Rattle.ame_laws.specs.Typed.TypedState.{IsTyped}
use Rattle.ame_journal.specs.Replay.{replay}
use Rattle.ame_journal.specs.Replayed.{Replayed}
use Rattle.ame_journal.specs.Totals.{is_note}
use Rattle.ame_journal.specs.declared.entry.Entry.{Entry}
use Rattle.ame_journal.specs.declared.entry.EntryKind.{EntryKind}
use Rattle.ame_store.specs.declared.cell.Cell.{Cell}
use Rattle.ame_pool.proofs.MemberLemmas.{find_passes}
use Rattle.ame_pool.specs.Calls.{IsAt}
use Rattle.ame_pool.specs.Members.{find, is_busy}
use Rattle.ame_pool.specs.Roster.{Roster}
use Rattle.ame_pool.specs.Standings.{max_rollbacks}
use Rattle.ame_pool.specs.declared.member.Member.{Member}
use Rattle.ame_pool.specs.declared.member.MemberStanding.{MemberStanding}
use Rattle.ame_protocol.specs.declared.types.Limits.{Limits}
use Rattle.ame_protocol.specs.Engine.Parts.{Parts}
use Rattle.ame_protocol.specs.Visits.Opened.{opened, AreOpened, AreAllReady, HasMembersOf}
use Rattle.ame_protocol.specs.Waits.Waiting.{AreWaiting, watch_list}
use Rattle.ame_protocol.specs.Waits.Once.{AreNotedOnce, HasEntryAt}
use Rattle.ame_protocol.specs.Event.Counting.{nothing_counted}
use Rattle.ame_protocol.specs.Event.Rollbacks.{IsGoodPool}
use Rattle.ame_protocol.specs.Event.Sound.{Sound}
use Rattle.ame_protocol.specs.Event.EngineState.{opened_state}
use Rattle.ame_protocol.proofs.Bounds.PaidEvents.{row-clear}
use Rattle.ame_protocol.proofs.Engine.StartLemmas.{task-idle}
use Rattle.ame_protocol.proofs.Visits.OpenLemmas.{opened-stands, opened-alone}
use Rattle.ame_protocol.proofs.Event.BoundLemmas.{idle-bounded}
use Rattle.ame_protocol.proofs.Event.CauseLemmas.{started-cause}
use Rattle.ame_protocol.proofs.Event.CountLemmas.{none-counted}
use Rattle.ame_protocol.proofs.Event.LoneLemmas.{lone-idle}
use Rattle.ame_protocol.proofs.Event.SeatedLemmas.{seated-none}

-- a pool whose members are ready is good
pub ready-good : {M : Type 0} (pool : Roster M) → AreAllReady pool → IsGoodPool pool
ready-good {M} pool r = record {
  rising = r.rising;
  few = All-weaker (λ (m : Member M). (m.standing ≡ MemberStanding.Ready) × (m.rollbacks ≡ 0)) (λ (m : Member M). m.rollbacks ≤ max_rollbacks)
      (λ m h. let none : m.rollbacks ≡ 0 = h.1 in omega arith) pool.members r.ready;
}

-- No member waits.
opened-waiting : (parts : Parts) → AreAllReady parts.pool → AreWaiting parts
opened-waiting parts r = record { failed = λ i ws e. absurd (by i ws (find i parts.pool.members) refl e) }
  where
    by : (i : ℕ) (ws : List ℕ) (o : Option (Member Tree)) → find i parts.pool.members ≡ o → elim o [ None ↦ None | Some m ↦ watch_list m.standing ] ≡ Some ws → ⊥
    by i ws None is e = let clash : ◌≡◌ {A = Option (List ℕ)} None (Some ws) = e in cc
    by i ws (Some m) is e =
        let ready = find_passes (λ (z : Member Tree). (z.standing ≡ MemberStanding.Ready) × (z.rollbacks ≡ 0)) i parts.pool.members r.ready m is in
        let clash : ◌≡◌ {A = Option (List ℕ)} None (Some ws) = sym (ap watch_list ready.0) ∙ e in cc

-- No member is busy.
opened-still : (pool : Roster Tree) → AreAllReady pool → (i : ℕ) → IsAt is_busy i pool → ⊥
opened-still pool r i busy = by (find i pool.members) refl busy
  where
    by : (o : Option (Member Tree)) → find i pool.members ≡ o → IsSomeAnd o (λ m. IsTrue (is_busy m)) → ⊥
    by None is e = e
    by (Some m) is e =
        let ready = find_passes (λ (z : Member Tree). (z.standing ≡ MemberStanding.Ready) × (z.rollbacks ≡ 0)) i pool.members r.ready m is in
        let clash : false ≡ true = sym (ap (λ (z : MemberStanding). is_busy (record m { standing = z })) ready.0) ∙ e in cc

-- a base without notes

at-all : (P : Entry → Type 0) (xs : List Entry) (k : ℕ) (x : Entry) → All P xs → slice_get xs k ≡ Some x → P x
at-all P [] k x all e = let clash : ◌≡◌ {A = Option Entry} None (Some x) = e in absurd (cc)
at-all P (y ∷ ys) zero x all e = let same : y ≡ x = cc in subst P same (All-head P y ys all)
at-all P (y ∷ ys) (suc k) x all e = at-all P ys k x (All-tail P y ys all) e

module _ (parts : Parts) (fresh : parts.entries ≡ []) (base : All (λ (e : Entry). is_note e.kind ≡ false) parts.base) where
  none-stuck : (place : ℕ) (note : Entry) → HasEntryAt (parts.base ++ parts.entries) EntryKind.Stuck place note → ⊥
  none-stuck place note h =
      let journal : parts.base ++ parts.entries ≡ parts.base = ap (λ (es : List Entry). parts.base ++ es) fresh ∙ append-nil parts.base in
      let ordinary = at-all (λ (e : Entry). is_note e.kind ≡ false) parts.base place note base (ap (λ (es : List Entry). slice_get es place) (sym journal) ∙ h.there) in
      let clash : true ≡ false = sym (ap is_note h.its) ∙ ordinary in cc

  opened-once : AreNotedOnce parts
  opened-once = record {
    recent = λ place note h. absurd (none-stuck place note h);
    once = λ first later note next below h k same. absurd (none-stuck first note h);
  }

pub sound-opened : (program : Tree) (signature : Signature) (limits : Limits) (base : List Entry) (cells : List (Cell Val)) (pool : Roster Tree) (r : Replayed) (types : StoreTyping)
    → replay program base ≡ Some r → IsTyped signature types r.state → AreOpened signature types cells r.state → HasMembersOf r pool → AreAllReady pool
    → All (λ (e : Entry). is_note e.kind ≡ false) base → 1 ≤ limits.slice
    → Sound (opened_state program signature limits base cells pool r.state.output r.state.next)
sound-opened program signature limits base cells pool r types replayed typed o m ready ordinary slice =
    let parts = opened program signature limits base cells pool r.state.output r.state.next in
    record {
      stopped = refl;
      stands = opened-stands program signature limits base cells pool r types replayed typed o m;
      pool = ready-good pool ready;
      alone = opened-alone program signature limits base cells pool r.state.output r.state.next;
      lone = lone-idle parts nothing_counted (task-idle limits.seats) (record { conflicts = refl; invalids = refl });
      bounds = idle-bounded parts nothing_counted refl refl slice refl (task-idle limits.seats) (row-clear limits.seats);
      waiting = opened-waiting parts ready;
      once = opened-once parts refl ordinary;
      caused = started-cause parts refl;
      counters = none-counted;
      seated = seated-none parts (opened-still pool ready);
    }
