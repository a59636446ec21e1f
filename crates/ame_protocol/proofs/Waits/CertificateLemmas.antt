-- Waiting members have certificates in the state for which the engine stands.
use Rattle.std.proofs.Common.{◌≡◌, ℕ, zero, suc, ◌==◌, ◌&&◌, ◌⊎◌, inl, inr, Bool, true, false, cond, List, [], ◌∷◌, All, Contains, Option, Some, None, refl, sym, ap, ◌∙◌, subst}
use Rattle.std.specs.List.{list_all}
use Rattle.std.proofs.lemmas.List.Elements.{All-contains}
use Rattle.ame_term.specs.Tree.{Tree}
use Rattle.ame_term.specs.Frame.{Side, side_told}
use Rattle.ame_term.specs.Context.{focus}
use Rattle.ame_term.specs.Maps.{at}
use Rattle.ame_term.specs.State.{State, at_unprotected}
use Rattle.ame_term.specs.declared.types.Sort.{Sort}
use Rattle.ame_journal.specs.declared.entry.Entry.{Entry}
use Rattle.ame_journal.specs.declared.entry.EntryKind.{EntryKind}
use Rattle.ame_journal.specs.Replayed.{has_such, is_failing, side_at, is_false_condition}
use Rattle.ame_journal.specs.Replay.{fails_after}
use Rattle.ame_journal.specs.UnderWay.{UnderWay}
use Rattle.ame_journal.proofs.UnderWayLemmas.{UnderWay-runs}
use Rattle.ame_journal.proofs.UnfoldLemmas.{fragment-back}
use Rattle.ame_journal.proofs.ReachedLemmas.{IsCalm, calm-replayed}
use Rattle.ame_pool.specs.declared.member.Member.{Member}
use Rattle.ame_pool.specs.declared.member.MemberStanding.{MemberStanding}
use Rattle.ame_pool.specs.declared.oldest.Oldest.{Oldest}
use Rattle.ame_pool.specs.Members.{find, is_parked, IsRising}
use Rattle.ame_pool.specs.Begin.{oldest, oldest_or_wait, first_to_begin, members_of}
use Rattle.ame_pool.specs.Roster.{Roster}
use Rattle.ame_pool.proofs.MemberLemmas.{find_number, all_found}
use Rattle.ame_machine.specs.Run.Told.{TellsRun}
use Rattle.ame_machine.proofs.Run.ReplayLemmas.{IsActiveRun, active_run}
use Rattle.ame_protocol.specs.Row.Heap.{cell_at, IsCell}
use Rattle.ame_protocol.specs.Row.Waiting.{IsWaiting}
use Rattle.ame_protocol.proofs.Row.WaitingLemmas.{waiting-told}
use Rattle.ame_protocol.proofs.Row.CellLemmas.{which}
use Rattle.ame_protocol.specs.declared.types.Task.{Task}
use Rattle.ame_protocol.specs.Engine.Parts.{Parts, whole_journal, heap_in, task_at, member_of}
use Rattle.ame_protocol.specs.Engine.Simulates.{Simulates}
use Rattle.ame_protocol.proofs.Engine.MemoryLemmas.{memory-committed}
use Rattle.ame_protocol.specs.Waits.Waiting.{watch_list, watched_by, MayHave, HasFailed, AreWaiting}
use Rattle.ame_protocol.specs.Waits.Certificates.{IsCertificate, HasCertificate}
use Rattle.ame_protocol.proofs.Waits.WatchLemmas.{watched-of}
use Rattle.ame_protocol.proofs.Waits.NotedLemmas.{failing-calm, began-calm}

-- a fragment under way that stands at a false condition
certified : (s : State) (i n : ℕ) (fresh : List ℕ) (t : State) → UnderWay s i n fresh t → is_failing i t ≡ true → IsCertificate s i n fresh
certified s i n fresh t way fails = record {
  kinds = way.kinds;
  are = way.are;
  reached = t;
  made = UnderWay-runs s i n fresh t way;
  active = way.active;
  fails = fails;
}

-- a certificate is what replay computes
pub certificate-computed : (s : State) (i n : ℕ) (fresh : List ℕ) → IsCertificate s i n fresh → fails_after s i n fresh ≡ true
certificate-computed s i n fresh c = ap (has_such (is_failing i)) (fragment-back i c.kinds n fresh s c.reached c.are c.made).0 ∙ c.fails

module _ (parts : Parts) (s : Simulates parts) (i : ℕ) (watched : List ℕ) (h : HasFailed parts i watched) (seat : ℕ) (may : MayHave parts.tasks seat i) where
  is-calm : IsCalm s.r
  is-calm = calm-replayed parts.program (whole_journal parts) s.r s.stands.replayed

  waits : IsWaiting (heap_in parts) seat watched h.run h.note.steps h.place
  waits = h.waits seat may

  term-there : at s.r.state.members i ≡ Some h.run.start
  term-there = s.stands.members i ∙ h.start

  start-calm : at_unprotected (focus h.run.start) ≡ false
  start-calm = began-calm h.run.start h.run.inputs h.note.steps h.place waits.place.ran (failing-calm (focus h.place.term) waits.fails)

  on_side : side_at i s.r.state ≡ Side.Protected
  on_side = ap (λ (o : Option Tree). side_told (has_such (λ term. at_unprotected (focus term)) o)) term-there ∙ ap side_told start-calm

  abbrev entry : Entry
  entry = record { kind = EntryKind.Stuck; seat = 0; number = i; steps = h.note.steps; fresh = h.place.fresh; answer = h.place.answer }

  tells : TellsRun s.r entry Side.Protected h.note.steps h.place
  tells =
      waiting-told (heap_in parts) seat watched h.run s.r entry h.note.steps h.place
      (memory-committed parts.memory) s.stands.store waits is-calm.idle on_side term-there refl refl

  active : IsActiveRun s.r.state i h.note.steps h.place
  active = active_run s.r.state i h.run.start h.run.inputs term-there is-calm.idle start-calm h.note.steps h.place waits.place.ran tells.agrees

  pub has-certificate : HasCertificate (whole_journal parts) s.r.state i
  has-certificate =
      let fails : is_failing i active.behind ≡ true = ap (has_such (λ term. is_false_condition (focus term))) active.member ∙ waits.fails in
      record {
        note = h.note;
        last = h.last;
        holds =
            subst (IsCertificate s.r.state i h.note.steps) (sym h.fresh)
            (certified s.r.state i h.note.steps h.place.fresh active.behind active.way fails);
      }

-- Some seat has the member, or none does

is-member : (o : Option ℕ) (i : ℕ) → (o ≡ Some i) ⊎ ((o ≡ Some i) → ⊥)
is-member None i = inr (λ e. let clash : ◌≡◌ {A = Option ℕ} None (Some i) = e in cc)
is-member (Some j) i = by (which j i)
  where
    by : (j ≡ i) ⊎ ((j ≡ i) → ⊥) → (Some j ≡ Some i) ⊎ ((Some j ≡ Some i) → ⊥)
    by (inl same) = inl (ap Some same)
    by (inr apart) = inr (λ e. apart (let both : ◌≡◌ {A = Option ℕ} (Some j) (Some i) = e in cc))

had-or-not : (tasks : List Task) (i : ℕ) → ((k : ℕ) × (member_of (task_at tasks k) ≡ Some i)) ⊎ ((k : ℕ) → member_of (task_at tasks k) ≡ Some i → ⊥)
had-or-not [] i = inr (λ k e. let clash : ◌≡◌ {A = Option ℕ} None (Some i) = e in cc)
had-or-not (t ∷ tasks) i = by (is-member (member_of t) i) (had-or-not tasks i)
  where
    none : ((member_of t ≡ Some i) → ⊥) → ((k : ℕ) → member_of (task_at tasks k) ≡ Some i → ⊥) → (k : ℕ) → member_of (task_at (t ∷ tasks) k) ≡ Some i → ⊥
    none first rest zero e = first e
    none first rest (suc k) e = rest k e

    by : (member_of t ≡ Some i) ⊎ ((member_of t ≡ Some i) → ⊥)
        → ((k : ℕ) × (member_of (task_at tasks k) ≡ Some i)) ⊎ ((k : ℕ) → member_of (task_at tasks k) ≡ Some i → ⊥)
        → ((k : ℕ) × (member_of (task_at (t ∷ tasks) k) ≡ Some i)) ⊎ ((k : ℕ) → member_of (task_at (t ∷ tasks) k) ≡ Some i → ⊥)
    by (inl here) rest = inl (0, here)
    by (inr first) (inl x) = inl (suc x.0, x.1)
    by (inr first) (inr rest) = inr (none first rest)

seat-for : (parts : Parts) → Simulates parts → (i : ℕ) → (seat : ℕ) × MayHave parts.tasks seat i
seat-for parts s i = by (had-or-not parts.tasks i)
  where
    by : ((k : ℕ) × (member_of (task_at parts.tasks k) ≡ Some i)) ⊎ ((k : ℕ) → member_of (task_at parts.tasks k) ≡ Some i → ⊥)
        → (seat : ℕ) × MayHave parts.tasks seat i
    by (inl x) = (x.0, λ other e. s.apart other x.0 i e x.1)
    by (inr none) = (0, λ other e. absurd (none other e))

pub waiting-certificate : (parts : Parts) (s : Simulates parts) → AreWaiting parts → (i : ℕ) (watched : List ℕ) → watched_by i parts.pool ≡ Some watched
    → HasCertificate (whole_journal parts) s.r.state i
waiting-certificate parts s a i watched e =
    let seat = seat-for parts s i in has-certificate parts s i watched (a.failed i watched e) seat.0 seat.1

-- what a member watches is of protected code
pub watched-protected : (parts : Parts) → Simulates parts → AreWaiting parts → (i : ℕ) (watched : List ℕ) → watched_by i parts.pool ≡ Some watched
    → (l : ℕ) → Contains watched l → IsCell (heap_in parts) l × ((cell_at (heap_in parts) l).sort ≡ Sort.Protected)
watched-protected parts s a i watched e l there =
    let seat = seat-for parts s i in
    All-contains (λ m. IsCell (heap_in parts) m × ((cell_at (heap_in parts) m).sort ≡ Sort.Protected)) watched l
    ((a.failed i watched e).waits seat.0 seat.1).sorts there

-- All members are parked

all-found-pass : (p : Member Tree → Bool) (ms : List (Member Tree)) (i : ℕ) (x : Member Tree) → list_all p ms ≡ true → find i ms ≡ Some x → p x ≡ true
all-found-pass p [] i x all e = absurd (let clash : ◌≡◌ {A = Option (Member Tree)} None (Some x) = e in cc)
all-found-pass p (m ∷ ms) i x all e = by (m.number == i) (p m) refl all e (λ rest found. all-found-pass p ms i x rest found)
  where
    by : (b c : Bool) → p m ≡ c → (c && list_all p ms) ≡ true → cond b (Some m) (find i ms) ≡ Some x
        → (list_all p ms ≡ true → find i ms ≡ Some x → p x ≡ true) → p x ≡ true
    by true true is all e go = let same : m ≡ x = cc in ap p (sym same) ∙ is
    by true false is all e go = absurd (let clash : false ≡ true = all in cc)
    by false true is all e go = go all e
    by false false is all e go = absurd (let clash : false ≡ true = all in cc)

all-parked : (pool : Roster Tree) → oldest pool ≡ Oldest.Parked → list_all is_parked pool.members ≡ true
all-parked pool e = by pool.members e
  where
    not-told : (o : Option ℕ) → oldest_or_wait o ≡ Oldest.Parked → ⊥
    not-told None e = cc
    not-told (Some k) e = cc

    choose : (b : Bool) → list_all is_parked pool.members ≡ b
        → cond b Oldest.Parked (oldest_or_wait (first_to_begin pool.members [] (members_of pool.members pool.order))) ≡ Oldest.Parked
        → list_all is_parked pool.members ≡ true
    choose true is e = is
    choose false is e = absurd (not-told (first_to_begin pool.members [] (members_of pool.members pool.order)) e)

    by : (ms : List (Member Tree))
        → (elim ms as (λ _. Oldest) [
          | [] ↦ Oldest.Empty
          | _ ∷ _ ↦ cond (list_all is_parked pool.members) Oldest.Parked (oldest_or_wait (first_to_begin pool.members [] (members_of pool.members pool.order)))
        ]) ≡ Oldest.Parked → list_all is_parked pool.members ≡ true
    by [] e = absurd (let clash : Oldest.Empty ≡ Oldest.Parked = e in cc)
    by (m ∷ ms) e = choose (list_all is_parked pool.members) refl e

parked-waits : (x : MemberStanding) → (elim x as (λ _. Bool) [ MemberStanding.Ready ↦ false | MemberStanding.Busy _ ↦ false | MemberStanding.Parked _ ↦ true ]) ≡ true
    → (locs : List ℕ) × (watch_list x ≡ Some locs)
parked-waits MemberStanding.Ready e = absurd (let clash : false ≡ true = e in cc)
parked-waits (MemberStanding.Busy w) e = absurd (let clash : false ≡ true = e in cc)
parked-waits (MemberStanding.Parked locs) e = (locs, refl)

pub blocked-certificate : (parts : Parts) (s : Simulates parts) → AreWaiting parts → oldest parts.pool ≡ Oldest.Parked → (i : ℕ) (m : Member Tree)
    → find i parts.pool.members ≡ Some m
    → HasCertificate (whole_journal parts) s.r.state i
blocked-certificate parts s a e i m found =
    let is = all-found-pass is_parked parts.pool.members i m (all-parked parts.pool e) found in
    let x = parked-waits m.standing is in waiting-certificate parts s a i x.0 (ap watched-of found ∙ x.1)

-- in order of numbers
pub blocked-certificates : (parts : Parts) (s : Simulates parts) → AreWaiting parts → oldest parts.pool ≡ Oldest.Parked → IsRising parts.pool.members
    → All (λ m. HasCertificate (whole_journal parts) s.r.state m.number) parts.pool.members
blocked-certificates parts s a e rising =
    all_found (λ m. HasCertificate (whole_journal parts) s.r.state m.number) parts.pool.members rising
    (λ i m found.
    subst (HasCertificate (whole_journal parts) s.r.state) (sym (find_number i parts.pool.members m found)) (blocked-certificate parts s a e i m found))
