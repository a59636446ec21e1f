-- A kept stop has its cause, and goes on having it.
use Rattle.std.proofs.Common.{◌≡◌, ℕ, ◌==◌, ◌&&◌, ◌<◌, Bool, true, false, cond, List, [], ◌∷◌, ◌++◌, Option, Some, None, IsTrue, refl, sym, ap, ◌∙◌, subst, arith}
use Rattle.std.specs.Prelude.{is_some}
use Rattle.std.specs.List.{list_all}
use Rattle.std.proofs.lemmas.List.Elements.{All-nil, All-push}
use Rattle.ame_term.specs.Tree.{Tree}
use Rattle.ame_journal.specs.declared.entry.Entry.{Entry}
use Rattle.ame_journal.specs.Replay.{replay}
use Rattle.ame_pool.specs.declared.member.Member.{Member}
use Rattle.ame_pool.specs.declared.member.MemberStanding.{MemberStanding}
use Rattle.ame_pool.specs.declared.oldest.Oldest.{Oldest}
use Rattle.ame_pool.specs.Members.{find, is_parked, altered}
use Rattle.ame_pool.specs.Roster.{Roster}
use Rattle.ame_pool.specs.Calls.{IsAt, at_home, at_rest}
use Rattle.ame_pool.specs.Begin.{oldest, oldest_or_wait, first_to_begin, members_of}
use Rattle.ame_protocol.specs.declared.types.Limits.{Limits}
use Rattle.ame_protocol.specs.declared.types.Attempt.{Attempt}
use Rattle.ame_protocol.specs.declared.types.UndoReason.{UndoReason}
use Rattle.ame_protocol.specs.declared.types.Task.{Task}
use Rattle.ame_protocol.specs.Engine.Parts.{Parts, whole_journal, task_at, attempt_of}
use Rattle.ame_protocol.specs.Engine.Tasks.{is_busy_as, is_noted_for, RunsProtected, Visits, Undoes, MeetsTask}
use Rattle.ame_protocol.specs.Engine.Simulates.{Simulates}
use Rattle.ame_protocol.specs.Engine.Events.{brought_home}
use Rattle.ame_protocol.proofs.Engine.PoolLemmas.{found-at}
use Rattle.ame_journal.specs.declared.certificate.Certificate.{Certificate}
use Rattle.ame_protocol.specs.declared.stop.Stop.{Stop}
use Rattle.ame_protocol.specs.Event.Causes.{is_from_outside, is_ordinary, AreOrdinary, IsUsedUp, NotesStop, HasCause}
use Rattle.ame_protocol.specs.Event.Faults.{LeadsToCall}

-- If a member is at work the pool isn't empty, and not all members are parked

busy-unparked : (noted : Bool) (m : Member Tree) → IsTrue (is_busy_as noted m) → is_parked m ≡ false
busy-unparked noted m h = by noted m.standing h
  where
    by : (b : Bool) (x : MemberStanding) → IsTrue (is_busy_as b (record m { standing = x })) → is_parked (record m { standing = x }) ≡ false
    by b MemberStanding.Ready h = refl
    by b (MemberStanding.Busy w) h = refl
    by true (MemberStanding.Parked locs) h = absurd (let clash : false ≡ true = h in cc)
    by false (MemberStanding.Parked locs) h = absurd (let clash : false ≡ true = h in cc)

not-all : (ms : List (Member Tree)) (i : ℕ) (m : Member Tree) → find i ms ≡ Some m → is_parked m ≡ false → list_all is_parked ms ≡ false
not-all [] i m e unparked = absurd (let clash : ◌≡◌ {A = Option (Member Tree)} None (Some m) = e in cc)
not-all (o ∷ ms) i m e unparked = by (o.number == i) (is_parked o) refl e (λ found. not-all ms i m found unparked)
  where
    by : (b c : Bool) → is_parked o ≡ c → cond b (Some o) (find i ms) ≡ Some m → (find i ms ≡ Some m → list_all is_parked ms ≡ false)
        → (c && list_all is_parked ms) ≡ false
    by true true is e go = absurd (let same : o ≡ m = cc in let clash : true ≡ false = sym is ∙ ap is_parked same ∙ unparked in cc)
    by true false is e go = refl
    by false true is e go = go e
    by false false is e go = refl

not-told : (o : Option ℕ) → oldest_or_wait o ≡ Oldest.Parked → ⊥
not-told None e = cc
not-told (Some k) e = cc

-- a member that isn't parked is there
module _ (pool : Roster Tree) (i : ℕ) (m : Member Tree) (found : find i pool.members ≡ Some m) (unparked : is_parked m ≡ false) where
  not-parked : oldest pool ≡ Oldest.Parked → ⊥
  not-parked e = by pool.members e
    where
      choose : (b : Bool) → list_all is_parked pool.members ≡ b
          → cond b Oldest.Parked (oldest_or_wait (first_to_begin pool.members [] (members_of pool.members pool.order))) ≡ Oldest.Parked → ⊥
      choose true is e = let clash : true ≡ false = sym is ∙ not-all pool.members i m found unparked in cc
      choose false is e = not-told (first_to_begin pool.members [] (members_of pool.members pool.order)) e

      by : (ms : List (Member Tree))
          → (elim ms as (λ _. Oldest) [
            | [] ↦ Oldest.Empty
            | _ ∷ _ ↦ cond (list_all is_parked pool.members) Oldest.Parked (oldest_or_wait (first_to_begin pool.members [] (members_of pool.members pool.order)))
          ]) ≡ Oldest.Parked → ⊥
      by [] e = cc
      by (o ∷ ms) e = choose (list_all is_parked pool.members) refl e

not-empty : (ms : List (Member Tree)) (i : ℕ) (m : Member Tree) → find i ms ≡ Some m → ms ≡ [] → ⊥
not-empty ms i m found e = let clash : ◌≡◌ {A = Option (Member Tree)} None (Some m) = sym (ap (find i) e) ∙ found in cc

-- some member is at work, or may be
pub record HasMore (parts : Parts) : Type 0 where
  pub parked : oldest parts.pool ≡ Oldest.Parked → ⊥
  pub empty : parts.pool.members ≡ [] → ⊥

pub busy-more : (parts : Parts) (number : ℕ) (noted : Bool) → IsAt (is_busy_as noted) number parts.pool → HasMore parts
busy-more parts number noted busy =
    let m = found-at parts.pool number (is_busy_as noted) busy in record {
      parked = not-parked parts.pool number m.0 m.1 (busy-unparked noted m.0 m.2);
      empty = not-empty parts.pool.members number m.0 m.1;
    }

-- This also holds if a seat has a member at work.
pub task-more : (parts : Parts) → Simulates parts → (seat : ℕ) (attempt : Attempt) → attempt_of (task_at parts.tasks seat) ≡ Some attempt → HasMore parts
task-more parts s seat attempt has = by (task_at parts.tasks seat) has (s.seats seat)
  where
    by : (t : Task) → attempt_of t ≡ Some attempt → MeetsTask parts s.types seat t → HasMore parts
    by Task.Idle e meets = absurd (let clash : attempt_of Task.Idle ≡ Some attempt = e in cc)
    by (Task.Running a) e meets = let its : RunsProtected parts s.types seat a = meets in busy-more parts a.tried.number false its.work.busy
    by (Task.Free a) e meets = let its : Visits parts s.types seat a = meets in busy-more parts a.tried.number false its.work.busy
    by (Task.Undoing a reason) e meets = let its : Undoes parts s.types seat a reason = meets in busy-more parts a.tried.number (is_noted_for reason) its.work.busy

pub empty-oldest : (pool : Roster Tree) → pool.members ≡ [] → oldest pool ≡ Oldest.Empty
empty-oldest pool none = by pool.members none
  where
    by : (ms : List (Member Tree)) → ms ≡ []
        → (elim ms as (λ _. Oldest) [
          | [] ↦ Oldest.Empty
          | _ ∷ _ ↦ cond (list_all is_parked pool.members) Oldest.Parked (oldest_or_wait (first_to_begin pool.members [] (members_of pool.members pool.order)))
        ]) ≡ Oldest.Empty
    by [] e = refl
    by (o ∷ ms) e = absurd (let clash : ◌≡◌ {A = List (Member Tree)} (o ∷ ms) [] = e in cc)

-- This also holds if a member begins.
pub begins-more : (parts : Parts) (number : ℕ) → oldest parts.pool ≡ Oldest.Member number → HasMore parts
begins-more parts number first = record {
  parked = λ e. let clash : Oldest.Member number ≡ Oldest.Parked = sym first ∙ e in cc;
  empty = λ e. let clash : Oldest.Member number ≡ Oldest.Empty = sym first ∙ empty-oldest parts.pool e in cc;
}

-- A fact of the state to which a journal leads stays while the journal does.
pub record SameJournal (parts new : Parts) : Type 0 where
  pub program : new.program ≡ parts.program
  pub base : new.base ≡ parts.base
  pub entries : new.entries ≡ parts.entries

call-same : (parts new : Parts) → SameJournal parts new → (device : ℕ) → LeadsToCall parts device → LeadsToCall new device
call-same parts new same device leads =
    λ r there. leads r
    (sym (ap (λ (term : Tree). replay term (whole_journal new)) same.program
    ∙ ap (λ (base : List Entry). replay parts.program (base ++ new.entries)) same.base
    ∙ ap (λ (entries : List Entry). replay parts.program (parts.base ++ entries)) same.entries) ∙ there)

-- An event of a member at work that adds no entry

module _ (parts new : Parts) (more : HasMore parts) (same : SameJournal parts new) where
  spent-turns : IsUsedUp parts → parts.turns ≡ parts.limits.turns
  spent-turns cause = cause.turns

  ends-same : (stop : Option Stop) → NotesStop stop parts.entries → NotesStop stop new.entries
  ends-same stop ends = subst (NotesStop stop) (sym same.entries) ends

  -- while turns are left
  pub working-cause : parts.turns < parts.limits.turns → (stop : Option Stop) (certificates : List Certificate) → HasCause stop certificates parts
      → HasCause stop certificates new
  working-cause left None certificates h = record { cause = tt; told = h.told; ends = ends-same None h.ends }
  working-cause left (Some Stop.Finished) certificates h = absurd (more.empty h.cause)
  working-cause left (Some Stop.Blocked) certificates h = absurd (more.parked h.cause)
  working-cause left (Some Stop.Spent) certificates h = absurd (let cause : IsUsedUp parts = h.cause in let spent = cause.turns in omega (arith, left, spent))
  working-cause left (Some (Stop.Tall number)) certificates h = record { cause = tt; told = h.told; ends = ends-same (Some (Stop.Tall number)) h.ends }
  working-cause left (Some Stop.NoMemory) certificates h = record { cause = tt; told = h.told; ends = ends-same (Some Stop.NoMemory) h.ends }
  working-cause left (Some Stop.WriteFault) certificates h = record { cause = tt; told = h.told; ends = ends-same (Some Stop.WriteFault) h.ends }
  working-cause left (Some (Stop.DeviceFault device)) certificates h =
      record { cause = call-same parts new same device h.cause; told = h.told; ends = ends-same (Some (Stop.DeviceFault device)) h.ends }

  -- This also holds once a stop is kept, if turns and limits stay and a member is left.
  pub undoing-cause : new.limits ≡ parts.limits → (new.pool.members ≡ [] → ⊥) → (stop : Option Stop) → (is_some stop ≡ true → new.turns ≡ parts.turns)
      → (certificates : List Certificate) → HasCause stop certificates parts → HasCause stop certificates new
  undoing-cause limits some None turns certificates h = record { cause = tt; told = h.told; ends = ends-same None h.ends }
  undoing-cause limits some (Some Stop.Finished) turns certificates h = absurd (more.empty h.cause)
  undoing-cause limits some (Some Stop.Blocked) turns certificates h = absurd (more.parked h.cause)
  undoing-cause limits some (Some Stop.Spent) turns certificates h = record {
    cause = record { turns = turns refl ∙ spent-turns h.cause ∙ sym (ap (λ (l : Limits). l.turns) limits); left = some };
    told = h.told;
    ends = ends-same (Some Stop.Spent) h.ends;
  }
  undoing-cause limits some (Some (Stop.Tall number)) turns certificates h =
      record { cause = tt; told = h.told; ends = ends-same (Some (Stop.Tall number)) h.ends }
  undoing-cause limits some (Some Stop.NoMemory) turns certificates h = record { cause = tt; told = h.told; ends = ends-same (Some Stop.NoMemory) h.ends }
  undoing-cause limits some (Some Stop.WriteFault) turns certificates h = record { cause = tt; told = h.told; ends = ends-same (Some Stop.WriteFault) h.ends }
  undoing-cause limits some (Some (Stop.DeviceFault device)) turns certificates h =
      record { cause = call-same parts new same device h.cause; told = h.told; ends = ends-same (Some (Stop.DeviceFault device)) h.ends }

-- an altered pool has members still
altered-some : (number : ℕ) (f : Member Tree → Member Tree) (ms : List (Member Tree)) → (ms ≡ [] → ⊥) → altered number f ms ≡ [] → ⊥
altered-some number f [] some e = some refl
altered-some number f (m ∷ ms) some e = by (m.number == number) e
  where
    by : (b : Bool) → cond b (f m ∷ ms) (m ∷ altered number f ms) ≡ [] → ⊥
    by true e = let clash : ◌≡◌ {A = List (Member Tree)} (f m ∷ ms) [] = e in cc
    by false e = let clash : ◌≡◌ {A = List (Member Tree)} (m ∷ altered number f ms) [] = e in cc

pub home-some : (reason : UndoReason) (number : ℕ) (pool : Roster Tree) → (pool.members ≡ [] → ⊥) → (brought_home reason number pool).members ≡ [] → ⊥
home-some UndoReason.RolledBack number pool some = altered-some number (at_home true) pool.members some
home-some UndoReason.Noted number pool some = altered-some number at_rest pool.members some
home-some UndoReason.Stopped number pool some = altered-some number (at_home false) pool.members some

-- While no stop is kept

module _ (parts new : Parts) (stop : Option Stop) (none : stop ≡ None) (certificates : List Certificate) (h : HasCause stop certificates parts) where
  none-cause : HasCause None certificates parts
  none-cause = subst (λ (o : Option Stop). HasCause o certificates parts) none h

  pub going-ordinary : AreOrdinary parts.entries
  going-ordinary = none-cause.ends

  pub going-untold : certificates ≡ []
  going-untold = none-cause.told

  -- an entry that may stand anywhere joins
  pub going-cause : (entry : Entry) → new.entries ≡ parts.entries ++ entry ∷ [] → is_ordinary entry.kind ≡ true → HasCause stop certificates new
  going-cause entry is ordinary =
      subst (λ (o : Option Stop). HasCause o certificates new) (sym none) (record {
        cause = tt;
        told = going-untold;
        ends = subst (NotesStop None) (sym is) (All-push (λ (e : Entry). is_ordinary e.kind ≡ true) parts.entries entry going-ordinary ordinary);
      })

-- an engine that has just started
pub started-cause : (parts : Parts) → parts.entries ≡ [] → HasCause None [] parts
started-cause parts none = record { cause = tt; told = refl; ends = subst (NotesStop None) (sym none) (All-nil (λ (e : Entry). is_ordinary e.kind ≡ true)) }

-- Stops that are kept

-- those from outside have no cause in the engine
pub fault-cause : (why : Stop) → is_from_outside why ≡ true → (parts new : Parts) (certificates : List Certificate) → HasCause None certificates parts
    → new.entries ≡ parts.entries → HasCause (Some why) certificates new
fault-cause Stop.Finished e parts new certificates h same = absurd (let clash : false ≡ true = e in cc)
fault-cause Stop.Blocked e parts new certificates h same = absurd (let clash : false ≡ true = e in cc)
fault-cause Stop.Spent e parts new certificates h same = absurd (let clash : false ≡ true = e in cc)
fault-cause (Stop.Tall number) e parts new certificates h same = absurd (let clash : false ≡ true = e in cc)
fault-cause Stop.NoMemory e parts new certificates h same = record { cause = tt; told = h.told; ends = subst AreOrdinary (sym same) h.ends }
fault-cause Stop.WriteFault e parts new certificates h same = record { cause = tt; told = h.told; ends = subst AreOrdinary (sym same) h.ends }
fault-cause (Stop.DeviceFault device) e parts new certificates h same = absurd (let clash : false ≡ true = e in cc)

-- a device that failed was called
pub refused-cause : (device : ℕ) (parts new : Parts) (certificates : List Certificate) → HasCause None certificates parts → SameJournal parts new
    → LeadsToCall parts device → HasCause (Some (Stop.DeviceFault device)) certificates new
refused-cause device parts new certificates h same leads =
    record { cause = call-same parts new same device leads; told = h.told; ends = subst AreOrdinary (sym same.entries) h.ends }

-- This also holds if a seat that begins finds it.
pub empty-members : (pool : Roster Tree) → oldest pool ≡ Oldest.Empty → pool.members ≡ []
empty-members pool e = by pool.members refl e
  where
    not-empty-told : (o : Option ℕ) → oldest_or_wait o ≡ Oldest.Empty → ⊥
    not-empty-told None e = cc
    not-empty-told (Some k) e = cc

    choose : (b : Bool) → cond b Oldest.Parked (oldest_or_wait (first_to_begin pool.members [] (members_of pool.members pool.order))) ≡ Oldest.Empty → ⊥
    choose true e = let clash : Oldest.Parked ≡ Oldest.Empty = e in cc
    choose false e = not-empty-told (first_to_begin pool.members [] (members_of pool.members pool.order)) e

    by : (ms : List (Member Tree)) → pool.members ≡ ms
        → (elim ms as (λ _. Oldest) [
          | [] ↦ Oldest.Empty
          | _ ∷ _ ↦ cond (list_all is_parked pool.members) Oldest.Parked (oldest_or_wait (first_to_begin pool.members [] (members_of pool.members pool.order)))
        ]) ≡ Oldest.Empty → pool.members ≡ []
    by [] is e = is
    by (o ∷ ms) is e = absurd (choose (list_all is_parked pool.members) e)
