-- Bounds from few rollbacks: on the answers that turned members back, and on attempts without an entry.
use Rattle.std.proofs.Common.{◌≡◌, ℕ, zero, suc, ◌+◌, ◌*◌, ◌<◌, ◌≤◌, ◌==◌, ◌⊎◌, inl, inr, true, List, [], ◌∷◌, length, All, Option, Some, None, refl, sym, ap, ◌∙◌, subst, arith}
use Rattle.std.proofs.lemmas.List.Elements.{All-head, All-tail, All-cons, All-weaker}
use Rattle.std.proofs.lemmas.List.Sums.{sum_by-le}
use Rattle.std.proofs.lemmas.Bool.{cases_lt, cond_both}
use Rattle.ame_term.specs.Tree.{Tree}
use Rattle.ame_pool.specs.declared.member.Member.{Member}
use Rattle.ame_pool.specs.Members.{IsRising, find, altered}
use Rattle.ame_pool.specs.Standings.{max_rollbacks}
use Rattle.ame_pool.specs.Calls.{at_home}
use Rattle.ame_pool.proofs.MemberLemmas.{find_number, all_found, length_altered}
use Rattle.ame_protocol.specs.declared.types.Attempt.{Attempt}
use Rattle.ame_protocol.specs.declared.types.UndoReason.{UndoReason}
use Rattle.ame_protocol.specs.declared.types.Task.{Task}
use Rattle.ame_protocol.specs.Engine.Parts.{Parts, task_at, member_of}
use Rattle.ame_protocol.specs.Engine.Simulates.{Simulates}
use Rattle.ame_protocol.proofs.Engine.CommitLemmas.{free-next}
use Rattle.ame_protocol.specs.Bounds.Seats.{over_seats}
use Rattle.ame_protocol.specs.Bounds.Rollbacks.{rollbacks_in, rollbacks_at, IsWithinRollbacks, HasReason, turning_back}
use Rattle.ame_protocol.specs.Bounds.Tries.{HasFewTries}
use Rattle.ame_protocol.specs.Bounds.FewRollbacks.{HasFewRollbacks}
use Rattle.ame_protocol.proofs.Bounds.RollLemmas.{MayTurn, altered-rolls, rolled-more}
use Rattle.ame_protocol.proofs.Bounds.FewEntries.{told-few}

-- Members are few

-- rising numbers between two
rising-length : (low next : ℕ) (ms : List (Member Tree)) → low ≤ next → All (λ m. low ≤ m.number) ms → All (λ m. m.number < next) ms → IsRising ms
    → low + length ms ≤ next
rising-length low next [] fits above below rises = omega arith
rising-length low next (m ∷ ms) fits above below rises =
    let a = All-head (λ (o : Member Tree). low ≤ o.number) m ms above in let b = All-head (λ (o : Member Tree). o.number < next) m ms below in
    let rest =
    rising-length (m.number + 1) next ms (omega arith)
    (All-weaker (λ (o : Member Tree). m.number < o.number) (λ (o : Member Tree). m.number + 1 ≤ o.number) (λ o h. omega (arith, h)) ms rises.0)
    (All-tail (λ (o : Member Tree). o.number < next) m ms below) rises.1 in
    omega arith

members-below : (parts : Parts) → Simulates parts → IsRising parts.pool.members → All (λ m. m.number < parts.next) parts.pool.members
members-below parts s rises =
    all_found (λ m. m.number < parts.next) parts.pool.members rises (λ n m e. by n m e (cases_lt n parts.next))
  where
    by : (n : ℕ) (m : Member Tree) → find n parts.pool.members ≡ Some m → (n < parts.next) ⊎ (parts.next ≤ n) → m.number < parts.next
    by n m e (inl below) = let same = find_number n parts.pool.members m e in omega arith
    by n m e (inr above) = absurd (let clash : ◌≡◌ {A = Option (Member Tree)} None (Some m) = sym (free-next parts s n above) ∙ e in cc)

pub members-few : (parts : Parts) → Simulates parts → IsRising parts.pool.members → length parts.pool.members ≤ parts.next
members-few parts s rises =
    let h = rising-length 0 parts.next parts.pool.members (omega arith) (λ k d lt. omega arith) (members-below parts s rises) rises in omega arith

-- The members after some seats have brought home those that turned back

record AreHome (parts : Parts) (n : ℕ) : Type 0 where
  pub members : List (Member Tree)
  pub count : length members ≡ length parts.pool.members
  pub within : All (λ m. m.rollbacks ≤ max_rollbacks) members
  pub sum : rollbacks_in members ≡ rollbacks_in parts.pool.members + over_seats n (λ k. turning_back (task_at parts.tasks k))
  pub open_still : (k : ℕ) → n ≤ k → (attempt : Attempt) → task_at parts.tasks k ≡ Task.Undoing attempt UndoReason.RolledBack
      → MayTurn (find attempt.tried.number members)

all-altered : (n : ℕ) (f : Member Tree → Member Tree) (P : Member Tree → Type 0) → ((m : Member Tree) → P m → P (f m)) → (ms : List (Member Tree))
    → All P ms → All P (altered n f ms)
all-altered n f P stays [] h = h
all-altered n f P stays (m ∷ ms) h =
    let here = All-head P m ms h in let rest = All-tail P m ms h in
    cond_both (m.number == n) (f m ∷ ms) (m ∷ altered n f ms) (All P) (λ _. All-cons P (f m) ms (stays m here) rest)
    (λ _. All-cons P m (altered n f ms) here (all-altered n f P stays ms rest))

module _ (parts : Parts) (s : Simulates parts) (reasons : (k : ℕ) → HasReason parts (task_at parts.tasks k)) (within : IsWithinRollbacks parts.pool) where
  -- two seats bring home different members
  apart : (k n : ℕ) (here there : Attempt) → task_at parts.tasks k ≡ Task.Undoing here UndoReason.RolledBack
      → task_at parts.tasks n ≡ Task.Undoing there UndoReason.RolledBack → suc n ≤ k → here.tried.number ≡ there.tried.number → ⊥
  apart k n here there e f above same =
      let one : k ≡ n = s.apart k n here.tried.number (ap member_of e) (ap member_of f ∙ ap Some (sym same)) in omega arith

  one-home : (n : ℕ) → AreHome parts n → (attempt : Attempt) → task_at parts.tasks n ≡ Task.Undoing attempt UndoReason.RolledBack → AreHome parts (suc n)
  one-home n h attempt task =
      let number = attempt.tried.number in
      let rolls = altered-rolls number (at_home true) (λ _. refl) h.members in
      let more = rolled-more number h.members (h.open_still n (omega arith) attempt task) in
      record {
        members = altered number (at_home true) h.members;
        count = length_altered number (at_home true) h.members ∙ h.count;
        within = all-altered number (at_home true) (λ m. m.rollbacks ≤ max_rollbacks) (λ m few. omega arith) h.members h.within;
        sum = let x = rolls.sum in let y = h.sum in let t = ap turning_back task in omega arith;
        open_still = λ k above x e. rolls.kept x.tried.number (apart k n x attempt e task above) (h.open_still k (omega arith) x e);
      }

  none-home : (n : ℕ) → AreHome parts n → turning_back (task_at parts.tasks n) ≡ 0 → AreHome parts (suc n)
  none-home n h none = record {
    members = h.members;
    count = h.count;
    within = h.within;
    sum = let y = h.sum in omega arith;
    open_still = λ k above x e. h.open_still k (omega arith) x e;
  }

  next-home : (n : ℕ) → AreHome parts n → (task : Task) → task_at parts.tasks n ≡ task → AreHome parts (suc n)
  next-home n h (Task.Undoing attempt UndoReason.RolledBack) e = one-home n h attempt e
  next-home n h Task.Idle e = none-home n h (ap turning_back e)
  next-home n h (Task.Running attempt) e = none-home n h (ap turning_back e)
  next-home n h (Task.Free attempt) e = none-home n h (ap turning_back e)
  next-home n h (Task.Undoing attempt UndoReason.Noted) e = none-home n h (ap turning_back e)
  next-home n h (Task.Undoing attempt UndoReason.Stopped) e = none-home n h (ap turning_back e)

  home-all : (n : ℕ) → AreHome parts n
  home-all zero = record {
    members = parts.pool.members;
    count = refl;
    within = within;
    sum = omega arith;
    open_still = λ k above attempt e. subst (HasReason parts) e (reasons k);
  }
  home-all (suc n) = next-home n (home-all n) (task_at parts.tasks n) refl

  pub rollbacks-bounded : rollbacks_in parts.pool.members + over_seats parts.limits.seats (λ k. turning_back (task_at parts.tasks k))
      ≤ 8 * length parts.pool.members
  rollbacks-bounded =
      let h = home-all parts.limits.seats in
      let all : rollbacks_in h.members ≤ length h.members * 8 = sum_by-le (λ x. x.rollbacks) 8 h.members h.within in
      let sum = h.sum in let count = h.count in omega arith

pub refusals-bounded : (refused : ℕ) (parts : Parts) → Simulates parts → HasFewRollbacks refused parts → IsRising parts.pool.members
    → IsWithinRollbacks parts.pool → refused ≤ max_rollbacks * (parts.next + length parts.entries)
refusals-bounded refused parts s a rises within =
    let members = members-few parts s rises in
    let few = rollbacks-bounded parts s a.reasons within in
    let h = a.rare in omega arith

pub tries-bounded : (refused : ℕ) (parts : Parts) → HasFewRollbacks refused parts → IsWithinRollbacks parts.pool → HasFewTries parts.limits.seats parts.entries parts.tried
tries-bounded refused parts a few = record {
  late = a.late;
  seats_enough = let h = a.tries.room in omega arith;
  apart = a.tries.once;
  few = λ i. let h = a.tries.few i in let r : rollbacks_at i parts.pool ≤ 8 = told-few i parts.pool few in omega arith;
}
