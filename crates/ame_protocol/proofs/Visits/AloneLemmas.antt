-- An exhausted member runs alone after a visit of another one.
use Rattle.std.proofs.Common.{◌≡◌, ℕ, ◌==◌, Bool, true, false, List, Option, Some, None, refl, sym, ap, ◌∙◌, subst}
use Rattle.std.specs.Prelude.{option_map}
use Rattle.ame_term.specs.Tree.{Val, Tree}
use Rattle.ame_pool.specs.declared.member.Member.{Member}
use Rattle.ame_pool.specs.Members.{find}
use Rattle.ame_pool.specs.Standings.{max_rollbacks}
use Rattle.ame_pool.specs.Roster.{Roster}
use Rattle.ame_pool.specs.Begin.{is_exhausted}
use Rattle.ame_pool.specs.Calls.{IsAt}
use Rattle.ame_machine.specs.Run.Local.{LocalState}
use Rattle.ame_rows.specs.MemoryView.{MemoryView, Log, row_at}
use Rattle.ame_protocol.specs.Row.SeatRun.{AreValid}
use Rattle.ame_protocol.specs.declared.types.Attempt.{Attempt}
use Rattle.ame_protocol.specs.declared.types.Task.{Task}
use Rattle.ame_protocol.specs.Engine.Parts.{Parts, heap_in, task_at, attempt_of, member_of}
use Rattle.ame_protocol.specs.Engine.Simulates.{Simulates}
use Rattle.ame_protocol.specs.Engine.Alone.{is_of_protected, IsExhausted, RunsExclusively}
use Rattle.ame_protocol.proofs.Engine.PoolLemmas.{found-at, at-found}
use Rattle.ame_protocol.proofs.Engine.GrowthLemmas.{rollbacks_of, newcomers-keep}
use Rattle.ame_protocol.proofs.Engine.StepLemmas.{task_else}
use Rattle.ame_protocol.proofs.Engine.AccessLemmas.{runs}
use Rattle.ame_protocol.proofs.Engine.CommitLemmas.{free-next}
use Rattle.ame_protocol.specs.Visits.Visit.{has_visited}
use Rattle.ame_protocol.proofs.Visits.VisitLemmas.{Visited}
use Rattle.ame_protocol.proofs.Visits.StandLemmas.{below-next, idle-here, its-own, visit-found}

-- A member is exhausted by its rollbacks only.
pub exhausted-told : (old new : Roster Tree) (i : ℕ) → rollbacks_of i new ≡ rollbacks_of i old → IsAt is_exhausted i new → IsAt is_exhausted i old
exhausted-told old new i same exhausted = by (find i old.members) refl
  where
    by : (o : Option (Member Tree)) → find i old.members ≡ o → IsAt is_exhausted i old
    by None e =
        let m = found-at new i is_exhausted exhausted in
        absurd (let clash : ◌≡◌ {A = Option ℕ} (Some m.0.rollbacks) None = sym (ap (option_map (λ (x : Member Tree). x.rollbacks)) m.1) ∙ same
        ∙ ap (option_map (λ (x : Member Tree). x.rollbacks)) e in cc)
    by (Some x) e =
        let m = found-at new i is_exhausted exhausted in
        let both : Some m.0.rollbacks ≡ Some x.rollbacks = sym (ap (option_map (λ (z : Member Tree). z.rollbacks)) m.1) ∙ same
        ∙ ap (option_map (λ (z : Member Tree). z.rollbacks)) e in
        let is : m.0.rollbacks ≡ x.rollbacks = cc in
        at-found old i is_exhausted x e (ap (λ (c : ℕ). c == max_rollbacks) (sym is) ∙ m.2)

-- A seat that visited is idle afterwards, and the reads of the others are as they were

module _ (parts new : Parts) (s : Simulates parts) (a : RunsExclusively parts) (seat : ℕ) (attempt : Attempt) (task : task_at parts.tasks seat ≡ Task.Free attempt)
    (idle : task_at new.tasks seat ≡ Task.Idle) (stopped : new.stopped ≡ parts.stopped)
    (others : (k : ℕ) → (k ≡ seat → ⊥) → task_at new.tasks k ≡ task_at parts.tasks k)
    (exhausted-before : (k i : ℕ) → (k ≡ seat → ⊥) → member_of (task_at parts.tasks k) ≡ Some i → IsAt is_exhausted i new.pool → IsAt is_exhausted i parts.pool)
    (rows : new.memory.rows ≡ parts.memory.rows)
    (valid : (k : ℕ) (t : Attempt) → task_at parts.tasks k ≡ Task.Running t → AreValid (heap_in parts) k (row_at parts.memory.rows k).reads
    → AreValid (heap_in new) k (row_at parts.memory.rows k).reads) where
  away : (k : ℕ) → is_of_protected (task_at new.tasks k) ≡ true → k ≡ seat → ⊥
  away k e one = let clash : true ≡ false = sym e ∙ ap (λ (m : ℕ). is_of_protected (task_at new.tasks m)) one ∙ ap is_of_protected idle in cc

  was-exhausted : (k : ℕ) (t : Attempt) → IsExhausted new k t → IsExhausted parts k t
  was-exhausted k t exhausted =
      let apart = away k exhausted.task in
      let has = sym (ap attempt_of (others k apart)) ∙ exhausted.has in
      record {
        task = sym (ap is_of_protected (others k apart)) ∙ exhausted.task;
        has = has;
        exhausted = exhausted-before k t.tried.number apart (ap (option_map (λ (x : Attempt). x.tried.number)) has) exhausted.exhausted;
      }

  pub visited-alone : RunsExclusively new
  visited-alone = record {
    alone = λ k other t exhausted e. a.alone k other t (was-exhausted k t exhausted) (sym (ap is_of_protected (others other (away other e))) ∙ e);
    running = λ going k t exhausted. others k (away k exhausted.task) ∙ a.running (sym stopped ∙ going) k t (was-exhausted k t exhausted);
    valid = λ going k t exhausted.
        let was = was-exhausted k t exhausted in
        let still = sym stopped ∙ going in
        subst (λ (rs : List (Log Val)). AreValid (heap_in new) k (row_at rs k).reads) (sym rows)
        (valid k t (a.running still k t was) (a.valid still k t was));
  }

module _ (parts : Parts) (s : Simulates parts) (a : RunsExclusively parts) (seat : ℕ) (attempt : Attempt) (task : task_at parts.tasks seat ≡ Task.Free attempt)
    (n : ℕ) (q : LocalState) (inside : Bool) (memory : MemoryView Val) (v : Visited parts s seat attempt.tried.number n q inside memory) where
  abbrev new : Parts
  new = has_visited seat attempt.tried.number n q inside memory parts

  exhausted-before : (k i : ℕ) → (k ≡ seat → ⊥) → member_of (task_at parts.tasks k) ≡ Some i → IsAt is_exhausted i new.pool → IsAt is_exhausted i parts.pool
  exhausted-before k i apart its exhausted =
      let other = its-own parts s seat attempt (ap attempt_of task) k i apart its in
      let keeps = newcomers-keep parts.next q.spawns parts.pool (free-next parts s) i (below-next parts s k i its) in
      exhausted-told parts.pool new.pool i
      (ap (option_map (λ (x : Member Tree). x.rollbacks)) ((visit-found parts s seat attempt task n q inside memory v).others i other) ∙ keeps.rollbacks) exhausted

  pub visit-alone : RunsExclusively new
  visit-alone =
      visited-alone parts new s a seat attempt task (idle-here parts s seat attempt (ap attempt_of task)) refl (task_else parts.tasks seat Task.Idle)
      exhausted-before
      v.settles.rows
      (λ k t running valid. v.settles.valid k (row_at parts.memory.rows k).reads (runs parts s k t running).owes.notes valid)
