-- An engine that has just started.
use Rattle.std.proofs.Common.{◌≡◌, ℕ, zero, suc, ◌<◌, ◌==◌, ◌⊎◌, inl, inr, Bool, true, false, cond, [], ◌∷◌, replicate, Option, Some, None, refl, sym, ap, ◌∙◌, subst, arith}
use Rattle.std.specs.Prelude.{option_map}
use Rattle.std.proofs.lemmas.Bool.{ne_eqb}
use Rattle.std.proofs.lemmas.List.{length-replicate}
use Rattle.std.proofs.lemmas.List.Elements.{All-nil}
use Rattle.ame_term.specs.Tree.{Val, Tree}
use Rattle.ame_term.specs.Signature.{Signature}
use Rattle.ame_term.specs.Maps.{at}
use Rattle.ame_term.specs.State.{start}
use Rattle.ame_term.specs.Typing.{no_cells}
use Rattle.ame_laws.proofs.MapLemmas.{is_at-apart}
use Rattle.ame_machine.specs.Sound.{IsAccepted}
use Rattle.ame_machine.proofs.RunnableLemmas.{starts-typed}
use Rattle.ame_journal.specs.Replayed.{begun_at}
use Rattle.ame_laws.proofs.Typed.Preserved.{grown}
use Rattle.ame_pool.specs.Calls.{newcomer}
use Rattle.ame_pool.specs.Members.{find}
use Rattle.ame_pool.specs.Keeps.{is_inside_at}
use Rattle.ame_rows.specs.MemoryView.{Log, no_log, row_at}
use Rattle.ame_rows.proofs.KeptLemmas.{kept_new}
use Rattle.ame_store.specs.Cells.{IsFree}
use Rattle.ame_protocol.specs.Row.Scoped.{live_types}
use Rattle.ame_protocol.proofs.Row.CellLemmas.{which}
use Rattle.ame_protocol.specs.declared.types.Limits.{Limits}
use Rattle.ame_protocol.specs.declared.types.Task.{Task}
use Rattle.ame_protocol.specs.Engine.Parts.{Parts, heap_in, task_at, member_of}
use Rattle.ame_protocol.specs.Engine.Tasks.{IsSoundIn, MeetsTask}
use Rattle.ame_protocol.specs.Engine.Simulates.{Simulates}
use Rattle.ame_protocol.specs.Engine.Events.{started}

pub task-idle : (n seat : ℕ) → task_at (replicate n Task.Idle) seat ≡ Task.Idle
task-idle zero seat = refl
task-idle (suc n) zero = refl
task-idle (suc n) (suc seat) = task-idle n seat

row-clear : (n seat : ℕ) → ◌≡◌ {A = Log Val} (row_at (replicate n no_log) seat) no_log
row-clear zero seat = refl
row-clear (suc n) zero = refl
row-clear (suc n) (suc seat) = row-clear n seat

module _ (program : Tree) (signature : Signature) (limits : Limits) (room : ℕ) where
  abbrev parts : Parts
  parts = started program signature limits room

  first-member : (i : ℕ) → at ((0, program) ∷ []) i ≡ option_map (λ m. m.machine) (find i (newcomer 0 program false ∷ []))
  first-member i = by (which 0 i)
    where
      by : (0 ≡ i) ⊎ ((0 ≡ i) → ⊥) → at ((0, program) ∷ []) i ≡ option_map (λ m. m.machine) (find i (newcomer 0 program false ∷ []))
      by (inl same) = subst (λ (k : ℕ). at ((0, program) ∷ []) k ≡ option_map (λ m. m.machine) (find k (newcomer 0 program false ∷ []))) same refl
      by (inr apart) = rw (is_at-apart i 0 apart, ne_eqb 0 i apart) refl

  nobody-inside : (i : ℕ) → false ≡ is_inside_at (newcomer 0 program false ∷ []) i
  nobody-inside i = by (0 == i)
    where
      by : (b : Bool) → false ≡ (elim (cond b (Some (newcomer 0 program false)) None) [ None ↦ false | Some m ↦ m.inside ])
      by true = refl
      by false = refl

  nobody-at : (seat i : ℕ) → member_of (task_at parts.tasks seat) ≡ Some i → ⊥
  nobody-at seat i e = let clash : ◌≡◌ {A = Option ℕ} None (Some i) = sym (ap member_of (task-idle limits.seats seat)) ∙ e in cc

  pub started_stands : IsAccepted signature program → Simulates parts
  started_stands accepted = record {
    r = begun_at program;
    types = no_cells;
    stands = record { replayed = refl; store = λ l. refl; members = first-member; inside = nobody-inside; output = refl; next = refl };
    typed = record {
      heap = record { typed = λ l there. absurd (let h : l < 0 = there in omega arith); located = λ l cell e. absurd (let clash : ◌≡◌ {A = Option _} None (Some cell) = e in cc) };
      now =
          grown signature no_cells (live_types (heap_in parts) no_cells) (start program) (λ l cell e. absurd (let clash : ◌≡◌ {A = Option _} None (Some cell) = e in cc))
          (starts-typed signature program accepted).typed;
      shared = λ l live its. absurd (let clash : false ≡ true = live in cc);
    };
    consistent = kept_new [] limits.seats (All-nil IsFree);
    seats = λ seat. subst (MeetsTask parts no_cells seat) (sym (task-idle limits.seats seat)) (row-clear limits.seats seat);
    apart = λ seat other i e f. absurd (nobody-at seat i e);
    bounded = record {
      turns = omega arith;
      numbers = λ l. omega arith;
      cells = omega arith;
      rows = length-replicate limits.seats no_log;
      tasks = length-replicate limits.seats Task.Idle;
    };
    sound = All-nil (IsSoundIn parts);
  }
