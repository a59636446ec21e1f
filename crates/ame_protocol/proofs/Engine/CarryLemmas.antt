-- The obligations of a seat under the events of another one.
use Rattle.std.proofs.Common.{◌≡◌, ℕ, ◌*◌, ◌≤◌, Bool, false, List, ◌++◌, All, Some, refl, sym, ap, ◌∙◌, subst, arith}
use Rattle.std.specs.Prelude.{unwrap_or}
use Rattle.std.proofs.Math.Nat.{mul-le-mul_left}
use Rattle.std.proofs.lemmas.List.Elements.{All-weaker}
use Rattle.ame_term.specs.Tree.{Val, Tree, unit_tree}
use Rattle.ame_term.specs.Signature.{Signature}
use Rattle.ame_journal.specs.declared.entry.Entry.{Entry}
use Rattle.ame_pool.specs.Calls.{IsAt, machine_of, inside_of}
use Rattle.ame_laws.specs.Typed.StoreTyping.{StoreTyping, Grows}
use Rattle.ame_rows.specs.declared.notes.Undo.{Undo}
use Rattle.ame_rows.specs.declared.notes.Undo.TheVariants.{Wrote, Made}
use Rattle.ame_rows.specs.MemoryView.{Log, row_at}
use Rattle.ame_protocol.specs.Row.Framed.{IsFramed}
use Rattle.ame_protocol.specs.Row.SeatRun.{IsSomewhere}
use Rattle.ame_protocol.specs.Row.Owes.{Owes}
use Rattle.ame_protocol.specs.Row.TypedHeap.{IsTypedUndo, IsTypedRun}
use Rattle.ame_protocol.specs.Row.Scoped.{IsScoped}
use Rattle.ame_protocol.specs.Row.Tries.{IsSoundTry}
use Rattle.ame_protocol.proofs.Row.OthersLemmas.{owes-kept}
use Rattle.ame_protocol.proofs.Row.ReachLemmas.{stored-grown}
use Rattle.ame_protocol.proofs.Row.TypedRunLemmas.{run-grown}
use Rattle.ame_protocol.proofs.Row.ScopedLemmas.{scoped-others}
use Rattle.ame_protocol.proofs.Row.TryLemmas.{try-stays}
use Rattle.ame_protocol.specs.declared.types.Limits.{Limits}
use Rattle.ame_protocol.specs.declared.types.Tried.{Tried}
use Rattle.ame_protocol.specs.declared.types.Attempt.{Attempt}
use Rattle.ame_protocol.specs.declared.types.UndoReason.{UndoReason}
use Rattle.ame_protocol.specs.declared.types.Task.{Task}
use Rattle.ame_protocol.specs.Engine.Logged.{logged_run}
use Rattle.ame_protocol.specs.Engine.Parts.{Parts, whole_journal, heap_in, member_of, run_in}
use Rattle.ame_protocol.specs.Engine.Tasks.{is_busy_as, is_noted_for, IsSoundIn, HasAtWork, RunsProtected, Undoes, MeetsTask}

-- the engine goes on: what stays of it, and what grows
pub record GoesOn (old new : Parts) : Type 0 where
  pub program : new.program ≡ old.program
  pub signature : new.signature ≡ old.signature
  pub limits : new.limits ≡ old.limits
  pub more : List Entry
  pub journal : whole_journal new ≡ whole_journal old ++ more
  pub turns : old.turns ≤ new.turns

-- a member stays as a seat has it
pub record StaysBusy (old new : Parts) (i : ℕ) : Type 0 where
  pub machine : machine_of i new.pool ≡ machine_of i old.pool
  pub inside : inside_of i new.pool ≡ inside_of i old.pool
  pub busy : (noted : Bool) → IsAt (is_busy_as noted) i old.pool → IsAt (is_busy_as noted) i new.pool

pub sound-on : (old new : Parts) → GoesOn old new → (tried : Tried) → IsSoundIn old tried → IsSoundIn new tried
sound-on old new on tried h =
    subst (λ (p : Tree). IsSoundTry p (whole_journal new) tried.number tried.at tried.steps) (sym on.program)
    (subst (λ (es : List Entry). IsSoundTry old.program es tried.number tried.at tried.steps) (sym on.journal)
    (try-stays old.program (whole_journal old) on.more tried.number tried.at tried.steps h))

few-on : (steps slice turns later : ℕ) → turns ≤ later → steps ≤ slice * turns → steps ≤ slice * later
few-on steps slice turns later more h = let e = mul-le-mul_left slice more in omega arith

pub work-on : (old new : Parts) (noted : Bool) (attempt : Attempt) → GoesOn old new → StaysBusy old new attempt.tried.number → HasAtWork old noted attempt → HasAtWork new noted attempt
work-on old new noted attempt on stays h = record {
  busy = stays.busy noted h.busy;
  sound = sound-on old new on attempt.tried h.sound;
  few =
      subst (λ (s : ℕ). attempt.tried.steps ≤ s * new.turns) (ap (λ (x : Limits). x.slice) (sym on.limits))
      (few-on attempt.tried.steps old.limits.slice old.turns new.turns on.turns h.few);
}

pub undo-grown : (signature : Signature) (types later : StoreTyping) → Grows types later → (u : Undo Val) → IsTypedUndo signature types u → IsTypedUndo signature later u
undo-grown signature types later grows (Wrote l n v) h = stored-grown signature types later grows l.0 v h
undo-grown signature types later grows (Made l) h = tt

module _ (old new : Parts) (types later : StoreTyping) (seat : ℕ) (on : GoesOn old new) (grows : Grows types later) (framed : IsFramed seat (heap_in old) (heap_in new))
    (row : row_at new.memory.rows seat ≡ row_at old.memory.rows seat) where
  run-same : (i : ℕ) → StaysBusy old new i → run_in new seat i ≡ run_in old seat i
  run-same i stays = λ k. logged_run (unwrap_or (stays.machine k) unit_tree) (row k)

  runs-on : (attempt : Attempt) → StaysBusy old new attempt.tried.number → RunsProtected old types seat attempt → RunsProtected new later seat attempt
  runs-on attempt stays h =
      let i = attempt.tried.number in
      let same = run-same i stays in
      record {
        work = work-on old new false attempt on stays h.work;
        outside = stays.inside ∙ h.outside;
        somewhere = subst IsSomewhere (sym same) h.somewhere;
        owes = subst (Owes (heap_in new) seat) (sym same) (owes-kept seat (heap_in old) (heap_in new) framed (run_in old seat i) h.owes);
        typed =
            subst (λ (d : Signature). IsTypedRun d later (run_in new seat i)) (sym on.signature)
            (subst (IsTypedRun old.signature later) (sym same) (run-grown old.signature types later (run_in old seat i) grows h.typed));
        scoped =
            subst (λ (d : Signature). IsScoped d later (heap_in new) seat (run_in new seat i)) (sym on.signature)
            (subst (IsScoped old.signature later (heap_in new) seat) (sym same)
            (scoped-others old.signature types later seat (heap_in old) (heap_in new) (run_in old seat i) grows framed h.owes.notes h.scoped));
      }

  undoes-on : (attempt : Attempt) (reason : UndoReason) → StaysBusy old new attempt.tried.number → Undoes old types seat attempt reason → Undoes new later seat attempt reason
  undoes-on attempt reason stays h = record {
    work = work-on old new (is_noted_for reason) attempt on stays h.work;
    outside = stays.inside ∙ h.outside;
    undos =
        subst (λ (d : Signature). All (IsTypedUndo d later) (row_at new.memory.rows seat).undos) (sym on.signature)
        (subst (λ (n : Log Val). All (IsTypedUndo old.signature later) n.undos) (sym row)
        (All-weaker (IsTypedUndo old.signature types) (IsTypedUndo old.signature later) (undo-grown old.signature types later grows) (row_at old.memory.rows seat).undos h.undos));
  }

  -- a seat keeps to its task, whatever another one does
  pub carried : (task : Task) → ((i : ℕ) → member_of task ≡ Some i → StaysBusy old new i) → MeetsTask old types seat task → MeetsTask new later seat task
  carried Task.Idle stays h = row ∙ h
  carried (Task.Running attempt) stays h = runs-on attempt (stays attempt.tried.number refl) h
  carried (Task.Free attempt) stays h = record {
    work = work-on old new false attempt on (stays attempt.tried.number refl) h.work;
    inside = (stays attempt.tried.number refl).inside ∙ h.inside;
    clear = row ∙ h.clear;
  }
  carried (Task.Undoing attempt reason) stays h = undoes-on attempt reason (stays attempt.tried.number refl) h

-- tries stay sound
pub tries-on : (old new : Parts) → GoesOn old new → (tried : List Tried) → All (IsSoundIn old) tried → All (IsSoundIn new) tried
tries-on old new on tried h = All-weaker (IsSoundIn old) (IsSoundIn new) (sound-on old new on) tried h
