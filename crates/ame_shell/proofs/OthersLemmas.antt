-- Machines of other seats stay.
use Rattle.std.proofs.Common.{◌≡◌, ◌≢◌, ℕ, List, Option, Some, refl, sym, ap, ◌∙◌, subst}
use Rattle.std.specs.Prelude.{unwrap_or}
use Rattle.ame_term.specs.Tree.{Val, Tree, unit_tree}
use Rattle.ame_term.specs.declared.types.Loc.{Loc}
use Rattle.ame_term.specs.declared.types.Sort.{Sort}
use Rattle.ame_term.specs.declared.types.TyNo.{TyNo}
use Rattle.ame_pool.specs.Roster.{Roster}
use Rattle.ame_pool.specs.Calls.{begun, held}
use Rattle.ame_pool.specs.Keeps.{is_inside_at}
use Rattle.ame_pool.proofs.MemberLemmas.{found_altered}
use Rattle.ame_rows.specs.MemoryView.{Log, row_at}
use Rattle.ame_machine.specs.MachineView.{MachineView, running_side, OnRun}
use Rattle.ame_machine.specs.Move.{GoesLow}
use Rattle.ame_machine.specs.Run.Local.{begun_with}
use Rattle.ame_protocol.specs.declared.types.Attempt.{Attempt}
use Rattle.ame_protocol.specs.declared.types.UndoReason.{UndoReason}
use Rattle.ame_protocol.specs.declared.types.Task.{Task}
use Rattle.ame_protocol.specs.Engine.Parts.{Parts, task_at, term_at, working}
use Rattle.ame_protocol.specs.Engine.Events.{fresh_attempt, begun_task, has_begun, has_read, has_written, has_allocated, checked_attempt, has_checked, has_turned_back}
use Rattle.ame_protocol.proofs.Engine.PoolLemmas.{machines-stay}
use Rattle.ame_protocol.proofs.Engine.StepLemmas.{task_else}
use Rattle.ame_rows.proofs.LookupLemmas.{row_set_else}
use Rattle.ame_engine.specs.AtWork.{is_free}
use Rattle.ame_shell.specs.Low.{IsLowOnSeat}

-- if the task, the logs and the term from which the seat runs stay
pub stays-on : (parts new : Parts) (other : ℕ) (s : MachineView) → task_at new.tasks other ≡ task_at parts.tasks other
    → row_at new.memory.rows other ≡ row_at parts.memory.rows other
    → ((a : Attempt) → working (task_at parts.tasks other) ≡ Some a → term_at new.pool a.tried.number ≡ term_at parts.pool a.tried.number)
    → IsLowOnSeat parts other s → IsLowOnSeat new other s
stays-on parts new other s task row term x = record {
  on = record {
    attempt = x.on.attempt;
    has = ap working task ∙ x.on.has;
    side = x.on.side ∙ ap is_free (sym task);
    run = kept (λ start inputs. OnRun start inputs s) x.on.run;
    since = x.on.since;
  };
  low = kept (λ start inputs. GoesLow (running_side s) (begun_with start inputs) s.steps) x.low;
}
  where
    kept : (P : Tree → List Val → Type 0) → P (term_at parts.pool x.on.attempt.tried.number) (row_at parts.memory.rows other).inputs
        → P (term_at new.pool x.on.attempt.tried.number) (row_at new.memory.rows other).inputs
    kept P p =
        subst (λ (start : Tree). P start (row_at new.memory.rows other).inputs) (sym (term x.on.attempt x.on.has))
        (subst (λ (notes : Log Val). P (term_at parts.pool x.on.attempt.tried.number) notes.inputs) (sym row) p)

term-held : (number n : ℕ) (pool : Roster Tree) → term_at (held n pool) number ≡ term_at pool number
term-held number n pool =
    ap (λ (o : Option Tree). unwrap_or o unit_tree)
    (machines-stay n begun pool.members (held n pool).members (found_altered n begun (λ _. refl) pool.members) (λ _. refl) (λ _. refl) number)

module _ (parts : Parts) (seat other : ℕ) (s : MachineView) (apart : other ≢ seat) (on : IsLowOnSeat parts other s) where
  pub begun-others : (number : ℕ) → IsLowOnSeat (has_begun seat number parts) other s
  begun-others number =
      stays-on parts (has_begun seat number parts) other s
      (task_else parts.tasks seat (begun_task (is_inside_at parts.pool.members number) (fresh_attempt number parts)) other apart) refl
      (λ a e. term-held a.tried.number number parts.pool) on

  pub read-others : (l : Loc) → IsLowOnSeat (has_read seat l parts) other s
  read-others l = stays-on parts (has_read seat l parts) other s refl (row_set_else parts.memory.rows seat other _ apart) (λ a e. refl) on

  pub written-others : (l : Loc) (v : Val) → IsLowOnSeat (has_written seat l v parts) other s
  written-others l v = stays-on parts (has_written seat l v parts) other s refl (row_set_else parts.memory.rows seat other _ apart) (λ a e. refl) on

  pub allocated-others : (sort : Sort) (ty : TyNo) (v : Val) → IsLowOnSeat (has_allocated seat sort ty v parts) other s
  allocated-others sort ty v =
      stays-on parts (has_allocated seat sort ty v parts) other s refl (row_set_else parts.memory.rows seat other _ apart) (λ a e. refl) on

  pub checked-others : (steps : ℕ) (attempt : Attempt) → IsLowOnSeat (has_checked seat steps attempt parts) other s
  checked-others steps attempt =
      stays-on parts (has_checked seat steps attempt parts) other s
      (task_else parts.tasks seat (Task.Running (checked_attempt steps attempt parts)) other apart) refl (λ a e. refl) on

  pub back-others : (attempt : Attempt) → IsLowOnSeat (has_turned_back seat attempt parts) other s
  back-others attempt =
      stays-on parts (has_turned_back seat attempt parts) other s
      (task_else parts.tasks seat (Task.Undoing attempt UndoReason.RolledBack) other apart) refl (λ a e. refl) on
