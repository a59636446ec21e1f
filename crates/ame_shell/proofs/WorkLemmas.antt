-- A seat's work is at no form that would become a value that is too high, if its machine's run is at none.
use Rattle.std.proofs.Common.{◌≡◌, ◌≢◌, ℕ, ◌+◌, Bool, true, false, List, [], sym, ap, subst}
use Rattle.ame_term.specs.Tree.{Val}
use Rattle.ame_term.specs.Frame.{Side, side_told}
use Rattle.ame_machine.specs.MachineView.{MachineView, OnRun}
use Rattle.ame_machine.specs.Move.{GoesLow}
use Rattle.ame_machine.specs.Need.{Need, need_of}
use Rattle.ame_machine.specs.Run.Local.{begun_with}
use Rattle.ame_rows.specs.MemoryView.{row_at}
use Rattle.ame_protocol.specs.declared.types.Attempt.{Attempt}
use Rattle.ame_protocol.specs.declared.types.Task.{Task}
use Rattle.ame_protocol.specs.Engine.Parts.{Parts, task_at, term_at}
use Rattle.ame_protocol.specs.Engine.Simulates.{Simulates}
use Rattle.ame_protocol.proofs.Visits.PlaceLemmas.{visits}
use Rattle.ame_shell.specs.Low.{WorkGoesLow, MachineGoesLow}
use Rattle.ame_shell.proofs.LowLemmas.{next-low}

module _ (parts : Parts) (seat : ℕ) (attempt : Attempt) (m : MachineView) where
  there : (t : Task) (n : ℕ) → task_at parts.tasks seat ≡ t → WorkGoesLow parts seat t n → WorkGoesLow parts seat (task_at parts.tasks seat) n
  there t n is low = subst (λ (x : Task). WorkGoesLow parts seat x n) (sym is) low

  pub running-low : task_at parts.tasks seat ≡ Task.Running attempt → m.inside ≡ false → MachineGoesLow parts seat attempt m m.steps → WorkGoesLow parts seat (task_at parts.tasks seat) m.steps
  running-low task outside low =
      there (Task.Running attempt) m.steps task
      (subst (λ (b : Bool). GoesLow (side_told b) (begun_with (term_at parts.pool attempt.tried.number) (row_at parts.memory.rows seat).inputs) m.steps) outside low)

  module _ (h : Simulates parts) (task : task_at parts.tasks seat ≡ Task.Free attempt) (inside : m.inside ≡ true) where
    visiting : (n : ℕ) → MachineGoesLow parts seat attempt m n → WorkGoesLow parts seat (task_at parts.tasks seat) n
    visiting n low =
        let none : (row_at parts.memory.rows seat).inputs ≡ [] = ap (λ row. row.inputs) (visits parts h seat attempt task).clear in
        there (Task.Free attempt) n task
        (subst (λ (inputs : List Val). GoesLow Side.Unprotected (begun_with (term_at parts.pool attempt.tried.number) inputs) n) none
        (subst (λ (b : Bool). GoesLow (side_told b) (begun_with (term_at parts.pool attempt.tried.number) (row_at parts.memory.rows seat).inputs) n) inside low))

    pub stepped-low : MachineGoesLow parts seat attempt m m.steps → WorkGoesLow parts seat (task_at parts.tasks seat) m.steps
    stepped-low low = visiting m.steps low

    pub visited-low : OnRun (term_at parts.pool attempt.tried.number) (row_at parts.memory.rows seat).inputs m → MachineGoesLow parts seat attempt m m.steps
        → need_of m ≢ Need.Tall → WorkGoesLow parts seat (task_at parts.tasks seat) (m.steps + 1)
    visited-low on low other =
        visiting (m.steps + 1) (next-low (term_at parts.pool attempt.tried.number) (row_at parts.memory.rows seat).inputs m on low other)
