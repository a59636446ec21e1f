-- Machines of other seats stay after notes and visits.
use Rattle.std.proofs.Common.{◌≡◌, ◌≢◌, ℕ, Bool, true, List, Some, refl, ap}
use Rattle.std.specs.Prelude.{Option, unwrap_or}
use Rattle.ame_term.specs.Tree.{Val, Tree, unit_tree}
use Rattle.ame_term.specs.Act.{Act}
use Rattle.ame_pool.specs.Roster.{Roster}
use Rattle.ame_pool.specs.Calls.{noted_on, noted, renewed, exchanged}
use Rattle.ame_pool.proofs.MemberLemmas.{found_altered}
use Rattle.ame_machine.specs.Run.Local.{LocalState}
use Rattle.ame_rows.specs.MemoryView.{Log, MemoryView, row_at}
use Rattle.ame_protocol.specs.Row.Waiting.{read_places}
use Rattle.ame_machine.specs.MachineView.{MachineView}
use Rattle.ame_protocol.specs.declared.types.Attempt.{Attempt}
use Rattle.ame_protocol.specs.declared.types.UndoReason.{UndoReason}
use Rattle.ame_protocol.specs.declared.types.Task.{Task}
use Rattle.ame_protocol.specs.Engine.Parts.{Parts, task_at, member_of, term_at, working}
use Rattle.ame_protocol.specs.Engine.Simulates.{Simulates}
use Rattle.ame_protocol.specs.Engine.Events.{with_newcomers}
use Rattle.ame_protocol.proofs.Engine.PoolLemmas.{machines-stay}
use Rattle.ame_protocol.proofs.Engine.StepLemmas.{task_else}
use Rattle.ame_protocol.proofs.Engine.GrowthLemmas.{keeps-on, keeps-same, newcomers-keep}
use Rattle.ame_protocol.proofs.Engine.CommitLemmas.{free-next}
use Rattle.ame_protocol.specs.Waits.Noted.{has_noted}
use Rattle.ame_protocol.specs.Visits.ByAct.{memory_after}
use Rattle.ame_protocol.specs.Visits.Stops.{told_task, has_been_cut, has_grown_tall}
use Rattle.ame_protocol.specs.Visits.Visit.{IsVisit, has_visited, has_been_refused}
use Rattle.ame_shell.specs.Low.{IsLowOnSeat}
use Rattle.ame_shell.proofs.OthersLemmas.{stays-on}
use Rattle.ame_shell.proofs.EndsLemmas.{term-home, other-member, member-below}

-- a member that is noted keeps its term
term-noted : (number n : ℕ) (places : List ℕ) (pool : Roster Tree) → term_at (noted n places pool) number ≡ term_at pool number
term-noted number n places pool =
    ap (λ (o : Option Tree). unwrap_or o unit_tree)
    (machines-stay n (noted_on places) pool.members (noted n places pool).members (found_altered n (noted_on places) (λ _. refl) pool.members) (λ _. refl) (λ _. refl)
    number)

module _ (parts : Parts) (seat other : ℕ) (s : MachineView) (apart : other ≢ seat) (on : IsLowOnSeat parts other s) where
  pub noted-others : (attempt : Attempt) (steps : ℕ) (p : LocalState) → IsLowOnSeat (has_noted seat attempt steps p parts) other s
  noted-others attempt steps p =
      stays-on parts (has_noted seat attempt steps p parts) other s
      (task_else parts.tasks seat (Task.Undoing (record attempt { logged = true }) UndoReason.Noted) other apart) refl
      (λ a e. term-noted a.tried.number attempt.tried.number (read_places (row_at parts.memory.rows seat).reads) parts.pool) on

  pub cut-others : (number steps : ℕ) (p : LocalState) (task : Task) → IsLowOnSeat (has_been_cut seat number steps p task parts) other s
  cut-others number steps p task =
      stays-on parts (has_been_cut seat number steps p task parts) other s (task_else parts.tasks seat (told_task task) other apart) refl (λ a e. refl) on

  pub tall-others : (number steps : ℕ) (p : LocalState) (task : Task) → IsLowOnSeat (has_grown_tall seat number steps p task parts) other s
  tall-others number steps p task =
      stays-on parts (has_grown_tall seat number steps p task parts) other s (task_else parts.tasks seat (told_task task) other apart) refl (λ a e. refl) on

  pub refused-others : (number : ℕ) → IsLowOnSeat (has_been_refused seat number parts) other s
  refused-others number =
      stays-on parts (has_been_refused seat number parts) other s (task_else parts.tasks seat Task.Idle other apart) refl
      (λ a e. term-home UndoReason.Stopped number a.tried.number parts.pool) on

-- a visit leaves the logs of seats
act-rows : (act : Act) (memory : MemoryView Val) → (memory_after act memory).rows ≡ memory.rows
act-rows (Act.Becomes term) memory = refl
act-rows (Act.Allocates sort number v) memory = refl
act-rows (Act.Reads l) memory = refl
act-rows (Act.Peeks l) memory = refl
act-rows (Act.Writes l v) memory = refl
act-rows (Act.Spawns body) memory = refl
act-rows (Act.Prints n) memory = refl
act-rows Act.Passes memory = refl
act-rows Act.Fails memory = refl
act-rows (Act.Calls device n) memory = refl
act-rows (Act.Closes v) memory = refl
act-rows Act.Stuck memory = refl

pub visit-rows : (parts : Parts) (number n : ℕ) (p : LocalState) (inside : Bool) (memory : MemoryView Val) → IsVisit parts number n p inside memory
    → memory.rows ≡ parts.memory.rows
visit-rows parts number n p inside memory (IsVisit.stepped steps place some stands) = refl
visit-rows parts number n p inside memory (IsVisit.acted steps place act v made stands at given gives) = act-rows act parts.memory
visit-rows parts number n p inside memory (IsVisit.closed steps place v stands closes) = refl

module _ (parts : Parts) (stands : Simulates parts) (seat other : ℕ) (s : MachineView) (apart : other ≢ seat) (on : IsLowOnSeat parts other s) (number : ℕ)
    (of : member_of (task_at parts.tasks seat) ≡ Some number) (steps : ℕ) (p : LocalState) (inside : Bool) (memory : MemoryView Val) (rows : memory.rows ≡ parts.memory.rows) where
  abbrev later_pool : Roster Tree
  later_pool = with_newcomers parts.next p.spawns parts.pool

  abbrev home_pool : Roster Tree
  home_pool = exchanged number p.term inside later_pool

  term-kept : (a : Attempt) → working (task_at parts.tasks other) ≡ Some a → term_at home_pool a.tried.number ≡ term_at parts.pool a.tried.number
  term-kept a has =
      let i = a.tried.number in
      let k =
      keeps-on parts.pool later_pool home_pool i
      (newcomers-keep parts.next p.spawns parts.pool (free-next parts stands) i (member-below parts stands other a has))
      (keeps-same later_pool home_pool i
      ((found_altered number (renewed p.term inside) (λ _. refl) later_pool.members).others i (other-member parts stands seat other apart number of a has))) in
      ap (λ (o : Option Tree). unwrap_or o unit_tree) k.machine

  pub visited-others : IsLowOnSeat (has_visited seat number steps p inside memory parts) other s
  visited-others =
      stays-on parts (has_visited seat number steps p inside memory parts) other s (task_else parts.tasks seat Task.Idle other apart)
      (ap (λ (all : List (Log Val)). row_at all other) rows) term-kept on
