-- Machines of other seats stay after the end of a seat's work.
use Rattle.std.proofs.Common.{◌≡◌, ◌≢◌, ℕ, ◌<◌, ◌≤◌, ◌⊎◌, inl, inr, Bool, true, false, List, [], ◌∷◌, Option, Some, None, refl, sym, ap, ◌∙◌, arith}
use Rattle.std.proofs.lemmas.Bool.{cases_lt}
use Rattle.std.proofs.lemmas.Bool.Decides.{nat_tests}
use Rattle.std.specs.Prelude.{unwrap_or, if◌then◌else◌}
use Rattle.ame_term.specs.Tree.{Val, Tree, unit_tree}
use Rattle.ame_pool.specs.declared.member.Member.{Member}
use Rattle.ame_pool.specs.Members.{find, except}
use Rattle.ame_pool.specs.Roster.{Roster}
use Rattle.ame_pool.specs.Calls.{at_home, renewed, at_rest, home, exchanged, removed, parked}
use Rattle.ame_pool.proofs.MemberLemmas.{found_altered}
use Rattle.ame_machine.specs.Run.Local.{LocalState}
use Rattle.ame_rows.specs.MemoryView.{MemoryView, no_log, row_at}
use Rattle.ame_rows.specs.LettingGo.{undone_last}
use Rattle.ame_rows.proofs.LookupLemmas.{row_set_else}
use Rattle.ame_machine.specs.MachineView.{MachineView}
use Rattle.ame_protocol.specs.declared.types.Attempt.{Attempt}
use Rattle.ame_protocol.specs.declared.types.UndoReason.{UndoReason}
use Rattle.ame_protocol.specs.declared.types.Task.{Task}
use Rattle.ame_protocol.specs.Engine.Parts.{Parts, task_at, member_of, term_at, working}
use Rattle.ame_protocol.specs.Engine.Simulates.{Simulates}
use Rattle.ame_protocol.specs.Engine.Tasks.{is_busy_as}
use Rattle.ame_protocol.specs.Engine.Events.{one_turn, with_memory, with_task, with_try, undo_turn, has_undone, brought_home, has_gone_home, woken_for, with_newcomers, has_ended, has_left}
use Rattle.ame_protocol.proofs.Engine.PoolLemmas.{machines-stay, found-at}
use Rattle.ame_protocol.proofs.Engine.StepLemmas.{task_else}
use Rattle.ame_protocol.proofs.Engine.HomeLemmas.{busy-of}
use Rattle.ame_protocol.proofs.Engine.GrowthLemmas.{keeps-on, keeps-same, woken-keeps, woken-free, newcomers-keep}
use Rattle.ame_protocol.proofs.Engine.CommitLemmas.{free-next}
use Rattle.ame_shell.specs.Low.{IsLowOnSeat}
use Rattle.ame_shell.proofs.OthersLemmas.{stays-on}

-- Undos

pub turn-tasks : (parts : Parts) → (undo_turn parts).tasks ≡ parts.tasks
turn-tasks parts = by parts.stopped
  where
    by : (b : Bool) → (if b then parts else one_turn parts).tasks ≡ parts.tasks
    by true = refl
    by false = refl

pub turn-limits : (parts : Parts) → (undo_turn parts).limits ≡ parts.limits
turn-limits parts = by parts.stopped
  where
    by : (b : Bool) → (if b then parts else one_turn parts).limits ≡ parts.limits
    by true = refl
    by false = refl

turn-memory : (parts : Parts) → (undo_turn parts).memory ≡ parts.memory
turn-memory parts = by parts.stopped
  where
    by : (b : Bool) → (if b then parts else one_turn parts).memory ≡ parts.memory
    by true = refl
    by false = refl

turn-pool : (parts : Parts) → (undo_turn parts).pool ≡ parts.pool
turn-pool parts = by parts.stopped
  where
    by : (b : Bool) → (if b then parts else one_turn parts).pool ≡ parts.pool
    by true = refl
    by false = refl

-- a member that goes home keeps its term
pub term-home : (reason : UndoReason) (n number : ℕ) (pool : Roster Tree) → term_at (brought_home reason n pool) number ≡ term_at pool number
term-home UndoReason.RolledBack n number pool =
    ap (λ (o : Option Tree). unwrap_or o unit_tree)
    (machines-stay n (at_home true) pool.members (home n true pool).members (found_altered n (at_home true) (λ _. refl) pool.members) (λ _. refl) (λ _. refl) number)
term-home UndoReason.Noted n number pool =
    ap (λ (o : Option Tree). unwrap_or o unit_tree)
    (machines-stay n at_rest pool.members (parked n pool).members (found_altered n at_rest (λ _. refl) pool.members) (λ _. refl) (λ _. refl) number)
term-home UndoReason.Stopped n number pool =
    ap (λ (o : Option Tree). unwrap_or o unit_tree)
    (machines-stay n (at_home false) pool.members (home n false pool).members (found_altered n (at_home false) (λ _. refl) pool.members) (λ _. refl) (λ _. refl) number)

module _ (parts : Parts) (seat other : ℕ) (s : MachineView) (apart : other ≢ seat) (on : IsLowOnSeat parts other s) where
  pub undone-others : (attempt : Attempt) (reason : UndoReason) → IsLowOnSeat (has_undone seat attempt reason parts) other s
  undone-others attempt reason =
      let mid = with_task seat (Task.Undoing attempt reason) (with_memory (undone_last seat parts.memory) parts) in
      stays-on parts (has_undone seat attempt reason parts) other s
      (ap (λ (ts : List Task). task_at ts other) (turn-tasks mid) ∙ task_else parts.tasks seat (Task.Undoing attempt reason) other apart)
      (ap (λ (d : MemoryView Val). row_at d.rows other) (turn-memory mid) ∙ row_set_else parts.memory.rows seat other _ apart)
      (λ a e. ap (λ (pool : Roster Tree). term_at pool a.tried.number) (turn-pool mid)) on

  pub gone-others : (attempt : Attempt) (reason : UndoReason) → IsLowOnSeat (has_gone_home seat attempt reason parts) other s
  gone-others attempt reason =
      let mid = with_task seat Task.Idle (record parts {
        memory = undone_last seat parts.memory;
        pool = brought_home reason attempt.tried.number parts.pool;
        tried = with_try attempt parts.tried;
      }) in
      stays-on parts (has_gone_home seat attempt reason parts) other s
      (ap (λ (ts : List Task). task_at ts other) (turn-tasks mid) ∙ task_else parts.tasks seat Task.Idle other apart)
      (ap (λ (d : MemoryView Val). row_at d.rows other) (turn-memory mid) ∙ row_set_else parts.memory.rows seat other _ apart)
      (λ a e. ap (λ (pool : Roster Tree). term_at pool a.tried.number) (turn-pool mid) ∙ term-home reason attempt.tried.number a.tried.number parts.pool) on

-- Commits

working-member : (task : Task) (a : Attempt) → working task ≡ Some a → member_of task ≡ Some a.tried.number
working-member Task.Idle a e = cc
working-member (Task.Running b) a e = ap (λ (o : Option Attempt). elim o [ None ↦ None | Some x ↦ Some x.tried.number ]) e
working-member (Task.Free b) a e = ap (λ (o : Option Attempt). elim o [ None ↦ None | Some x ↦ Some x.tried.number ]) e
working-member (Task.Undoing b reason) a e = cc

-- another member than the one that is gone is found as before
except-else : (n i : ℕ) (ms : List (Member Tree)) → i ≢ n → find i (except n ms) ≡ find i ms
except-else n i [] apart = refl
except-else n i (m ∷ ms) apart = let rest = except-else n i ms apart in grind (arith, nat_tests, rest)

-- no two seats have one member
pub other-member : (parts : Parts) (stands : Simulates parts) (seat other : ℕ) → other ≢ seat → (number : ℕ) → member_of (task_at parts.tasks seat) ≡ Some number
    → (a : Attempt) → working (task_at parts.tasks other) ≡ Some a → a.tried.number ≢ number
other-member parts stands seat other apart number of a has = λ same.
    apart
    (stands.apart other seat a.tried.number (working-member (task_at parts.tasks other) a has) (of ∙ ap (λ (n : ℕ). Some n) (sym same)))

-- a member that runs is there
pub member-below : (parts : Parts) (stands : Simulates parts) (other : ℕ) (a : Attempt) → working (task_at parts.tasks other) ≡ Some a → a.tried.number < parts.next
member-below parts stands other a has =
    let i = a.tried.number in
    let b = busy-of parts stands.types other i (task_at parts.tasks other) (stands.seats other) (working-member (task_at parts.tasks other) a has) in
    let x = found-at parts.pool i (is_busy_as b.0) b.1 in by (cases_lt i parts.next) x.0 x.1
  where
    by : (a.tried.number < parts.next) ⊎ (parts.next ≤ a.tried.number) → (m : Member Tree) → find a.tried.number parts.pool.members ≡ Some m
        → a.tried.number < parts.next
    by (inl below) m found = below
    by (inr above) m found =
        absurd (let clash : ◌≡◌ {A = Option (Member Tree)} None (Some m) = sym (free-next parts stands a.tried.number above) ∙ found in cc)

module _ (parts : Parts) (stands : Simulates parts) (seat other : ℕ) (s : MachineView) (apart : other ≢ seat) (on : IsLowOnSeat parts other s)
    (attempt : Attempt) (task : task_at parts.tasks seat ≡ Task.Running attempt) (steps : ℕ) (p : LocalState) (ls : List ℕ) where
  abbrev woken_pool : Roster Tree
  woken_pool = woken_for ls parts.pool

  number-of : member_of (task_at parts.tasks seat) ≡ Some attempt.tried.number
  number-of = ap member_of task

  abbrev later_pool : Roster Tree
  later_pool = with_newcomers parts.next p.spawns woken_pool

  module _ (a : Attempt) (has : working (task_at parts.tasks other) ≡ Some a) where
    abbrev i : ℕ
    i = a.tried.number

    not-its : i ≢ attempt.tried.number
    not-its = other-member parts stands seat other apart attempt.tried.number number-of a has

    below : i < parts.next
    below = member-below parts stands other a has

    term-kept : (pool : Roster Tree) → find i pool.members ≡ find i later_pool.members → term_at pool i ≡ term_at parts.pool i
    term-kept pool same =
        let k =
        keeps-on parts.pool woken_pool pool i (woken-keeps ls parts.pool i)
        (keeps-on woken_pool later_pool pool i (newcomers-keep parts.next p.spawns woken_pool (woken-free parts.next ls parts.pool (free-next parts stands)) i below)
        (keeps-same later_pool pool i same)) in
        ap (λ (o : Option Tree). unwrap_or o unit_tree) k.machine

  pub ended-others : IsLowOnSeat (has_ended seat attempt.tried.number steps p ls parts) other s
  ended-others =
      stays-on parts (has_ended seat attempt.tried.number steps p ls parts) other s (task_else parts.tasks seat Task.Idle other apart)
      (row_set_else parts.memory.rows seat other no_log apart)
      (λ a has. term-kept a has (removed attempt.tried.number later_pool) (except-else attempt.tried.number a.tried.number later_pool.members (not-its a has))) on

  pub left-others : IsLowOnSeat (has_left seat attempt.tried.number steps p ls parts) other s
  left-others =
      stays-on parts (has_left seat attempt.tried.number steps p ls parts) other s (task_else parts.tasks seat Task.Idle other apart)
      (row_set_else parts.memory.rows seat other no_log apart)
      (λ a has.
      term-kept a has (exchanged attempt.tried.number p.term true later_pool)
      ((found_altered attempt.tried.number (renewed p.term true) (λ _. refl) later_pool.members).others a.tried.number (not-its a has))) on
