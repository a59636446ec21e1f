-- An event of a seat leaves the slots of the other seats.
use Rattle.std.proofs.Common.{◌≡◌, ◌≢◌, ℕ, zero, suc, ◌+◌, ◌<◌, ◌≤◌, ◌⊎◌, inl, inr, Bool, true, false, List, [], ◌∷◌, map, set, Option, Some, None, refl, sym, ap, ◌∙◌, arith}
use Rattle.std.proofs.lemmas.Bool.{cases_lt}
use Rattle.std.proofs.lemmas.Bool.Decides.{nat_tests}
use Rattle.std.specs.Prelude.{slice_set, unwrap_or, if◌then◌else◌}
use Rattle.std.specs.List.{range_with_len}
use Rattle.ame_term.specs.Tree.{Val, Tree, unit_tree}
use Rattle.ame_term.specs.declared.types.Loc.{Loc}
use Rattle.ame_term.specs.declared.types.Sort.{Sort}
use Rattle.ame_term.specs.declared.types.TyNo.{TyNo}
use Rattle.ame_pool.specs.declared.member.Member.{Member}
use Rattle.ame_pool.specs.Members.{find, except}
use Rattle.ame_pool.specs.Roster.{Roster}
use Rattle.ame_pool.specs.Calls.{begun, held, noted_on, noted, renewed, exchanged, removed}
use Rattle.ame_pool.specs.Keeps.{is_inside_at}
use Rattle.ame_pool.proofs.MemberLemmas.{found_altered}
use Rattle.ame_machine.specs.Run.Local.{LocalState}
use Rattle.ame_rows.specs.MemoryView.{Log, MemoryView, no_log, row_at}
use Rattle.ame_rows.specs.LettingGo.{undone_last}
use Rattle.ame_rows.proofs.LookupLemmas.{row_set_else}
use Rattle.ame_protocol.specs.Row.Waiting.{read_places}
use Rattle.ame_protocol.specs.declared.types.Attempt.{Attempt}
use Rattle.ame_protocol.specs.declared.types.UndoReason.{UndoReason}
use Rattle.ame_protocol.specs.declared.types.Task.{Task}
use Rattle.ame_protocol.specs.Engine.Parts.{Parts, task_at, member_of, term_at}
use Rattle.ame_protocol.specs.Engine.Simulates.{Simulates}
use Rattle.ame_protocol.specs.Engine.Tasks.{is_busy_as}
use Rattle.ame_protocol.specs.Engine.Events.{one_turn, undo_turn, with_memory, with_task, with_try, fresh_attempt, begun_task, has_begun, has_read, has_written, has_allocated, checked_attempt, has_checked, has_turned_back, has_undone, brought_home, has_gone_home, woken_for, with_newcomers, has_ended, has_left}
use Rattle.ame_protocol.proofs.Engine.PoolLemmas.{machines-stay, found-at}
use Rattle.ame_protocol.proofs.Engine.StepLemmas.{task_else}
use Rattle.ame_protocol.proofs.Engine.HomeLemmas.{busy-of}
use Rattle.ame_protocol.proofs.Engine.GrowthLemmas.{Keeps, keeps-on, keeps-same, woken-keeps, woken-free, newcomers-keep}
use Rattle.ame_protocol.proofs.Engine.CommitLemmas.{free-next}
use Rattle.ame_protocol.specs.Waits.Noted.{has_noted}
use Rattle.ame_protocol.specs.Visits.Stops.{told_task, has_been_cut, has_grown_tall}
use Rattle.ame_protocol.specs.Visits.Visit.{has_visited, has_been_refused}
use Rattle.ame_shell.proofs.EndsLemmas.{term-home}
use Rattle.ame_worker.specs.Slots.{SlotsStay, start_of, slot_at}
use Rattle.ame_worker.proofs.IdleLemmas.{slot-same}

-- the member of each other seat keeps its term
abbrev TermsStay : ℕ → Parts → Roster Tree → Type 0
TermsStay seat parts pool = (other : ℕ) → other ≢ seat → (i : ℕ) → member_of (task_at parts.tasks other) ≡ Some i → term_at pool i ≡ term_at parts.pool i

-- where task, logs and the term of its member stay
slot-stays : (parts new : Parts) (other : ℕ) → task_at new.tasks other ≡ task_at parts.tasks other → row_at new.memory.rows other ≡ row_at parts.memory.rows other
    → ((i : ℕ) → member_of (task_at parts.tasks other) ≡ Some i → term_at new.pool i ≡ term_at parts.pool i) → slot_at new other ≡ slot_at parts other
slot-stays parts new other task row term =
    slot-same (slot_at new other) (slot_at parts other) task row (ap (start_of new.pool) task ∙ start (task_at parts.tasks other) term)
  where
    start : (t : Task) → ((i : ℕ) → member_of t ≡ Some i → term_at new.pool i ≡ term_at parts.pool i) → start_of new.pool t ≡ start_of parts.pool t
    start Task.Idle same = refl
    start (Task.Running attempt) same = same attempt.tried.number refl
    start (Task.Free attempt) same = same attempt.tried.number refl
    start (Task.Undoing attempt reason) same = same attempt.tried.number refl

-- An event by what it makes of tasks, logs and pool

-- another task of the seat
task-stays : (parts new : Parts) (seat : ℕ) (task : Task) → new.tasks ≡ (with_task seat task parts).tasks → new.memory.rows ≡ parts.memory.rows
    → TermsStay seat parts new.pool → SlotsStay seat parts new
task-stays parts new seat task is rows terms other apart =
    slot-stays parts new other (ap (λ (ts : List Task). task_at ts other) is ∙ task_else parts.tasks seat task other apart)
    (ap (λ (all : List (Log Val)). row_at all other) rows) (terms other apart)

-- other logs of it
row-stays : (parts new : Parts) (seat : ℕ) (notes : Log Val) → new.tasks ≡ parts.tasks → new.memory.rows ≡ set parts.memory.rows seat notes
    → TermsStay seat parts new.pool → SlotsStay seat parts new
row-stays parts new seat notes is rows terms other apart =
    slot-stays parts new other (ap (λ (ts : List Task). task_at ts other) is)
    (ap (λ (all : List (Log Val)). row_at all other) rows ∙ row_set_else parts.memory.rows seat other notes apart) (terms other apart)

-- or both
both-stay : (parts new : Parts) (seat : ℕ) (task : Task) (notes : Log Val) → new.tasks ≡ (with_task seat task parts).tasks
    → new.memory.rows ≡ set parts.memory.rows seat notes → TermsStay seat parts new.pool → SlotsStay seat parts new
both-stay parts new seat task notes is rows terms other apart =
    slot-stays parts new other (ap (λ (ts : List Task). task_at ts other) is ∙ task_else parts.tasks seat task other apart)
    (ap (λ (all : List (Log Val)). row_at all other) rows ∙ row_set_else parts.memory.rows seat other notes apart) (terms other apart)

-- Terms in the pool

term-held : (number i : ℕ) (pool : Roster Tree) → term_at (held number pool) i ≡ term_at pool i
term-held number i pool =
    ap (λ (o : Option Tree). unwrap_or o unit_tree)
    (machines-stay number begun pool.members (held number pool).members (found_altered number begun (λ _. refl) pool.members) (λ _. refl) (λ _. refl) i)

term-noted : (number : ℕ) (places : List ℕ) (i : ℕ) (pool : Roster Tree) → term_at (noted number places pool) i ≡ term_at pool i
term-noted number places i pool =
    ap (λ (o : Option Tree). unwrap_or o unit_tree)
    (machines-stay number (noted_on places) pool.members (noted number places pool).members (found_altered number (noted_on places) (λ _. refl) pool.members)
    (λ _. refl) (λ _. refl) i)

-- another member than the one that is gone is found as before
except-else : (n i : ℕ) (ms : List (Member Tree)) → i ≢ n → find i (except n ms) ≡ find i ms
except-else n i [] apart = refl
except-else n i (m ∷ ms) apart = let rest = except-else n i ms apart in grind (arith, nat_tests, rest)

-- Events that begin or go on

module _ (parts : Parts) (seat : ℕ) where
  pub begun-stays : (number : ℕ) → SlotsStay seat parts (has_begun seat number parts)
  begun-stays number =
      task-stays parts (has_begun seat number parts) seat (begun_task (is_inside_at parts.pool.members number) (fresh_attempt number parts)) refl refl
      (λ other apart i has. term-held number i parts.pool)

  pub read-stays : (l : Loc) → SlotsStay seat parts (has_read seat l parts)
  read-stays l = row-stays parts (has_read seat l parts) seat _ refl refl (λ other apart i has. refl)

  pub written-stays : (l : Loc) (v : Val) → SlotsStay seat parts (has_written seat l v parts)
  written-stays l v = row-stays parts (has_written seat l v parts) seat _ refl refl (λ other apart i has. refl)

  pub allocated-stays : (sort : Sort) (ty : TyNo) (v : Val) → SlotsStay seat parts (has_allocated seat sort ty v parts)
  allocated-stays sort ty v = row-stays parts (has_allocated seat sort ty v parts) seat _ refl refl (λ other apart i has. refl)

  pub checked-stays : (steps : ℕ) (attempt : Attempt) → SlotsStay seat parts (has_checked seat steps attempt parts)
  checked-stays steps attempt =
      task-stays parts (has_checked seat steps attempt parts) seat (Task.Running (checked_attempt steps attempt parts)) refl refl (λ other apart i has. refl)

  pub back-stays : (attempt : Attempt) → SlotsStay seat parts (has_turned_back seat attempt parts)
  back-stays attempt = task-stays parts (has_turned_back seat attempt parts) seat (Task.Undoing attempt UndoReason.RolledBack) refl refl (λ other apart i has. refl)

  pub noted-stays : (attempt : Attempt) (steps : ℕ) (p : LocalState) → SlotsStay seat parts (has_noted seat attempt steps p parts)
  noted-stays attempt steps p =
      task-stays parts (has_noted seat attempt steps p parts) seat (Task.Undoing (record attempt { logged = true }) UndoReason.Noted) refl refl
      (λ other apart i has. term-noted attempt.tried.number (read_places (row_at parts.memory.rows seat).reads) i parts.pool)

  pub cut-stays : (number steps : ℕ) (p : LocalState) (task : Task) → SlotsStay seat parts (has_been_cut seat number steps p task parts)
  cut-stays number steps p task = task-stays parts (has_been_cut seat number steps p task parts) seat (told_task task) refl refl (λ other apart i has. refl)

  pub tall-stays : (number steps : ℕ) (p : LocalState) (task : Task) → SlotsStay seat parts (has_grown_tall seat number steps p task parts)
  tall-stays number steps p task = task-stays parts (has_grown_tall seat number steps p task parts) seat (told_task task) refl refl (λ other apart i has. refl)

  pub refused-stays : (number : ℕ) → SlotsStay seat parts (has_been_refused seat number parts)
  refused-stays number =
      task-stays parts (has_been_refused seat number parts) seat Task.Idle refl refl (λ other apart i has. term-home UndoReason.Stopped number i parts.pool)

  -- Undos: one counts a turn while no stop is kept

  turn-stays : (mid : Parts) → SlotsStay seat parts mid → SlotsStay seat parts (undo_turn mid)
  turn-stays mid stays = by mid.stopped
    where
      by : (b : Bool) → SlotsStay seat parts (if b then mid else one_turn mid)
      by true = stays
      by false = stays

  pub undone-stays : (attempt : Attempt) (reason : UndoReason) → SlotsStay seat parts (has_undone seat attempt reason parts)
  undone-stays attempt reason =
      let mid = with_task seat (Task.Undoing attempt reason) (with_memory (undone_last seat parts.memory) parts) in
      turn-stays mid (both-stay parts mid seat (Task.Undoing attempt reason) _ refl refl (λ other apart i has. refl))

  pub gone-stays : (attempt : Attempt) (reason : UndoReason) → SlotsStay seat parts (has_gone_home seat attempt reason parts)
  gone-stays attempt reason =
      let mid = with_task seat Task.Idle (record parts {
        memory = undone_last seat parts.memory;
        pool = brought_home reason attempt.tried.number parts.pool;
        tried = with_try attempt parts.tried;
      }) in
      turn-stays mid (both-stay parts mid seat Task.Idle _ refl refl (λ other apart i has. term-home reason attempt.tried.number i parts.pool))

-- Commits and visits, which take in new members

module _ (parts : Parts) (stands : Simulates parts) where
  -- a member that a seat has at work is there
  member-below : (other i : ℕ) → member_of (task_at parts.tasks other) ≡ Some i → i < parts.next
  member-below other i has =
      let b = busy-of parts stands.types other i (task_at parts.tasks other) (stands.seats other) has in
      let x = found-at parts.pool i (is_busy_as b.0) b.1 in by (cases_lt i parts.next) x.0 x.1
    where
      by : (i < parts.next) ⊎ (parts.next ≤ i) → (m : Member Tree) → find i parts.pool.members ≡ Some m → i < parts.next
      by (inl below) m found = below
      by (inr above) m found = absurd (let clash : ◌≡◌ {A = Option (Member Tree)} None (Some m) = sym (free-next parts stands i above) ∙ found in cc)

  module _ (seat number : ℕ) (of : member_of (task_at parts.tasks seat) ≡ Some number) where
    member-apart : (other : ℕ) → other ≢ seat → (i : ℕ) → member_of (task_at parts.tasks other) ≡ Some i → i ≢ number
    member-apart other apart i has = λ same. apart (stands.apart other seat i has (of ∙ ap (λ (n : ℕ). Some n) (sym same)))

    -- a pool in which members but this one stand as before, once new ones joined one with members woken
    terms-by : (ls : List ℕ) (bodies : List Tree) (pool : Roster Tree)
        → ((i : ℕ) → i ≢ number → find i pool.members ≡ find i (with_newcomers parts.next bodies (woken_for ls parts.pool)).members) → TermsStay seat parts pool
    terms-by ls bodies pool found other apart i has =
        let woken = woken_for ls parts.pool in
        let later = with_newcomers parts.next bodies woken in
        let k : Keeps parts.pool pool i =
        keeps-on parts.pool woken pool i (woken-keeps ls parts.pool i)
        (keeps-on woken later pool i
        (newcomers-keep parts.next bodies woken (woken-free parts.next ls parts.pool (free-next parts stands)) i (member-below other i has))
        (keeps-same later pool i (found i (member-apart other apart i has)))) in
        ap (λ (o : Option Tree). unwrap_or o unit_tree) k.machine

    pub ended-stays : (steps : ℕ) (p : LocalState) (ls : List ℕ) → SlotsStay seat parts (has_ended seat number steps p ls parts)
    ended-stays steps p ls =
        let later = with_newcomers parts.next p.spawns (woken_for ls parts.pool) in
        both-stay parts (has_ended seat number steps p ls parts) seat Task.Idle no_log refl refl
        (terms-by ls p.spawns (removed number later) (λ i differs. except-else number i later.members differs))

    pub left-stays : (steps : ℕ) (p : LocalState) (ls : List ℕ) → SlotsStay seat parts (has_left seat number steps p ls parts)
    left-stays steps p ls =
        let later = with_newcomers parts.next p.spawns (woken_for ls parts.pool) in
        both-stay parts (has_left seat number steps p ls parts) seat Task.Idle no_log refl refl
        (terms-by ls p.spawns (exchanged number p.term true later)
        (λ i differs. (found_altered number (renewed p.term true) (λ _. refl) later.members).others i differs))

    pub visited-stays : (steps : ℕ) (p : LocalState) (inside : Bool) (memory : MemoryView Val) → memory.rows ≡ parts.memory.rows
        → SlotsStay seat parts (has_visited seat number steps p inside memory parts)
    visited-stays steps p inside memory rows =
        let later = with_newcomers parts.next p.spawns parts.pool in
        task-stays parts (has_visited seat number steps p inside memory parts) seat Task.Idle refl rows
        (terms-by [] p.spawns (exchanged number p.term inside later)
        (λ i differs. (found_altered number (renewed p.term inside) (λ _. refl) later.members).others i differs))

-- Lists of all seats

module _ {X : Type 0} (f g : ℕ → X) (j : ℕ) (same : (k : ℕ) → k ≢ j → f k ≡ g k) where
  -- functions that differ at one number differ nowhere past it
  map-past : (a n : ℕ) → j < a → map f (range_with_len a n) ≡ map g (range_with_len a n)
  map-past a zero past = refl
  map-past a (suc n) past =
      ap (λ y. y ∷ map f (range_with_len (a + 1) n)) (same a (λ e. omega (arith, e, past))) ∙ ap (λ ys. g a ∷ ys) (map-past (a + 1) n (omega arith))

  -- and their lists at one place
  pub map-set : (a n i : ℕ) → a + i ≡ j → map f (range_with_len a n) ≡ slice_set (map g (range_with_len a n)) i (f j)
  map-set a zero i e = refl
  map-set a (suc n) zero e =
      let here : a ≡ j = omega (arith, e) in
      ap (λ y. y ∷ map f (range_with_len (a + 1) n)) (ap f here) ∙ ap (λ ys. f j ∷ ys) (map-past (a + 1) n (omega (arith, here)))
  map-set a (suc n) (suc i) e =
      ap (λ y. y ∷ map f (range_with_len (a + 1) n)) (same a (λ is. omega (arith, e, is))) ∙ ap (λ ys. g a ∷ ys) (map-set (a + 1) n i (omega (arith, e)))
