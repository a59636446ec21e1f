-- A seat undoes its last entry.
use Rattle.std.proofs.Common.{◌≡◌, ℕ, zero, suc, ◌+◌, ◌-◌, Bool, true, false, cond, List, [], ◌∷◌, map, take, length, All, Option, Some, None, refl, ap, ◌∙◌, subst}
use Rattle.std.specs.Prelude.{slice_get, slice_set, nat_lt, is_some, if◌then◌else◌}
use Rattle.std.specs.Option.{option_map_or}
use Rattle.std.proofs.lemmas.List.Elements.{All-set, All-take, All-nil, All-cons, All-head, All-tail}
use Rattle.ame_term.specs.Tree.{Val, Tree}
use Rattle.ame_term.specs.declared.types.Sort.{Sort}
use Rattle.ame_store.specs.declared.cell.Cell.{Cell}
use Rattle.ame_store.specs.Cells.{CanGrow}
use Rattle.ame_rows.specs.declared.notes.Undo.{Undo}
use Rattle.ame_rows.specs.declared.notes.Undo.TheVariants.{Wrote, Made}
use Rattle.ame_pool.specs.declared.member.Member.{Member}
use Rattle.ame_pool.specs.Roster.{Roster}
use Rattle.ame_pool.specs.Calls.{at_home, at_rest}
use Rattle.ame_rows.specs.MemoryView.{Log, MemoryView, no_log, row_at}
use Rattle.ame_rows.specs.Entries.{named_by}
use Rattle.ame_rows.specs.Access.{changed_at}
use Rattle.ame_rows.specs.LettingGo.{undone_by, last_entry, notes_undone, undone_last}
use Rattle.ame_protocol.specs.Row.Shown.{shown_cell}
use Rattle.ame_protocol.specs.declared.types.Attempt.{Attempt}
use Rattle.ame_protocol.specs.declared.types.UndoReason.{UndoReason}
use Rattle.ame_protocol.specs.declared.types.Task.{Task}
use Rattle.ame_protocol.specs.Engine.Parts.{Parts, task_at, attempt_of}
use Rattle.ame_protocol.specs.Engine.Shown.{shown_pool}
use Rattle.ame_protocol.specs.Engine.Events.{brought_home, with_try, has_undone, has_gone_home}
use Rattle.ame_protocol.proofs.Engine.ShownMemoryLemmas.{undo-shown}
use Rattle.ame_protocol.proofs.Engine.ShownPoolLemmas.{home-shown, parked-shown}
use Rattle.ame_protocol.specs.declared.counters.Counters.{Counters}
use Rattle.ame_engine.specs.Core.{Core}
use Rattle.ame_protocol.specs.Event.Counting.{one_undone}
use Rattle.ame_engine.specs.Seen.{parts_of, term_shown, MakesEvent}
use Rattle.ame_engine.specs.Whole.{IsGoodUndo, IsGoodLog, IsGoodMemory, IsAtRest, IsSound}
use Rattle.ame_protocol.specs.Event.Undoing.{reason_to_undo, home_for}
use Rattle.ame_engine.proofs.MemberLemmas.{all_altered}
use Rattle.ame_engine.proofs.ReadLemmas.{row-good}
use Rattle.ame_machine.specs.Meaning.{Meaning}
use Rattle.ame_machine.specs.RefSorts.{IsRefForm}

-- what all pass, one that is there passes
all-get : {A : Type 0} (P : A → Type 0) (xs : List A) (i : ℕ) (x : A) → All P xs → slice_get xs i ≡ Some x → P x
all-get P [] i x all e = absurd (let clash : None ≡ Some x = e in cc)
all-get P (y ∷ xs) zero x all e = let same : y ≡ x = cc in subst P same (All-head P y xs all)
all-get P (y ∷ xs) (suc i) x all e = all-get P xs i x (All-tail P y xs all) e

-- Good values

module _ {V : Type 0} (IsGood : V → Type 0) (IsForm : Sort → ℕ → Type 0) where
  undone-good : (u : Undo V) (cell : Cell V) → IsGoodUndo IsGood u → IsGood cell.value → IsGood (undone_by u cell).value
  undone-good (Wrote l number old) cell its good = its
  undone-good (Made l) cell its good = good

  undone-form : (u : Undo V) (cell : Cell V) → IsForm cell.sort cell.ty.0 → IsForm (undone_by u cell).sort (undone_by u cell).ty.0
  undone-form (Wrote l number old) cell form = form
  undone-form (Made l) cell form = form

  module _ (seat : ℕ) (c : MemoryView V) (whole : IsGoodMemory IsGood IsForm c) where
    abbrev row : Log V
    row = row_at c.rows seat

    good : IsGoodLog IsGood row
    good = row-good IsGood c.rows seat whole.rows

    changed-by : (u : Undo V) → IsGoodUndo IsGood u → (o : Option (Cell V)) → slice_get c.cells (named_by u) ≡ o
        → All (λ cell. IsGood cell.value) (option_map_or (λ cell. slice_set c.cells (named_by u) (undone_by u cell)) o c.cells)
    changed-by u its None e = whole.cells
    changed-by u its (Some cell) e =
        All-set (λ (cell : Cell V). IsGood cell.value) c.cells (named_by u) (undone_by u cell)
        (undone-good u cell its (all-get (λ (cell : Cell V). IsGood cell.value) c.cells (named_by u) cell whole.cells e)) whole.cells

    cells-by : (o : Option (Undo V)) → last_entry row.undos ≡ o
        → All (λ cell. IsGood cell.value) (option_map_or (λ u. changed_at (named_by u) (undone_by u) c.cells) o c.cells)
    cells-by None e = whole.cells
    cells-by (Some u) e =
        changed-by u (all-get (IsGoodUndo IsGood) row.undos (length row.undos - 1) u good.undos e) (slice_get c.cells (named_by u)) refl

    forms-by : (o : Option (Undo V)) → All (λ cell. IsForm cell.sort cell.ty.0) (option_map_or (λ u. changed_at (named_by u) (undone_by u) c.cells) o c.cells)
    forms-by None = whole.forms
    forms-by (Some u) = at-cell (slice_get c.cells (named_by u)) refl
      where
        at-cell : (o : Option (Cell V)) → slice_get c.cells (named_by u) ≡ o
            → All (λ cell. IsForm cell.sort cell.ty.0) (option_map_or (λ cell. slice_set c.cells (named_by u) (undone_by u cell)) o c.cells)
        at-cell None e = whole.forms
        at-cell (Some cell) e =
            All-set (λ (cell : Cell V). IsForm cell.sort cell.ty.0) c.cells (named_by u) (undone_by u cell)
            (undone-form u cell (all-get (λ (cell : Cell V). IsForm cell.sort cell.ty.0) c.cells (named_by u) cell whole.forms e)) whole.forms

    notes-by : (b : Bool) → IsGoodLog IsGood (cond b (record row { undos = take (length row.undos - 1) row.undos }) no_log)
    notes-by true = record { inputs = good.inputs; undos = All-take (IsGoodUndo IsGood) (length row.undos - 1) row.undos good.undos }
    notes-by false = record { inputs = All-nil IsGood; undos = All-nil (IsGoodUndo IsGood) }

    pub undo-good : IsGoodMemory IsGood IsForm (undone_last seat c)
    undo-good = record {
      cells = cells-by (last_entry row.undos) refl;
      forms = forms-by (last_entry row.undos);
      rows = All-set (IsGoodLog IsGood) c.rows seat (notes_undone row) (notes-by (nat_lt 1 (length row.undos))) whole.rows;
    }

-- numbers are far from the last one where those of the shown cells are
pub grow-shown : {V : Type 0} (view : V → Val) (cells : List (Cell V)) → All CanGrow (map (shown_cell view) cells) → All CanGrow cells
grow-shown view [] all = All-nil CanGrow
grow-shown view (cell ∷ cells) all = let later = grow-shown view cells (All-tail CanGrow (shown_cell view cell) (map (shown_cell view) cells) all) in
    All-cons CanGrow cell cells (All-head CanGrow (shown_cell view cell) (map (shown_cell view) cells) all) later

-- The member goes home

module _ {M : Type 0} where
  rest-home : (P : Member M → Type 0) → ((b : Bool) (m : Member M) → P m → P (at_home b m)) → ((m : Member M) → P m → P (at_rest m))
      → (reason : UndoReason) (n : ℕ) (pool : Roster M) → All P pool.members → All P (home_for reason n pool).members
  rest-home P at rests UndoReason.RolledBack n pool all = all_altered n (at_home true) P (at true) pool.members all
  rest-home P at rests UndoReason.Noted n pool all = all_altered n at_rest P rests pool.members all
  rest-home P at rests UndoReason.Stopped n pool all = all_altered n (at_home false) P (at false) pool.members all

  gone-shown : (term : M → Tree) (reason : UndoReason) (n : ℕ) (pool : Roster M) → shown_pool term (home_for reason n pool) ≡ brought_home reason n (shown_pool term pool)
  gone-shown term UndoReason.RolledBack n pool = home-shown term n true pool
  gone-shown term UndoReason.Noted n pool = parked-shown term n pool
  gone-shown term UndoReason.Stopped n pool = home-shown term n false pool

-- The whole engine

module _ {C V M : Type 0} (meaning : Meaning C V M) where
  module _ (core : Core C V M) (whole : IsSound meaning core) (seat : ℕ) (attempt : Attempt)
      (has : attempt_of (task_at core.tasks seat) ≡ Some attempt) where
    abbrev parts : Parts
    parts = parts_of meaning core

    abbrev task : Task
    task = task_at core.tasks seat

    abbrev reason : UndoReason
    reason = reason_to_undo task

    abbrev undo_turns : ℕ
    undo_turns = if is_some core.stop then core.turns else core.turns + 1

    abbrev undo_counters : Counters
    undo_counters = one_undone (is_some core.stop) core.counters

    -- other entries are left
    abbrev pub undone_core : Core C V M
    undone_core = record core {
      memory = undone_last seat core.memory;
      tasks = slice_set core.tasks seat (Task.Undoing attempt reason);
      turns = undo_turns;
      counters = undo_counters;
    }

    abbrev undone-with : MemoryView Val → ℕ → Parts
    undone-with memory turns = record parts { memory = memory; tasks = slice_set core.tasks seat (Task.Undoing attempt reason); turns = turns }

    abbrev last : MemoryView Val
    last = undone_last seat parts.memory

    undone-by_stop : (b : Bool) → undone-with last (if b then core.turns else core.turns + 1)
        ≡ (if b then undone-with last core.turns else undone-with last (core.turns + 1))
    undone-by_stop true = refl
    undone-by_stop false = refl

    undone-parts : parts_of meaning undone_core ≡ has_undone seat attempt reason parts
    undone-parts = ap (λ (d : MemoryView Val). undone-with d undo_turns) (undo-shown (meaning.value_of core.code) seat core.memory) ∙ undone-by_stop (is_some core.stop)

    pub undo-memory : IsGoodMemory (meaning.is_value core.code) (IsRefForm (meaning.program core.code)) undone_core.memory
    undo-memory = undo-good (meaning.is_value core.code) (IsRefForm (meaning.program core.code)) seat core.memory whole.memory

    pub undone-makes : MakesEvent meaning (one_undone (is_some core.stop)) (has_undone seat attempt reason) core undone_core
    undone-makes = record { code = refl; parts = undone-parts; counted = refl; stop = refl }

    -- none is left
    abbrev pub gone_core : Core C V M
    gone_core = record core {
      memory = undone_last seat core.memory;
      tasks = slice_set core.tasks seat Task.Idle;
      pool = home_for reason attempt.tried.number core.pool;
      turns = undo_turns;
      counters = undo_counters;
      tried = with_try attempt core.tried;
    }

    abbrev gone-with : MemoryView Val → Roster Tree → ℕ → Parts
    gone-with memory pool turns =
        record parts { memory = memory; tasks = slice_set core.tasks seat Task.Idle; pool = pool; turns = turns; tried = with_try attempt core.tried }

    abbrev home_pool : Roster Tree
    home_pool = brought_home reason attempt.tried.number parts.pool

    gone-by_stop : (b : Bool) → gone-with last home_pool (if b then core.turns else core.turns + 1)
        ≡ (if b then gone-with last home_pool core.turns else gone-with last home_pool (core.turns + 1))
    gone-by_stop true = refl
    gone-by_stop false = refl

    gone-parts : parts_of meaning gone_core ≡ has_gone_home seat attempt reason parts
    gone-parts =
        ap (λ (d : MemoryView Val). gone-with d (shown_pool (term_shown meaning.stage core.code) (home_for reason attempt.tried.number core.pool)) undo_turns)
        (undo-shown (meaning.value_of core.code) seat core.memory)
        ∙ ap (λ (p : Roster Tree). gone-with last p undo_turns) (gone-shown (term_shown meaning.stage core.code) reason attempt.tried.number core.pool)
        ∙ gone-by_stop (is_some core.stop)

    pub gone-rests : All (IsAtRest meaning.is_machine meaning.stage core.code) gone_core.pool.members
    gone-rests = rest-home (IsAtRest meaning.is_machine meaning.stage core.code) (λ b m r. record { machine = r.machine; rests = r.rests })
        (λ m r. record { machine = r.machine; rests = r.rests }) reason attempt.tried.number core.pool whole.members

    pub gone-makes : MakesEvent meaning (one_undone (is_some core.stop)) (has_gone_home seat attempt reason) core gone_core
    gone-makes = record { code = refl; parts = gone-parts; counted = refl; stop = refl }
