-- The turns stay paid: undos, and the way home.
use Rattle.std.proofs.Common.{◌≡◌, ℕ, ◌+◌, ◌-◌, ◌*◌, ◌<◌, ◌≤◌, Bool, true, false, cond, length, set, Option, Some, None, refl, sym, ap, ◌∙◌, subst, arith}
use Rattle.std.specs.Prelude.{if◌then◌else◌, nat_lt}
use Rattle.std.proofs.Math.Nat.{div-le_self}
use Rattle.std.proofs.lemmas.List.{length-take-le}
use Rattle.std.proofs.lemmas.Bool.Decides.{nat_tests}
use Rattle.ame_term.specs.Tree.{Val}
use Rattle.ame_rows.specs.MemoryView.{MemoryView, Log, no_log, row_at}
use Rattle.ame_rows.specs.LettingGo.{but_last, notes_undone, undone_last}
use Rattle.ame_rows.proofs.LookupLemmas.{row_set_here, row_set_else}
use Rattle.ame_protocol.specs.declared.types.Attempt.{Attempt}
use Rattle.ame_protocol.specs.declared.types.UndoReason.{UndoReason}
use Rattle.ame_protocol.specs.declared.types.Task.{Task}
use Rattle.ame_protocol.specs.Engine.Parts.{Parts, task_at, attempt_of}
use Rattle.ame_protocol.specs.Engine.Tasks.{MeetsTask, Visits}
use Rattle.ame_protocol.specs.Engine.Simulates.{Simulates}
use Rattle.ame_protocol.specs.Engine.Events.{has_undone, has_gone_home}
use Rattle.ame_protocol.proofs.Engine.StepLemmas.{acted, task_else}
use Rattle.ame_protocol.proofs.Engine.HomeLemmas.{gone_parts}
use Rattle.ame_protocol.specs.Bounds.Spent.{used_at, allowance, undos_left, IsToldInTime, HasPaidTurns}
use Rattle.ame_protocol.proofs.Bounds.FewLemmas.{within, here}
use Rattle.ame_protocol.proofs.Bounds.PaidLemmas.{paid-step, untold, told-none, paid-try}

-- The log of a row, after its last entry is undone

fewer : (notes : Log Val) → 1 < length notes.undos → notes_undone notes ≡ record notes { undos = but_last notes.undos }
fewer notes some =
    let yes : nat_lt 1 (length notes.undos) ≡ true = grind (arith, nat_tests, some) in
    ap (λ (b : Bool). cond b (record notes { undos = but_last notes.undos }) no_log) yes

nothing : (notes : Log Val) → length notes.undos ≤ 1 → notes_undone notes ≡ no_log
nothing notes few =
    let no : nat_lt 1 (length notes.undos) ≡ false = grind (arith, nat_tests, few) in
    ap (λ (b : Bool). cond b (record notes { undos = but_last notes.undos }) no_log) no

one-fewer : (notes : Log Val) → 1 < length notes.undos → length (but_last notes.undos) ≡ length notes.undos - 1
one-fewer notes some = length-take-le (length notes.undos - 1) notes.undos (omega arith)

-- what is allowed to untold attempts grows with what it is
more-allowed : (told : Bool) (x y : ℕ) → x ≤ y → (if told then 0 else x) ≤ (if told then 0 else y)
more-allowed true x y h = omega arith
more-allowed false x y h = h

module _ (parts : Parts) (s : Simulates parts) (a : HasPaidTurns parts) (seat : ℕ) (attempt : Attempt) where
  abbrev row : Log Val
  row = row_at parts.memory.rows seat

  abbrev slice : ℕ
  slice = parts.limits.slice

  abbrev undone : MemoryView Val
  undone = undone_last seat parts.memory

  abbrev later_row : Log Val
  later_row = row_at undone.rows seat

  module _ (was : Task) (had : task_at parts.tasks seat ≡ was) (its : attempt_of was ≡ Some attempt) where
    has : attempt_of (task_at parts.tasks seat) ≡ Some attempt
    has = ap attempt_of had ∙ its

    in_rows : seat < length parts.memory.rows
    in_rows = let h = within parts s seat attempt has in let b = s.bounded.rows in omega arith

    row-is : later_row ≡ notes_undone row
    row-is = row_set_here parts.memory.rows seat (notes_undone row) in_rows

    -- Undos

    module _ (reason : UndoReason) (some : 1 < length row.undos) where
      abbrev now : Task
      now = Task.Undoing attempt reason

      later-inputs : length later_row.inputs ≡ length row.inputs
      later-inputs = ap (λ (notes : Log Val). length notes.inputs) (row-is ∙ fewer row some)

      later-undos : length later_row.undos ≡ length row.undos - 1
      later-undos = ap (λ (notes : Log Val). length notes.undos) (row-is ∙ fewer row some) ∙ one-fewer row some

      undone-by : (turns : ℕ) → turns + (undos_left later_row now + allowance slice row was) ≤ parts.turns + (undos_left row was + allowance slice later_row now)
          → (parts.stopped ≡ false → IsToldInTime now) → HasPaidTurns (acted undone (set parts.tasks seat now) turns parts)
      undone-by turns enough told =
          paid-step parts (acted undone (set parts.tasks seat now) turns parts) a seat was now (record {
            within = within parts s seat attempt has;
            limits = refl;
            had = had;
            has = here parts s seat attempt has now;
            tasks = λ k apart. task_else parts.tasks seat now k apart;
            rows = λ k apart. row_set_else parts.memory.rows seat k _ apart;
            turns = omega arith;
            inputs = λ x e. let h = a.inputs seat x (has ∙ e) in let i = later-inputs in omega arith;
            undos = let h = a.undos seat in let i = later-inputs in let u = later-undos in omega arith;
            going = λ h. h;
            told = told;
          })

      -- by whether a stop is kept
      pub undone-paid : (parts.stopped ≡ true → undos_left later_row now + allowance slice row was ≤ undos_left row was + allowance slice later_row now)
          → (parts.stopped ≡ false → 1 + (undos_left later_row now + allowance slice row was) ≤ undos_left row was + allowance slice later_row now)
          → (parts.stopped ≡ false → IsToldInTime now) → HasPaidTurns (has_undone seat attempt reason parts)
      undone-paid stopped going told = by parts.stopped refl
        where
          by : (b : Bool) → parts.stopped ≡ b → HasPaidTurns (if b then acted undone (set parts.tasks seat (Task.Undoing attempt reason)) parts.turns parts
              else acted undone (set parts.tasks seat (Task.Undoing attempt reason)) (parts.turns + 1) parts)
          by true e = undone-by parts.turns (let h = stopped e in omega arith) told
          by false e = undone-by (parts.turns + 1) (let h = going e in omega arith) told

    -- The way home

    home-by : (reason : UndoReason) (turns : ℕ) → length row.undos ≤ 1
        → turns + allowance slice row was ≤ parts.turns + (undos_left row was + (if attempt.logged then 0 else 3 * (attempt.tried.steps + slice + 1)))
        → HasPaidTurns (gone_parts seat attempt reason turns parts)
    home-by reason turns few enough =
        paid-step parts (gone_parts seat attempt reason turns parts) a seat was Task.Idle (record {
          within = within parts s seat attempt has;
          limits = refl;
          had = had;
          has = here parts s seat attempt has Task.Idle;
          tasks = λ k apart. task_else parts.tasks seat Task.Idle k apart;
          rows = λ k apart. row_set_else parts.memory.rows seat k _ apart;
          turns = let t = paid-try slice parts.entries attempt parts.tried in omega arith;
          inputs = λ x e. absurd (let clash : ◌≡◌ {A = Option Attempt} None (Some x) = e in cc);
          undos = let u = ap (λ (notes : Log Val). length notes.undos) (row-is ∙ nothing row few) in omega arith;
          going = λ h. h;
          told = λ h. tt;
        })

    pub home-paid : (reason : UndoReason) → length row.undos ≤ 1
        → (parts.stopped ≡ true → allowance slice row was ≤ undos_left row was + (if attempt.logged then 0 else 3 * (attempt.tried.steps + slice + 1)))
        → (parts.stopped ≡ false → 1 + allowance slice row was ≤ undos_left row was + (if attempt.logged then 0 else 3 * (attempt.tried.steps + slice + 1)))
        → HasPaidTurns (has_gone_home seat attempt reason parts)
    home-paid reason few stopped going = by parts.stopped refl
      where
        by : (b : Bool) → parts.stopped ≡ b
            → HasPaidTurns (if b then gone_parts seat attempt reason parts.turns parts else gone_parts seat attempt reason (parts.turns + 1) parts)
        by true e = home-by reason parts.turns few (let h = stopped e in omega arith)
        by false e = home-by reason (parts.turns + 1) few (let h = going e in omega arith)

    -- An attempt may have used fewer turns than those for which it pays, also if it is undone.
    used-few : used_at slice row attempt + (1 + (length row.inputs - length row.undos)) + 1 ≤ 3 * (attempt.tried.steps + slice + 1)
    used-few = let i = a.inputs seat attempt has in let d = div-le_self attempt.tried.steps slice in let z = a.some_slice in omega arith

  -- by the reason

  abbrev undoing : ℕ
  undoing = used_at slice row attempt + (1 + (length row.inputs - length row.undos))

  pub undoing-more : (reason : UndoReason) → task_at parts.tasks seat ≡ Task.Undoing attempt reason → 1 < length row.undos
      → HasPaidTurns (has_undone seat attempt reason parts)
  undoing-more reason task some =
      let told = (λ (going : parts.stopped ≡ false). subst IsToldInTime task (a.told going seat)) in
      undone-paid (Task.Undoing attempt reason) task refl reason some
      (λ e. stopped reason later_row (used_at slice later_row attempt + (1 + (length later_row.inputs - length later_row.undos)))
      (more-undoing later_row (later-undos (Task.Undoing attempt reason) task refl reason some)
      (later-inputs (Task.Undoing attempt reason) task refl reason some) some)
      (later-undos (Task.Undoing attempt reason) task refl reason some))
      (λ going. counted reason later_row (used_at slice later_row attempt + (1 + (length later_row.inputs - length later_row.undos)))
      (more-undoing later_row (later-undos (Task.Undoing attempt reason) task refl reason some)
      (later-inputs (Task.Undoing attempt reason) task refl reason some) some)
      (later-undos (Task.Undoing attempt reason) task refl reason some) some (told going))
      told
    where
      more-undoing : (notes : Log Val) → length notes.undos ≡ length row.undos - 1 → length notes.inputs ≡ length row.inputs → 1 < length row.undos
          → undoing + 1 ≤ used_at slice notes attempt + (1 + (length notes.inputs - length notes.undos))
      more-undoing notes u i some = let low = a.undos seat in omega arith

      stopped : (reason : UndoReason) (notes : Log Val) (later : ℕ) → undoing + 1 ≤ later → length notes.undos ≡ length row.undos - 1
          → undos_left notes (Task.Undoing attempt reason) + (if attempt.logged then 0 else undoing)
          ≤ undos_left row (Task.Undoing attempt reason) + (if attempt.logged then 0 else later)
      stopped UndoReason.RolledBack notes later more u = let m = more-allowed attempt.logged undoing later (omega arith) in omega arith
      stopped UndoReason.Noted notes later more u = let m = more-allowed attempt.logged undoing later (omega arith) in omega arith
      stopped UndoReason.Stopped notes later more u = let m = more-allowed attempt.logged undoing later (omega arith) in omega arith

      counted : (reason : UndoReason) (notes : Log Val) (later : ℕ) → undoing + 1 ≤ later → length notes.undos ≡ length row.undos - 1
          → 1 < length row.undos → IsToldInTime (Task.Undoing attempt reason)
          → 1 + (undos_left notes (Task.Undoing attempt reason) + (if attempt.logged then 0 else undoing))
          ≤ undos_left row (Task.Undoing attempt reason) + (if attempt.logged then 0 else later)
      counted UndoReason.RolledBack notes later more u some told =
          let o = untold attempt.logged undoing told in let n = untold attempt.logged later told in omega arith
      counted UndoReason.Noted notes later more u some told =
          let o = told-none attempt.logged undoing told in let n = told-none attempt.logged later told in omega arith
      counted UndoReason.Stopped notes later more u some told = absurd told

  pub running-more : parts.stopped ≡ true → task_at parts.tasks seat ≡ Task.Running attempt → 1 < length row.undos
      → HasPaidTurns (has_undone seat attempt UndoReason.Stopped parts)
  running-more stopped task some =
      undone-paid (Task.Running attempt) task refl UndoReason.Stopped some
      (λ e. let h = less later_row (later-inputs (Task.Running attempt) task refl UndoReason.Stopped some) in omega arith)
      (λ going. absurd (clash going)) (λ going. absurd (clash going))
    where
      clash : parts.stopped ≡ false → ⊥
      clash going = let both : true ≡ false = sym stopped ∙ going in cc

      less : (notes : Log Val) → length notes.inputs ≡ length row.inputs
          → (if attempt.logged then 0 else used_at slice row attempt)
          ≤ (if attempt.logged then 0 else used_at slice notes attempt + (1 + (length notes.inputs - length notes.undos)))
      less notes i =
          more-allowed attempt.logged (used_at slice row attempt) (used_at slice notes attempt + (1 + (length notes.inputs - length notes.undos))) (omega arith)

  pub undoing-home : (reason : UndoReason) → task_at parts.tasks seat ≡ Task.Undoing attempt reason → length row.undos ≤ 1
      → HasPaidTurns (has_gone_home seat attempt reason parts)
  undoing-home reason task few =
      let enough = used-few (Task.Undoing attempt reason) task refl in
      home-paid (Task.Undoing attempt reason) task refl reason few
      (λ e. let m = more-allowed attempt.logged undoing (3 * (attempt.tried.steps + slice + 1)) (omega arith) in omega arith)
      (λ going. counted reason (3 * (attempt.tried.steps + slice + 1)) enough (subst IsToldInTime task (a.told going seat)))
    where
      counted : (reason : UndoReason) (pays : ℕ) → undoing + 1 ≤ pays → IsToldInTime (Task.Undoing attempt reason)
          → 1 + (if attempt.logged then 0 else undoing) ≤ undos_left row (Task.Undoing attempt reason) + (if attempt.logged then 0 else pays)
      counted UndoReason.RolledBack pays enough told =
          let o = untold attempt.logged undoing told in let n = untold attempt.logged pays told in omega arith
      counted UndoReason.Noted pays enough told =
          let o = told-none attempt.logged undoing told in let n = told-none attempt.logged pays told in omega arith
      counted UndoReason.Stopped pays enough told = absurd told

  -- once a stop is kept
  working-home : (was : Task) → task_at parts.tasks seat ≡ was → attempt_of was ≡ Some attempt
      → allowance slice row was ≡ (if attempt.logged then 0 else used_at slice row attempt) → parts.stopped ≡ true → length row.undos ≤ 1
      → HasPaidTurns (has_gone_home seat attempt UndoReason.Stopped parts)
  working-home was had its allowed stopped few =
      let enough = used-few was had its in
      home-paid was had its UndoReason.Stopped few
      (λ e. let m = more-allowed attempt.logged (used_at slice row attempt) (3 * (attempt.tried.steps + slice + 1)) (omega arith) in omega arith)
      (λ going. absurd (let both : true ≡ false = sym stopped ∙ going in cc))

  pub running-home : parts.stopped ≡ true → task_at parts.tasks seat ≡ Task.Running attempt → length row.undos ≤ 1
      → HasPaidTurns (has_gone_home seat attempt UndoReason.Stopped parts)
  running-home stopped task few = working-home (Task.Running attempt) task refl refl stopped few

  pub free-home : parts.stopped ≡ true → task_at parts.tasks seat ≡ Task.Free attempt → HasPaidTurns (has_gone_home seat attempt UndoReason.Stopped parts)
  free-home stopped task =
      let visits : Visits parts s.types seat attempt = subst (MeetsTask parts s.types seat) task (s.seats seat) in
      let none = ap (λ (notes : Log Val). length notes.undos) visits.clear in
      working-home (Task.Free attempt) task refl refl stopped (omega arith)
