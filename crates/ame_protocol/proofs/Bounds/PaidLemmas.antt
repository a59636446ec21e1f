-- The obligations of a seat's event for the turns to stay paid.
use Rattle.std.proofs.Common.{◌≡◌, ℕ, ◌+◌, ◌*◌, ◌<◌, ◌≤◌, ◌⊎◌, inl, inr, Bool, true, false, List, [], ◌∷◌, ◌++◌, length, Some, sym, ap, ◌∙◌, subst, arith}
use Rattle.std.specs.Prelude.{if◌then◌else◌}
use Rattle.std.proofs.lemmas.List.Sums.{sum_by_push}
use Rattle.ame_term.specs.Tree.{Val}
use Rattle.ame_journal.specs.declared.entry.Entry.{Entry}
use Rattle.ame_rows.specs.MemoryView.{Log, row_at}
use Rattle.ame_protocol.proofs.Row.CellLemmas.{which}
use Rattle.ame_protocol.specs.declared.types.Limits.{Limits}
use Rattle.ame_protocol.specs.declared.types.Tried.{Tried}
use Rattle.ame_protocol.specs.declared.types.Attempt.{Attempt}
use Rattle.ame_protocol.specs.declared.types.Task.{Task}
use Rattle.ame_protocol.specs.Engine.Parts.{Parts, task_at, attempt_of}
use Rattle.ame_protocol.specs.Engine.Events.{with_try}
use Rattle.ame_protocol.specs.Bounds.Seats.{over_seats}
use Rattle.ame_protocol.specs.Bounds.Spent.{paid, allowance, undos_left, allowances, all_undos_left, IsToldInTime, HasPaidTurns}
use Rattle.ame_protocol.proofs.Bounds.SeatLemmas.{over-one}

-- what an event leaves and makes
pub record PaidStep (old new : Parts) (seat : ℕ) (was now : Task) : Type 0 where
  pub within : seat < old.limits.seats
  pub limits : new.limits ≡ old.limits
  pub had : task_at old.tasks seat ≡ was
  pub has : task_at new.tasks seat ≡ now
  pub tasks : (k : ℕ) → (k ≡ seat → ⊥) → task_at new.tasks k ≡ task_at old.tasks k
  pub rows : (k : ℕ) → (k ≡ seat → ⊥) → row_at new.memory.rows k ≡ row_at old.memory.rows k
  pub turns : new.turns + (undos_left (row_at new.memory.rows seat) now
      + (paid old.limits.slice old.entries old.tried + allowance old.limits.slice (row_at old.memory.rows seat) was))
      ≤ old.turns + (undos_left (row_at old.memory.rows seat) was
      + (paid old.limits.slice new.entries new.tried + allowance old.limits.slice (row_at new.memory.rows seat) now))
  pub inputs : (attempt : Attempt) → attempt_of now ≡ Some attempt → length (row_at new.memory.rows seat).inputs ≤ attempt.tried.steps + old.limits.slice
  pub undos : length (row_at new.memory.rows seat).undos ≤ length (row_at new.memory.rows seat).inputs
  pub going : new.stopped ≡ false → old.stopped ≡ false
  pub told : new.stopped ≡ false → IsToldInTime now

module _ (old new : Parts) (a : HasPaidTurns old) (seat : ℕ) (was now : Task) (st : PaidStep old new seat was now) where
  -- The sum over seats of a number that depends on a row and its task.
  sums : (f : Log Val → Task → ℕ)
      → over_seats old.limits.seats (λ k. f (row_at new.memory.rows k) (task_at new.tasks k)) + f (row_at old.memory.rows seat) was
      ≡ over_seats old.limits.seats (λ k. f (row_at old.memory.rows k) (task_at old.tasks k)) + f (row_at new.memory.rows seat) now
  sums f =
      let one =
      over-one old.limits.seats seat (λ k. f (row_at old.memory.rows k) (task_at old.tasks k)) (λ k. f (row_at new.memory.rows k) (task_at new.tasks k))
      (λ k apart.
      ap (λ (notes : Log Val). f notes (task_at new.tasks k)) (st.rows k apart)
      ∙ ap (λ (task : Task). f (row_at old.memory.rows k) task) (st.tasks k apart))
      st.within in
      let o = ap (λ (task : Task). f (row_at old.memory.rows seat) task) st.had in
      let n = ap (λ (task : Task). f (row_at new.memory.rows seat) task) st.has in omega arith

  turns : new.turns + all_undos_left new ≤ paid new.limits.slice new.entries new.tried + allowances new
  turns =
      let undos = sums undos_left in
      let allowed = sums (allowance old.limits.slice) in
      let wide_undos : all_undos_left new ≡ over_seats old.limits.seats (λ k. undos_left (row_at new.memory.rows k) (task_at new.tasks k)) =
      ap (λ (l : Limits). over_seats l.seats (λ k. undos_left (row_at new.memory.rows k) (task_at new.tasks k))) st.limits in
      let wide_allowed
      : allowances new ≡ over_seats old.limits.seats (λ k. allowance old.limits.slice (row_at new.memory.rows k) (task_at new.tasks k)) =
      ap (λ (l : Limits). over_seats l.seats (λ k. allowance l.slice (row_at new.memory.rows k) (task_at new.tasks k))) st.limits in
      let wide_paid : paid new.limits.slice new.entries new.tried ≡ paid old.limits.slice new.entries new.tried =
      ap (λ (l : Limits). paid l.slice new.entries new.tried) st.limits in
      sum-up new.turns (all_undos_left new) (over_seats old.limits.seats (λ k. undos_left (row_at new.memory.rows k) (task_at new.tasks k)))
      (paid new.limits.slice new.entries new.tried) (paid old.limits.slice new.entries new.tried) (allowances new)
      (over_seats old.limits.seats (λ k. allowance old.limits.slice (row_at new.memory.rows k) (task_at new.tasks k))) old.turns (all_undos_left old)
      (paid old.limits.slice old.entries old.tried) (allowances old) (undos_left (row_at old.memory.rows seat) was)
      (undos_left (row_at new.memory.rows seat) now) (allowance old.limits.slice (row_at old.memory.rows seat) was)
      (allowance old.limits.slice (row_at new.memory.rows seat) now) a.turns wide_undos wide_paid wide_allowed undos allowed st.turns
    where
      sum-up : (t o o2 p p2 w w2 t0 o0 p0 w0 ow on aw an : ℕ) → t0 + o0 ≤ p0 + w0 → o ≡ o2 → p ≡ p2 → w ≡ w2 → o2 + ow ≡ o0 + on → w2 + aw ≡ w0 + an
          → t + (on + (p0 + aw)) ≤ t0 + (ow + (p2 + an)) → t + o ≤ p + w
      sum-up t o o2 p p2 w w2 t0 o0 p0 w0 ow on aw an h a b c d e f = omega arith

  inputs : (k : ℕ) (attempt : Attempt) → attempt_of (task_at new.tasks k) ≡ Some attempt
      → length (row_at new.memory.rows k).inputs ≤ attempt.tried.steps + new.limits.slice
  inputs k attempt e = by (which k seat)
    where
      by : (k ≡ seat) ⊎ ((k ≡ seat) → ⊥) → length (row_at new.memory.rows k).inputs ≤ attempt.tried.steps + new.limits.slice
      by (inl same) =
          let slice = ap (λ (l : Limits). l.slice) st.limits in
          let row = ap (λ (m : ℕ). length (row_at new.memory.rows m).inputs) same in
          let h = st.inputs attempt (ap attempt_of (sym st.has) ∙ ap (λ (m : ℕ). attempt_of (task_at new.tasks m)) (sym same) ∙ e) in omega arith
      by (inr apart) =
          let slice = ap (λ (l : Limits). l.slice) st.limits in
          let row = ap (λ (notes : Log Val). length notes.inputs) (st.rows k apart) in
          let h = a.inputs k attempt (ap attempt_of (sym (st.tasks k apart)) ∙ e) in omega arith

  undos : (k : ℕ) → length (row_at new.memory.rows k).undos ≤ length (row_at new.memory.rows k).inputs
  undos k = by (which k seat)
    where
      by : (k ≡ seat) ⊎ ((k ≡ seat) → ⊥) → length (row_at new.memory.rows k).undos ≤ length (row_at new.memory.rows k).inputs
      by (inl same) = subst (λ (m : ℕ). length (row_at new.memory.rows m).undos ≤ length (row_at new.memory.rows m).inputs) (sym same) st.undos
      by (inr apart) = subst (λ (notes : Log Val). length notes.undos ≤ length notes.inputs) (sym (st.rows k apart)) (a.undos k)

  told : new.stopped ≡ false → (k : ℕ) → IsToldInTime (task_at new.tasks k)
  told going k = by (which k seat)
    where
      by : (k ≡ seat) ⊎ ((k ≡ seat) → ⊥) → IsToldInTime (task_at new.tasks k)
      by (inl same) = subst (λ (m : ℕ). IsToldInTime (task_at new.tasks m)) (sym same) (subst IsToldInTime (sym st.has) (st.told going))
      by (inr apart) = subst IsToldInTime (sym (st.tasks k apart)) (a.told (st.going going) k)

  pub paid-step : HasPaidTurns new
  paid-step = record {
    some_slice = let slice = ap (λ (l : Limits). l.slice) st.limits in let h = a.some_slice in omega arith;
    turns = turns;
    inputs = inputs;
    undos = undos;
    told = told;
  }

-- Allowances, with an entry for the attempt or without

pub untold : (told : Bool) (x : ℕ) → told ≡ false → (if told then 0 else x) ≡ x
untold told x e = ap (λ (b : Bool). if b then 0 else x) e

pub told-none : (told : Bool) (x : ℕ) → told ≡ true → (if told then 0 else x) ≡ 0
told-none told x e = ap (λ (b : Bool). if b then 0 else x) e

pub told-less : (told : Bool) (x : ℕ) → (if told then 0 else x) ≤ x
told-less true x = omega arith
told-less false x = omega arith

-- The turns for which an entry or an attempt pays

pub paid-entry : (slice : ℕ) (entries : List Entry) (e : Entry) (tried : List Tried)
    → paid slice (entries ++ e ∷ []) tried ≡ paid slice entries tried + 3 * (e.steps + 1)
paid-entry slice entries e tried = let h = sum_by_push (λ (x : Entry). x.steps + 1) entries e in omega arith

pub paid-try : (slice : ℕ) (entries : List Entry) (attempt : Attempt) (tried : List Tried)
    → paid slice entries (with_try attempt tried) ≡ paid slice entries tried + (if attempt.logged then 0 else 3 * (attempt.tried.steps + slice + 1))
paid-try slice entries attempt tried = by attempt.logged
  where
    by : (b : Bool) → paid slice entries (if b then tried else tried ++ attempt.tried ∷ [])
        ≡ paid slice entries tried + (if b then 0 else 3 * (attempt.tried.steps + slice + 1))
    by true = omega arith
    by false = let h = sum_by_push (λ (x : Tried). x.steps + slice + 1) tried attempt.tried in omega arith
