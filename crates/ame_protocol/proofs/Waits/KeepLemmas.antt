-- Members that wait, under the events of seats that don't have them.
use Rattle.std.proofs.Common.{◌≡◌, ℕ, suc, ◌≤◌, ◌⊎◌, inl, inr, List, [], ◌∷◌, Option, Some, None, sym, ap, ◌∙◌, subst, arith}
use Rattle.std.specs.List.{AllByRecursion}
use Rattle.ame_term.specs.Tree.{Val}
use Rattle.ame_store.specs.declared.cell.Cell.{Cell}
use Rattle.ame_store.specs.Cells.{IsOwnedBy}
use Rattle.ame_machine.specs.Run.Local.{LocalState}
use Rattle.ame_protocol.specs.Row.Heap.{Heap, cell_at}
use Rattle.ame_protocol.specs.Row.SeatRun.{SeatRun}
use Rattle.ame_protocol.specs.Row.Waiting.{IsGone, IsWaiting}
use Rattle.ame_protocol.proofs.Row.CellLemmas.{which}
use Rattle.ame_protocol.proofs.Row.WaitingLemmas.{waits-on}
use Rattle.ame_protocol.specs.Engine.Parts.{Parts, heap_in, task_at, member_of}
use Rattle.ame_protocol.specs.Waits.Left.{LeavesOthers, StaysNoted, HasWaited}
use Rattle.ame_protocol.specs.Waits.Waiting.{MayHave, HasFailed, AreWaiting}

all-both : {X : Type 0} (P Q R : X → Type 0) → ((x : X) → P x → Q x → R x) → (xs : List X) → AllByRecursion P xs → AllByRecursion Q xs → AllByRecursion R xs
all-both P Q R f [] ps qs = tt
all-both P Q R f (x ∷ xs) ps qs = (f x ps.0 qs.0, all-both P Q R f xs ps.1 qs.1)

-- what waits by two seats waits by each one: no seat has what it made
module _ (heap : Heap) (one other seat : ℕ) (apart : one ≡ other → ⊥) where
  gone-any : (cell : Cell Val) → IsGone one cell → IsGone other cell → IsGone seat cell
  gone-any cell x y = record { dead = x.dead; over = by x.over y.over }
    where
      by : (2 ≤ cell.number) ⊎ (IsOwnedBy one cell × (cell.number ≡ 1)) → (2 ≤ cell.number) ⊎ (IsOwnedBy other cell × (cell.number ≡ 1))
          → (2 ≤ cell.number) ⊎ (IsOwnedBy seat cell × (cell.number ≡ 1))
      by (inl two) its = inl two
      by (inr a) (inl two) = inl two
      by (inr a) (inr b) = absurd (let both : ◌≡◌ {A = Option ℕ} (Some one) (Some other) = sym a.0 ∙ b.0 in apart cc)

  pub waits-any : (watched : List ℕ) (run : SeatRun) (n : ℕ) (p : LocalState) → IsWaiting heap one watched run n p → IsWaiting heap other watched run n p
      → IsWaiting heap seat watched run n p
  waits-any watched run n p a b = record {
    place = a.place;
    fails = a.fails;
    seen = a.seen;
    own = a.own;
    made =
        all-both (λ e. IsGone one (cell_at heap e.0) × (e.1 ≡ None)) (λ e. IsGone other (cell_at heap e.0) × (e.1 ≡ None))
        (λ e. IsGone seat (cell_at heap e.0) × (e.1 ≡ None))
        (λ e x y. (gone-any (cell_at heap e.0) x.0 y.0, x.1)) p.made a.made b.made;
    sorts = a.sorts;
  }

module _ (old new : Parts) (seat : ℕ) (leaves : LeavesOthers old new seat) (i : ℕ) (watched : List ℕ) (not-its : member_of (task_at old.tasks seat) ≡ Some i
    → ⊥)
    (st : StaysNoted old new i watched) (h : HasFailed old i watched) where
  had-by : (k : ℕ) → MayHave new.tasks k i → (other : ℕ) → member_of (task_at old.tasks other) ≡ Some i → ((other ≡ seat) → ⊥) × (other ≡ k)
  had-by k may other e = by (which other seat)
    where
      by : (other ≡ seat) ⊎ ((other ≡ seat) → ⊥) → ((other ≡ seat) → ⊥) × (other ≡ k)
      by (inl same) = absurd (not-its (subst (λ (m : ℕ). member_of (task_at old.tasks m) ≡ Some i) same e))
      by (inr apart) = (apart, may other (ap member_of (leaves.tasks other apart) ∙ e))

  carry : (k : ℕ) → (k ≡ seat → ⊥) → MayHave old.tasks k i → IsWaiting (heap_in new) k watched h.run h.note.steps h.place
  carry k apart may = waits-on k (heap_in old) (heap_in new) (leaves.framed k apart) watched h.run h.note.steps h.place st.committed (h.waits k may)

  later : (m : ℕ) → suc m ≡ m → ⊥
  later m e = omega arith

  latest : (m : ℕ) → suc (suc m) ≡ m → ⊥
  latest m e = omega arith

  still-waits : (k : ℕ) → MayHave new.tasks k i → (k ≡ seat) ⊎ ((k ≡ seat) → ⊥) → IsWaiting (heap_in new) k watched h.run h.note.steps h.place
  still-waits k may (inl same) =
      let nobody : (m : ℕ) → MayHave old.tasks m i = (λ m other e. let x = had-by k may other e in absurd (x.0 (x.1 ∙ same))) in
      waits-any (heap_in new) (suc seat) (suc (suc seat)) k (λ e. later (suc seat) (sym e)) watched h.run h.note.steps h.place
      (carry (suc seat) (later seat) (nobody (suc seat))) (carry (suc (suc seat)) (latest seat) (nobody (suc (suc seat))))
  still-waits k may (inr apart) = carry k apart (λ other e. (had-by k may other e).1)

  pub failed-still : HasFailed new i watched
  failed-still = record {
    note = h.note;
    last = st.last ∙ h.last;
    run = h.run;
    start = st.machine ∙ h.start;
    place = h.place;
    fresh = h.fresh;
    waits = λ k may. still-waits k may (which k seat);
  }

-- who waits after an event waited before, and not by the seat of the event
pub waited : (old new : Parts) (seat : ℕ) → LeavesOthers old new seat → (i : ℕ) (watched : List ℕ) → HasWaited old new seat i watched → AreWaiting old
    → HasFailed new i watched
waited old new seat leaves i watched w a = failed-still old new seat leaves i watched w.apart w.stays (a.failed i watched w.before)
