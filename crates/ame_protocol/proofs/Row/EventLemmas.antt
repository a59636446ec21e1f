-- The events of a seat are framed for every other seat.
use Rattle.std.proofs.Common.{◌≡◌, ℕ, ◌+◌, ◌<◌, ◌≤◌, ◌⊎◌, inl, inr, Option, Some, MatchOption, refl, sym, ap, ◌∙◌, subst, arith}
use Rattle.ame_term.specs.Tree.{Val}
use Rattle.ame_store.specs.declared.cell.Cell.{Cell}
use Rattle.ame_store.specs.Cells.{IsOwnedBy, IsFree}
use Rattle.ame_store.specs.Changes.{let_go, released, restored, replaced}
use Rattle.ame_store.specs.Writes.{taken_by}
use Rattle.ame_protocol.specs.Row.Heap.{Heap, cell_at, IsCell, IsLive}
use Rattle.ame_protocol.specs.Row.Framed.{IsChangedByOthers, IsFramedAt, IsFramed}
use Rattle.ame_protocol.specs.Row.Changed.{BecomesAt, KeepsCommitted, ReleasesAll}
use Rattle.ame_protocol.proofs.Row.CellLemmas.{which, free_or_owned, free-apart, other-apart}

-- one location is framed, and the others stay
pub framed-one : (seat : ℕ) (old new : Heap) (l : ℕ) (cell : Cell Val) → BecomesAt old new l cell → ((m : ℕ) → (m ≡ l → ⊥) → new.committed m ≡ old.committed m)
    → IsFramedAt seat old new l → IsFramed seat old new
framed-one seat old new l cell b k at_it = record { places = λ m. by m (which m l); longer = b.longer }
  where
    by : (m : ℕ) → (m ≡ l) ⊎ ((m ≡ l) → ⊥) → IsFramedAt seat old new m
    by m (inl same) = subst (IsFramedAt seat old new) (sym same) at_it
    by m (inr apart) = IsFramedAt.stays (b.others m apart) (k m apart)

module _ (seat other : ℕ) (apart : (other ≡ seat) → ⊥) where
  taken-changed : (v : Val) (cell : Cell Val) → IsFree cell → IsChangedByOthers seat cell (taken_by other v cell)
  taken-changed v cell free = record {
    before = free-apart seat cell free;
    after = other-apart seat other (taken_by other v cell) refl apart;
    number = omega arith;
    sort = refl;
    lives = λ live. live;
    revives = λ live. inl live;
  }

  again-changed : (v : Val) (cell : Cell Val) → IsOwnedBy other cell → IsChangedByOthers seat cell (record cell { value = v })
  again-changed v cell its = record {
    before = other-apart seat other cell its apart;
    after = other-apart seat other (record cell { value = v }) its apart;
    number = subst (λ (o : Option ℕ). MatchOption o (cell.number < cell.number) (λ _. cell.number ≤ cell.number)) (sym its) (omega arith);
    sort = refl;
    lives = λ live. live;
    revives = λ live. inl live;
  }

  restored-changed : (v : Val) (cell : Cell Val) → IsOwnedBy other cell → IsChangedByOthers seat cell (restored v cell)
  restored-changed v cell its = record {
    before = other-apart seat other cell its apart;
    after = free-apart seat (restored v cell) refl;
    number = omega arith;
    sort = refl;
    lives = λ live. live;
    revives = λ live. inl live;
  }

  killed-changed : (cell : Cell Val) → IsOwnedBy other cell → IsChangedByOthers seat cell (let_go cell)
  killed-changed cell its = record {
    before = other-apart seat other cell its apart;
    after = free-apart seat (let_go cell) refl;
    number = omega arith;
    sort = refl;
    lives = λ live. live;
    revives = λ live. inl live;
  }

  released-changed : (cell : Cell Val) → IsOwnedBy other cell → IsLive cell ⊎ (cell.number ≡ 1) → IsChangedByOthers seat cell (released cell)
  released-changed cell its reached = record {
    before = other-apart seat other cell its apart;
    after = free-apart seat (released cell) refl;
    number = omega arith;
    sort = refl;
    lives = λ live. refl;
    revives = λ live. reached;
  }

  module _ (old new : Heap) (l : ℕ) (k : KeepsCommitted old new) where
    changed-one : (cell : Cell Val) → BecomesAt old new l cell → IsChangedByOthers seat (cell_at old l) cell → IsFramed seat old new
    changed-one cell b c =
        framed-one seat old new l cell b (λ m _. k m) (IsFramedAt.changed (subst (IsChangedByOthers seat (cell_at old l)) (sym b.there) c))

    pub taken-framed : (v : Val) → IsFree (cell_at old l) → BecomesAt old new l (taken_by other v (cell_at old l)) → IsFramed seat old new
    taken-framed v free b = changed-one (taken_by other v (cell_at old l)) b (taken-changed v (cell_at old l) free)

    pub again-framed : (v : Val) → IsOwnedBy other (cell_at old l) → BecomesAt old new l (record (cell_at old l) { value = v }) → IsFramed seat old new
    again-framed v its b = changed-one (record (cell_at old l) { value = v }) b (again-changed v (cell_at old l) its)

    pub restored-framed : (v : Val) → IsOwnedBy other (cell_at old l) → BecomesAt old new l (restored v (cell_at old l)) → IsFramed seat old new
    restored-framed v its b = changed-one (restored v (cell_at old l)) b (restored-changed v (cell_at old l) its)

    pub killed-framed : IsOwnedBy other (cell_at old l) → BecomesAt old new l (let_go (cell_at old l)) → IsFramed seat old new
    killed-framed its b = changed-one (let_go (cell_at old l)) b (killed-changed (cell_at old l) its)

  pub commit-framed : (old new : Heap) → ReleasesAll other old new → ((l : ℕ) → (IsOwnedBy other (cell_at old l) → ⊥) → new.committed l ≡ old.committed l)
      → ((l : ℕ) → IsOwnedBy other (cell_at old l) → IsLive (cell_at old l) ⊎ ((cell_at old l).number ≡ 1)) → IsFramed seat old new
  commit-framed old new releases k reached = record { places = λ l. by l (free_or_owned (cell_at old l)); longer = releases.longer }
    where
      stay : (l : ℕ) → (IsOwnedBy other (cell_at old l) → ⊥) → IsFramedAt seat old new l
      stay l not_its = IsFramedAt.stays (releases.others l not_its) (k l not_its)

      owned : (l owner : ℕ) → IsOwnedBy owner (cell_at old l) → (owner ≡ other) ⊎ ((owner ≡ other) → ⊥) → IsFramedAt seat old new l
      owned l owner its (inl same) =
          let own : IsOwnedBy other (cell_at old l) = its ∙ ap Some same in
          IsFramedAt.changed (subst (IsChangedByOthers seat (cell_at old l)) (sym (releases.own l own)) (released-changed (cell_at old l) own (reached l own)))
      owned l owner its (inr differs) = stay l (other-apart other owner (cell_at old l) its differs)

      by : (l : ℕ) → IsFree (cell_at old l) ⊎ ((owner : ℕ) × IsOwnedBy owner (cell_at old l)) → IsFramedAt seat old new l
      by l (inl free) = stay l (free-apart other (cell_at old l) free)
      by l (inr x) = owned l x.0 x.1 (which x.0 other)

-- unprotected code, and cells that are new

put-changed : (seat : ℕ) (v : Val) (cell : Cell Val) → IsFree cell → IsChangedByOthers seat cell (replaced v cell)
put-changed seat v cell free = record {
  before = free-apart seat cell free;
  after = free-apart seat cell free;
  number = subst (λ (o : Option ℕ). MatchOption o (cell.number < cell.number + 2) (λ _. cell.number ≤ cell.number + 2)) (sym free) (omega arith);
  sort = refl;
  lives = λ live. live;
  revives = λ live. inl live;
}

pub put-framed : (seat : ℕ) (old new : Heap) (l : ℕ) (v : Val) → IsFree (cell_at old l) → BecomesAt old new l (replaced v (cell_at old l))
    → ((m : ℕ) → (m ≡ l → ⊥) → new.committed m ≡ old.committed m) → IsFramed seat old new
put-framed seat old new l v free b k =
    framed-one seat old new l (replaced v (cell_at old l)) b k
    (IsFramedAt.changed (subst (IsChangedByOthers seat (cell_at old l)) (sym b.there) (put-changed seat v (cell_at old l) free)))

pub new-framed : (seat : ℕ) (old new : Heap) (l : ℕ) (cell : Cell Val) → (IsCell old l → ⊥) → (IsOwnedBy seat cell → ⊥) → BecomesAt old new l cell
    → ((m : ℕ) → (m ≡ l → ⊥) → new.committed m ≡ old.committed m) → IsFramed seat old new
new-framed seat old new l cell none apart b k =
    framed-one seat old new l cell b k (IsFramedAt.born none (λ own. apart (subst (IsOwnedBy seat) b.there own)))
