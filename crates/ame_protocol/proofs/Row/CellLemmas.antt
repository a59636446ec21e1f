-- Cells by location.
use Rattle.std.proofs.Common.{◌≡◌, ℕ, zero, suc, ◌<◌, ◌==◌, ◌⊎◌, inl, inr, Bool, true, false, List, [], ◌∷◌, length, Option, Some, None, refl, sym, ap, ◌∙◌, arith}
use Rattle.std.specs.Prelude.{slice_index_or}
use Rattle.std.specs.List.{AllByRecursion}
use Rattle.std.proofs.lemmas.Bool.{eqb-true, eqb-false}
use Rattle.ame_term.specs.Tree.{Val}
use Rattle.ame_store.specs.declared.cell.Cell.{Cell}
use Rattle.ame_store.specs.Cells.{IsOwnedBy, IsFree, IsDead}
use Rattle.ame_protocol.specs.Row.Heap.{Heap, no_cell, cell_at, IsCell, IsLive}
use Rattle.ame_protocol.specs.Row.Changed.{BecomesAt}

pub each : {X : Type 0} (P Q : X → Type 0) → ((x : X) → P x → Q x) → (xs : List X) → AllByRecursion P xs → AllByRecursion Q xs
each P Q f [] all = tt
each P Q f (x ∷ xs) all = (f x all.0, each P Q f xs all.1)

-- two locations are one, or they aren't
pub which : (m l : ℕ) → (m ≡ l) ⊎ ((m ≡ l) → ⊥)
which m l = by (m == l) refl
  where
    by : (b : Bool) → (m == l) ≡ b → (m ≡ l) ⊎ ((m ≡ l) → ⊥)
    by true e = inl (eqb-true m l e)
    by false e = inr (eqb-false m l e)

pub live_or_dead : (cell : Cell Val) → IsLive cell ⊎ IsDead cell
live_or_dead cell = by cell.live refl
  where
    by : (b : Bool) → cell.live ≡ b → IsLive cell ⊎ IsDead cell
    by true e = inl e
    by false e = inr e

pub free_or_owned : (cell : Cell Val) → IsFree cell ⊎ ((owner : ℕ) × IsOwnedBy owner cell)
free_or_owned cell = by cell.owner refl
  where
    by : (o : Option ℕ) → cell.owner ≡ o → IsFree cell ⊎ ((owner : ℕ) × IsOwnedBy owner cell)
    by None e = inl e
    by (Some owner) e = inr (owner, e)

pub free-apart : (seat : ℕ) (cell : Cell Val) → IsFree cell → IsOwnedBy seat cell → ⊥
free-apart seat cell free own = let clash : ◌≡◌ {A = Option ℕ} None (Some seat) = sym free ∙ own in cc

pub other-apart : (seat other : ℕ) (cell : Cell Val) → IsOwnedBy other cell → (other ≡ seat → ⊥) → IsOwnedBy seat cell → ⊥
other-apart seat other cell its apart own = let both : ◌≡◌ {A = Option ℕ} (Some other) (Some seat) = sym its ∙ own in apart cc

pub dead-apart : (cell : Cell Val) → IsDead cell → IsLive cell → ⊥
dead-apart cell dead live = let clash : false ≡ true = sym dead ∙ live in cc

-- what is owned or live is there
owned-within : (seat : ℕ) (cells : List (Cell Val)) (l : ℕ) → (slice_index_or cells l no_cell).owner ≡ Some seat → l < length cells
owned-within seat [] l e = cc
owned-within seat (c ∷ cells) zero e = omega arith
owned-within seat (c ∷ cells) (suc l) e = let rest = owned-within seat cells l e in omega arith

live-within : (cells : List (Cell Val)) (l : ℕ) → (slice_index_or cells l no_cell).live ≡ true → l < length cells
live-within [] l e = cc
live-within (c ∷ cells) zero e = omega arith
live-within (c ∷ cells) (suc l) e = let rest = live-within cells l e in omega arith

pub owned_cell : (heap : Heap) (seat l : ℕ) → IsOwnedBy seat (cell_at heap l) → IsCell heap l
owned_cell heap seat l own = owned-within seat heap.cells l own

pub live_cell : (heap : Heap) (l : ℕ) → IsLive (cell_at heap l) → IsCell heap l
live_cell heap l live = live-within heap.cells l live

-- the cells after one has become another
pub after : (old new : Heap) (l : ℕ) (cell : Cell Val) → BecomesAt old new l cell → (m : ℕ)
    → ((m ≡ l) × (cell_at new m ≡ cell)) ⊎ (((m ≡ l) → ⊥) × (cell_at new m ≡ cell_at old m))
after old new l cell b m = by (which m l)
  where
    by : (m ≡ l) ⊎ ((m ≡ l) → ⊥) → ((m ≡ l) × (cell_at new m ≡ cell)) ⊎ (((m ≡ l) → ⊥) × (cell_at new m ≡ cell_at old m))
    by (inl same) = inl (same, ap (cell_at new) same ∙ b.there)
    by (inr apart) = inr (apart, b.others m apart)
