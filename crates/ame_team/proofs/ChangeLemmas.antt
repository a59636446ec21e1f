-- A list after one item was changed.
use Rattle.std.proofs.Common.{ℕ, ◌<◌, List, [], ◌∷◌, length, slice_index_or, zero, suc, refl, arith}
use Rattle.std.specs.Prelude.{slice_set}
use Rattle.ame_worker.specs.declared.worker.Worker.{Worker}
use Rattle.ame_team.specs.Teams.{KeepSeats}

-- a relation that each item has to itself, and one to what comes in its place, each has to what stands there then
pub related_at : {A : Type 0} (R : A → A → Type 0) → ((x : A) → R x x) → (xs : List A) (n : ℕ) (e y : A) → n < length xs → R (slice_index_or xs n e) y
    → (i : ℕ) (d : A) → i < length xs → R (slice_index_or xs i d) (slice_index_or (slice_set xs n y) i d)
related_at R same [] n e y there changed i d within = absurd (omega (arith, within))
related_at R same (x ∷ xs) zero e y there changed zero d within = changed
related_at R same (x ∷ xs) zero e y there changed (suc i) d within = same (slice_index_or xs i d)
related_at R same (x ∷ xs) (suc n) e y there changed zero d within = same x
related_at R same (x ∷ xs) (suc n) e y there changed (suc i) d within = related_at R same xs n e y (omega (arith, there)) changed i d (omega (arith, within))

-- workers that stay as they are keep their seats
pub keep-same : {M K D C V : Type 0} (workers : List (Worker M K D C V)) → KeepSeats workers workers
keep-same workers = record { count = refl; each = λ i d within. record { number = refl; fixed = refl; seats = refl; made = refl; ended = refl } }
