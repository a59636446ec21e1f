-- Sums over seats.
use Rattle.std.proofs.Common.{◌≡◌, ℕ, zero, suc, ◌+◌, ◌<◌, ◌≤◌, ◌⊎◌, inl, inr, refl, ap, arith}
use Rattle.ame_protocol.proofs.Row.CellLemmas.{which}
use Rattle.ame_protocol.specs.Bounds.Seats.{over_seats}

-- below a seat nothing has changed
over-below : (n seat : ℕ) (old new : ℕ → ℕ) → ((k : ℕ) → (k ≡ seat → ⊥) → new k ≡ old k) → n ≤ seat → over_seats n new ≡ over_seats n old
over-below zero seat old new same below = refl
over-below (suc n) seat old new same below =
    let a = same n (λ e. absurd (omega arith)) in let b = over-below n seat old new same (omega arith) in omega arith

-- at one seat the number is another one
pub over-one : (n seat : ℕ) (old new : ℕ → ℕ) → ((k : ℕ) → (k ≡ seat → ⊥) → new k ≡ old k) → seat < n
    → over_seats n new + old seat ≡ over_seats n old + new seat
over-one zero seat old new same within = absurd (omega arith)
over-one (suc n) seat old new same within = by (which n seat) (λ below. over-one n seat old new same below)
  where
    by : (n ≡ seat) ⊎ ((n ≡ seat) → ⊥) → (seat < n → over_seats n new + old seat ≡ over_seats n old + new seat)
        → over_seats (suc n) new + old seat ≡ over_seats (suc n) old + new seat
    by (inl here) rest =
        let below = over-below n seat old new same (omega arith) in
        let o : old n ≡ old seat = ap old here in let w : new n ≡ new seat = ap new here in omega arith
    by (inr apart) rest = let a = same n apart in let more = rest (omega arith) in omega arith

-- each is none, or at most one
pub over-none : (n : ℕ) (f : ℕ → ℕ) → ((k : ℕ) → f k ≡ 0) → over_seats n f ≡ 0
over-none zero f none = refl
over-none (suc n) f none = let a = none n in let b = over-none n f none in omega arith

pub over-few : (n : ℕ) (f : ℕ → ℕ) → ((k : ℕ) → f k ≤ 1) → over_seats n f ≤ n
over-few zero f few = omega arith
over-few (suc n) f few = let a = few n in let b = over-few n f few in omega arith
