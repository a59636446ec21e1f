-- The seats that may be picked, while others wait.
use Rattle.std.specs.Prelude.{◌≡◌, ◌+◌, ◌<◌, ◌≤◌, ◌^◌, ℕ, Bool, true, false, List, [], ◌∷◌, Vec, vec_len, vec_capacity}
use Rattle.std.specs.declared.alloc.Global.{Global}

-- the seats that don't wait, rising, if the first flag is that of this seat
abbrev pub seats_from : ℕ → List Bool → List ℕ
seats_from seat [] = []
seats_from seat (true ∷ waits) = seats_from (seat + 1) waits
seats_from seat (false ∷ waits) = seat ∷ seats_from (seat + 1) waits

-- the seats that don't wait, rising, by a flag for each seat
abbrev pub may_be_picked : List Bool → List ℕ
may_be_picked waits = seats_from 0 waits

-- a list has them, in room for all seats
pub record IsListOf (waits : Vec Bool Global) (may : Vec ℕ Global) : Type 0 where
  pub items : may.items ≡ may_be_picked waits.items
  pub room : vec_len waits ≤ vec_capacity may
  pub range : vec_len waits < 2 ^ 32
